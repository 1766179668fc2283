-- A list of at most 511 symbols that is zero at n following powers of alpha from 1 on, and not zero in at most n places, is zero.
use mathlib.Core.Path.{◌≡◌, refl, sym, ap, ap₂, ◌∙◌}
use mathlib.Core.List.{List, [], ◌∷◌}
use Prim.Native.Nat.{ℕ, zero, suc, ◌+◌, ◌-◌, ◌*◌, ◌≤◌, ◌<◌}
use native.Mathlib.Omega.{arith}
use lib.Bits.{xor_self, xor_zero_l, xor_zero_r, xor_lt}
use lib.ListN.{length}
use Rattle.frame_field.specs.Field.{◌⊕◌}
use Rattle.frame_field.proofs.ExclusiveOr.{swap, equal_parts}
use Rattle.frame_field.proofs.TimesAlpha.{alphas, alphas_sum, alphas_zero, alphas_none, alphas_below, alphas_add, alphas_swap}
use Rattle.frame_field.proofs.PowersOfAlpha.{moved}
use Rattle.frame_polynomial.proofs.SymbolLists.{Symbols}

-- One for a number that is not zero, and the number of places in a list that are not.
abbrev pub mark : ℕ → ℕ
mark zero = 0
mark (suc s) = 1

abbrev pub places : List ℕ → ℕ
places [] = 0
places (s ∷ l) = mark s + places l

-- The value at alpha^i.
abbrev pub value : ℕ → List ℕ → ℕ
value i [] = 0
value i (s ∷ l) = alphas (i * length l) s ⊕ value i l

-- Each coefficient s of x^n becomes s * (alpha^n + alpha^m).
abbrev shortened : ℕ → List ℕ → List ℕ
shortened m [] = []
shortened m (s ∷ l) = (alphas (length l) s ⊕ alphas m s) ∷ shortened m l

shortened_length : (m : ℕ) (l : List ℕ) → length (shortened m l) ≡ length l
shortened_length m [] = refl
shortened_length m (s ∷ l) = ap suc (shortened_length m l)

shortened_value : (m i : ℕ) (l : List ℕ) → value i (shortened m l) ≡ value (suc i) l ⊕ alphas m (value i l)
shortened_value m i [] = sym (alphas_zero m)
shortened_value m i (s ∷ l) =
    ap₂ ◌⊕◌
    (ap (λ (n : ℕ). alphas (i * n) (alphas (length l) s ⊕ alphas m s)) (shortened_length m l)
    ∙ alphas_sum (i * length l) (alphas (length l) s) (alphas m s)
    ∙ ap₂ ◌⊕◌
    (sym (alphas_add (length l) (i * length l) s)
    ∙ ap (λ (n : ℕ). alphas n s) (let e : length l + i * length l ≡ suc i * length l = omega arith in e))
    (alphas_swap (i * length l) m s))
    (shortened_value m i l)
    ∙ swap (alphas (suc i * length l) s) (alphas m (alphas (i * length l) s)) (value (suc i) l) (alphas m (value i l))
    ∙ ap (λ (x : ℕ). (alphas (suc i * length l) s ⊕ value (suc i) l) ⊕ x) (sym (alphas_sum m (alphas (i * length l) s) (value i l)))

mark_same : (a b : ℕ) → (a ≡ 0 → b ≡ 0) → (b ≡ 0 → a ≡ 0) → mark a ≡ mark b
mark_same zero zero f g = refl
mark_same zero (suc b) f g = absurd (let z = f refl in omega arith)
mark_same (suc a) zero f g = absurd (let z = g refl in omega arith)
mark_same (suc a) (suc b) f g = refl

-- No place becomes zero or stops being zero by it.
kept : (n m s : ℕ) → n < m → m < 511 → s < 512 → alphas n s ⊕ alphas m s ≡ 0 → s ≡ 0
kept n m s h k b e =
    alphas_none n s
    (moved (m - n) (alphas n s) (omega arith) (omega arith) (alphas_below n s b)
    (sym (alphas_add n (m - n) s) ∙ ap (λ (j : ℕ). alphas j s) (let d : n + (m - n) ≡ m = omega arith in d) ∙ sym (equal_parts (alphas n s) (alphas m s) e)))

shortened_places : (m : ℕ) (l : List ℕ) → length l ≤ m → m < 511 → Symbols l → places (shortened m l) ≡ places l
shortened_places m [] h k b = refl
shortened_places m (s ∷ l) h k b =
    ap₂ ◌+◌
    (mark_same (alphas (length l) s ⊕ alphas m s) s (kept (length l) m s h k b.0)
    (λ z. ap (λ (x : ℕ). alphas (length l) x ⊕ alphas m x) z ∙ ap₂ ◌⊕◌ (alphas_zero (length l)) (alphas_zero m)))
    (shortened_places m l (omega arith) k b.1)

value_none : (i : ℕ) (l : List ℕ) → places l ≡ 0 → value i l ≡ 0
value_none i [] h = refl
value_none i (zero ∷ l) h = ap₂ ◌⊕◌ (alphas_zero (i * length l)) (value_none i l (omega arith))
value_none i (suc s ∷ l) h = absurd (omega arith)

shortened_symbols : (m : ℕ) (l : List ℕ) → Symbols l → Symbols (shortened m l)
shortened_symbols m [] b = tt
shortened_symbols m (s ∷ l) b =
    (xor_lt 9 (alphas (length l) s) (alphas m s) (alphas_below (length l) s b.0) (alphas_below m s b.0), shortened_symbols m l b.1)

-- The place at the top is gone.
vanish : (s i : ℕ) (f : List ℕ) → value i (s ∷ f) ≡ 0 → value (suc i) (s ∷ f) ≡ 0 → value i (shortened (length f) f) ≡ 0
vanish s i f e g =
    shortened_value (length f) i f
    ∙ ap₂ ◌⊕◌
    (sym (equal_parts (alphas (suc i * length f) s) (value (suc i) f) g)
    ∙ ap (λ (n : ℕ). alphas n s) (let d : suc i * length f ≡ i * length f + length f = omega arith in d)
    ∙ alphas_add (i * length f) (length f) s)
    (ap (alphas (length f)) (sym (equal_parts (alphas (i * length f) s) (value i f) e)))
    ∙ xor_self (alphas (length f) (alphas (i * length f) s))

pub distance : (k n : ℕ) (f : List ℕ) → length f ≡ k → k ≤ 511 → Symbols f → places f ≤ n
    → ((i : ℕ) → i < n → value i f ≡ 0) → places f ≡ 0
distance zero n [] l h b p v = refl
distance zero n (s ∷ f) l h b p v = absurd (omega arith)
distance (suc k) n [] l h b p v = refl
distance (suc k) n (zero ∷ f) l h b p v =
    let e = distance k n f (omega arith) (omega arith) b.1 (omega arith)
    (λ i j. sym (ap (λ (x : ℕ). x ⊕ value i f) (alphas_zero (i * length f)) ∙ xor_zero_l (value i f)) ∙ v i j) in omega arith
distance (suc k) zero (suc s ∷ f) l h b p v = absurd (omega arith)
distance (suc k) (suc n) (suc s ∷ f) l h b p v =
    let same = shortened_places (length f) f (omega arith) (omega arith) b.1 in
    let gone = distance k n (shortened (length f) f) (shortened_length (length f) f ∙ omega arith) (omega arith)
    (shortened_symbols (length f) f b.1) (omega arith) (λ i j. vanish (suc s) i f (v i (omega arith)) (v (suc i) (omega arith))) in
    let top = alphas_none (0 * length f) (suc s)
    (sym (xor_zero_r (alphas (0 * length f) (suc s)))
    ∙ ap (λ (x : ℕ). alphas (0 * length f) (suc s) ⊕ x) (sym (value_none 0 f (sym same ∙ gone)))
    ∙ v 0 (omega arith)) in absurd (omega arith)
