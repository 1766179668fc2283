-- Frames: data with their parity are one, a frame is zero at the 44 powers, no other list of 450 symbols is, and two frames differ in 45 places or more.
use mathlib.Core.Path.{◌≡◌, refl, sym, ap, ap₂, ◌∙◌, subst}
use mathlib.Core.Bool.{Bool, true, false, cond}
use mathlib.Core.List.{List, [], ◌∷◌, ◌++◌}
use Prim.Native.Nat.{ℕ, zero, suc, ◌+◌, ◌*◌, ◌≤◌, ◌<◌}
use native.Mathlib.Omega.{arith}
use lib.Dec.{eqb}
use borrow.Author.Tests.{eqb-true, eqb-false}
use lib.Bits.{xor_self}
use lib.ListN.{length, length-append, length-drop, replicate, take, drop, take-append-drop}
use lib.Seq.{take_at, drop_at, length-take-le}
use Rattle.polynomials.specs.Polynomials.{plus}
use Rattle.polynomials.proofs.Sums.{plus_length, plus_parts, plus_self}
use Rattle.frame_field.specs.Field.{◌⊕◌, symbols}
use Rattle.frame_field.proofs.ExclusiveOr.{equal_parts, symbol_sums}
use Rattle.frame_field.proofs.TimesAlpha.{alphas, alphas_zero}
use Rattle.frame_polynomial.specs.Frame.{all_symbols, parity_of, IsFrame, changes_in}
use Rattle.frame_polynomial.specs.FrameFacts.{ZeroAtThePowers}
use Rattle.frame_polynomial.proofs.SymbolLists.{Symbols, as_symbols, all_symbols_law, append_symbols, take_symbols, plus_symbols}
use Rattle.frame_polynomial.proofs.Distance.{value, mark, places, distance}
use Rattle.frame_polynomial.proofs.Values.{value_is, value_plus}
use Rattle.frame_polynomial.proofs.Roots.{parity_length, parity_symbols, frame_zero}

pub is_frame : (taken : List ℕ) → Symbols taken → length taken ≡ 406 → IsFrame (taken ++ parity_of taken)
is_frame taken b l =
    record {
      all = all_symbols_law (taken ++ parity_of taken) (append_symbols taken (parity_of taken) b (parity_symbols taken b));
      long = length-append taken (parity_of taken) ∙ (let p = parity_length taken in omega arith);
      right = drop_at taken (parity_of taken) 406 l ∙ ap parity_of (sym (take_at taken (parity_of taken) 406 l));
    }

frame_value : (i : ℕ) (f : List ℕ) → i < 44 → IsFrame f → value i f ≡ 0
frame_value i f h r =
    ap (value i) (sym (ap (λ (q : List ℕ). take 406 f ++ q) (sym r.right) ∙ take-append-drop 406 f))
    ∙ frame_zero i (take 406 f) h (take_symbols 406 f (as_symbols f r.all))

pub zero_at_the_powers : (f : List ℕ) → IsFrame f → ZeroAtThePowers f
zero_at_the_powers f r i h = value_is i f (as_symbols f r.all) ∙ frame_value i f h r

-- ---- two lists that are zero there
-- Their sum is, too; and if they differ in 44 places at most, they do not differ.
sum_zero : (i : ℕ) (f g : List ℕ) → length f ≡ length g → value i f ≡ 0 → value i g ≡ 0 → value i (plus symbols f g) ≡ 0
sum_zero i f g l e k =
    value_plus i 0 f g (omega arith) ∙ ap₂ (λ (x y : ℕ). alphas (i * 0) x ⊕ y) e k ∙ ap (λ (x : ℕ). x ⊕ 0) (alphas_zero (i * 0))

mark_differ : (a b : ℕ) → mark (a ⊕ b) ≡ cond (eqb a b) 0 1
mark_differ a b = by (eqb a b) refl
  where
    some : (x : ℕ) → (x ≡ 0 → ⊥) → mark x ≡ 1
    some zero n = absurd (n refl)
    some (suc x) n = refl

    by : (t : Bool) → eqb a b ≡ t → mark (a ⊕ b) ≡ cond t 0 1
    by true q = ap mark (ap (λ (x : ℕ). x ⊕ b) (eqb-true a b q) ∙ xor_self b)
    by false q = some (a ⊕ b) (λ e. eqb-false a b q (equal_parts a b e))

changed_places : (f g : List ℕ) → length f ≡ length g → places (plus symbols f g) ≡ changes_in f g
unfolding changes_in
changed_places [] [] h = refl
changed_places [] (b ∷ g) h = absurd (omega arith)
changed_places (a ∷ f) [] h = absurd (omega arith)
changed_places (a ∷ f) (b ∷ g) h = ap₂ ◌+◌ (mark_differ a b) (changed_places f g (omega arith))

not_few : (f g : List ℕ) → Symbols f → Symbols g → length f ≡ 450 → length g ≡ 450 → places (plus symbols f g) ≤ 44
    → ((i : ℕ) → i < 44 → value i f ≡ 0) → ((i : ℕ) → i < 44 → value i g ≡ 0) → places (plus symbols f g) ≡ 0
not_few f g b c l k m e z =
    distance 450 44 (plus symbols f g) (plus_length symbols f g (omega arith) ∙ k) (omega arith) (plus_symbols f g b c) m
    (λ i h. sum_zero i f g (l ∙ sym k) (e i h) (z i h))

pub changed : (f g : List ℕ) → IsFrame f → 1 ≤ changes_in f g → changes_in f g ≤ 44 → IsFrame g → ⊥
changed f g r l m s =
    let p = changed_places f g (r.long ∙ sym s.long) in
    let z = not_few f g (as_symbols f r.all) (as_symbols g s.all) r.long s.long (omega arith) (λ i h. frame_value i f h r) (λ i h. frame_value i g h s) in
    omega arith

-- ---- 450 symbols that are zero there
nothing_differs : (f g : List ℕ) → length f ≡ length g → places (plus symbols f g) ≡ 0 → f ≡ g
nothing_differs [] [] h e = refl
nothing_differs [] (b ∷ g) h e = absurd (omega arith)
nothing_differs (a ∷ f) [] h e = absurd (omega arith)
nothing_differs (a ∷ f) (b ∷ g) h e =
    ap₂ ◌∷◌ (equal_parts a b (unmarked (a ⊕ b) (omega arith))) (nothing_differs f g (omega arith) (omega arith))
  where
    unmarked : (x : ℕ) → mark x ≡ 0 → x ≡ 0
    unmarked zero e = refl
    unmarked (suc x) e = absurd (omega arith)

places_append : (p q : List ℕ) → places (p ++ q) ≡ places p + places q
places_append [] q = omega arith
places_append (s ∷ p) q = let r = places_append p q in omega arith

no_places : (n : ℕ) → places (replicate n 0) ≡ 0
no_places zero = refl
no_places (suc n) = let r = no_places n in omega arith

mark_most : (x : ℕ) → mark x ≤ 1
mark_most zero = omega arith
mark_most (suc x) = omega arith

most_places : (p : List ℕ) → places p ≤ length p
most_places [] = omega arith
most_places (s ∷ p) = let r = most_places p in let m = mark_most s in omega arith

pub no_others : (f : List ℕ) → all_symbols f ≡ true → length f ≡ 450 → ZeroAtThePowers f → IsFrame f
no_others f all l z = subst IsFrame (sym same) whole
  where
    taken : List ℕ
    taken = take 406 f

    b : Symbols f
    b = as_symbols f all

    rest_long : length (drop 406 f) ≡ 44
    rest_long = let d = length-drop 406 f in omega arith

    whole : IsFrame (take 406 f ++ parity_of (take 406 f))
    whole = is_frame (take 406 f) (take_symbols 406 f (as_symbols f all)) (length-take-le 406 f (omega arith))

    apart : plus symbols f (take 406 f ++ parity_of (take 406 f)) ≡ replicate (length (take 406 f)) 0 ++ plus symbols (drop 406 f) (parity_of (take 406 f))
    apart =
        ap (λ (l : List ℕ). plus symbols l (taken ++ parity_of taken)) (sym (take-append-drop 406 f))
        ∙ plus_parts symbols taken taken (drop 406 f) (parity_of taken) refl
        ∙ ap (λ (l : List ℕ). l ++ plus symbols (drop 406 f) (parity_of taken)) (plus_self symbol_sums taken)

    few : places (plus symbols f (take 406 f ++ parity_of (take 406 f))) ≤ 44
    few =
        let p = parity_length taken in
        let e = ap places apart ∙ places_append (replicate (length taken) 0) (plus symbols (drop 406 f) (parity_of taken)) in
        let n = no_places (length taken) in
        let m = most_places (plus symbols (drop 406 f) (parity_of taken)) in
        let k = plus_length symbols (drop 406 f) (parity_of taken) (omega (arith, rest_long)) in omega arith

    same : f ≡ take 406 f ++ parity_of (take 406 f)
    same =
        nothing_differs f (taken ++ parity_of taken) (l ∙ sym whole.long)
        (not_few f (taken ++ parity_of taken) b (as_symbols (taken ++ parity_of taken) whole.all) l whole.long few
        (λ i h. sym (value_is i f b) ∙ z i h) (λ i h. frame_value i (taken ++ parity_of taken) h whole))
