-- The laws of a word's fields: what was set is got, the other fields stay, a word stays a word. They are shown once over where a part
-- starts and how many bits it has, and then said of the fields by name.
use mathlib.Core.Path.{◌≡◌, refl, sym, ap, ◌∙◌, subst}
use mathlib.Core.Bool.{Bool, true, false, ◌||◌}
use mathlib.Core.List.{[], ◌∷◌}
use Prim.Native.Nat.{ℕ, suc, ◌+◌, ◌-◌, ◌*◌, ◌/◌, ◌%◌, ◌^◌, ◌<◌, ◌≤◌}
use native.Mathlib.Nat.{add_assoc, mul_assoc, mul_comm, add-mul, mod-lt, mod-eq_of_lt, one-mul, lt_of_le_of_lt, lt_of_lt_of_le, div-mul-le_self}
use native.Mathlib.Omega.{arith}
use lib.Arith.{digits_lt, digits_div, digits_mod}
use lib.Pow.{pow_pos, pow_mono, pow-add, shr_lt, shr-shr, mod-mod-pow, shl_exact}
use lib.Pow as pow
use lib.Dec.{leb}
use lib.ListN.{get_or}
use borrow.Author.Tests.{leb-true, leb-false, lt-leb}
use Rattle.page_word.proofs.ComputedTest.{every_below, at_each}
use Rattle.page_word.specs.declared.fields.Field.{Field}
use Rattle.page_word.specs.declared.fields.Field.TheVariants.{Selector, EchoedNonce, Pause, ForcedRole, RemoteFault, Ack, NextPage, Nonce, Abilities}
use Rattle.page_word.specs.Fields.{low_of, bits_in, part, with_part, field_of, with_field}

-- What is below the end of a part: its value above the bits before it.
within : (l b v w : ℕ) → v % 2 ^ b * 2 ^ l + w % 2 ^ l < 2 ^ (l + b)
within l b v w =
    subst (λ (x : ℕ). v % 2 ^ b * 2 ^ l + w % 2 ^ l < x) (mul_comm (2 ^ b) (2 ^ l) ∙ sym (pow-add 2 l b))
    (digits_lt (mod-lt v (pow_pos b)) (mod-lt w (pow_pos l)))

-- The same word, cut where the part starts.
cut : (l b v w : ℕ) → with_part l b v w ≡ (w / 2 ^ (l + b) * 2 ^ b + v % 2 ^ b) * 2 ^ l + w % 2 ^ l
unfolding with_part
cut l b v w =
    ap (λ (x : ℕ). x + (v % 2 ^ b * 2 ^ l + w % 2 ^ l))
    (ap (λ (x : ℕ). w / 2 ^ (l + b) * x) (pow-add 2 l b ∙ mul_comm (2 ^ l) (2 ^ b))
    ∙ sym (mul_assoc (w / 2 ^ (l + b)) (2 ^ b) (2 ^ l)))
    ∙ sym (add_assoc (w / 2 ^ (l + b) * 2 ^ b * 2 ^ l) (v % 2 ^ b * 2 ^ l) (w % 2 ^ l))
    ∙ ap (λ (x : ℕ). x + w % 2 ^ l) (sym (add-mul (w / 2 ^ (l + b) * 2 ^ b) (v % 2 ^ b) (2 ^ l)))

-- Getting after setting.
pub got : (l b v w : ℕ) → part l b (with_part l b v w) ≡ v % 2 ^ b
unfolding part
got l b v w =
    ap (λ (x : ℕ). x / 2 ^ l % 2 ^ b) (cut l b v w)
    ∙ ap (λ (x : ℕ). x % 2 ^ b) (digits_div (w / 2 ^ (l + b) * 2 ^ b + v % 2 ^ b) (mod-lt w (pow_pos l)))
    ∙ digits_mod (w / 2 ^ (l + b)) (mod-lt v (pow_pos b))

-- Setting a part keeps the bits below it,
low_kept : (l b v w k : ℕ) → k ≤ l → with_part l b v w % 2 ^ k ≡ w % 2 ^ k
low_kept l b v w k h = sym (mod-mod-pow (with_part l b v w) (l - k) k) ∙ ap (λ (x : ℕ). x % 2 ^ k) same ∙ mod-mod-pow w (l - k) k
  where
    e : l - k + k ≡ l
    e = omega arith

    same : with_part l b v w % 2 ^ (l - k + k) ≡ w % 2 ^ (l - k + k)
    same = rw e (ap (λ (x : ℕ). x % 2 ^ l) (cut l b v w) ∙ digits_mod (w / 2 ^ (l + b) * 2 ^ b + v % 2 ^ b) (mod-lt w (pow_pos l)))

-- and the bits above it.
high_kept : (l b v w k : ℕ) → l + b ≤ k → with_part l b v w / 2 ^ k ≡ w / 2 ^ k
unfolding with_part
high_kept l b v w k h =
    ap (λ (x : ℕ). with_part l b v w / 2 ^ x) e ∙ sym (shr-shr (with_part l b v w) (l + b) (k - (l + b)))
    ∙ ap (λ (x : ℕ). x / 2 ^ (k - (l + b))) (digits_div (w / 2 ^ (l + b)) (within l b v w))
    ∙ shr-shr w (l + b) (k - (l + b))
    ∙ ap (λ (x : ℕ). w / 2 ^ x) (sym e)
  where
    e : k ≡ l + b + (k - (l + b))
    e = omega arith

-- Setting one part keeps every part that lies wholly below it,
pub kept_below : (l b v w l' b' : ℕ) → b' + l' ≤ l → part l' b' (with_part l b v w) ≡ part l' b' w
unfolding part
kept_below l b v w l' b' h =
    sym (pow.field (with_part l b v w) b' l') ∙ ap (λ (x : ℕ). x / 2 ^ l') (low_kept l b v w (b' + l') h) ∙ pow.field w b' l'

-- and every one that lies wholly above it.
pub kept_above : (l b v w l' b' : ℕ) → l + b ≤ l' → part l' b' (with_part l b v w) ≡ part l' b' w
unfolding part
kept_above l b v w l' b' h = ap (λ (x : ℕ). x % 2 ^ b') (high_kept l b v w l' h)

-- A number of m bits stays one.
pub stays_below : (m l b v w : ℕ) → l + b ≤ m → w < 2 ^ m → with_part l b v w < 2 ^ m
unfolding with_part
stays_below m l b v w h hw =
    subst (λ (x : ℕ). with_part l b v w < x) (sym (pow-add 2 (m - (l + b)) (l + b)) ∙ ap (λ (x : ℕ). 2 ^ x) e)
    (digits_lt (shr_lt (m - (l + b)) (l + b) (subst (λ (x : ℕ). w < 2 ^ x) (sym e) hw)) (within l b v w))
  where
    e : m - (l + b) + (l + b) ≡ m
    e = omega arith

-- A part is below its power of two.
pub part_below : (l b w : ℕ) → part l b w < 2 ^ b
unfolding part
part_below l b w = mod-lt (w / 2 ^ l) (pow_pos b)

-- What the code's shifts give: a one shifted up is its power of two.
pub one_shifted : (k : ℕ) → k < 64 → 1 * 2 ^ k % 2 ^ 64 ≡ 2 ^ k
one_shifted k h = shl_exact {a = 1} 1 k 64 (omega arith) (omega arith) ∙ one-mul (2 ^ k)

-- What stands above the part, shifted down and up again,
pub kept_shifted : (k w : ℕ) → w < 2 ^ 64 → w / 2 ^ k * 2 ^ k % 2 ^ 64 ≡ w / 2 ^ k * 2 ^ k
kept_shifted k w h = mod-eq_of_lt (lt_of_le_of_lt (div-mul-le_self w (2 ^ k)) h)

-- and the new value with what stands below it.
pub placed_shifted : (l b v w : ℕ) → l + b ≤ 48
    → v % (1 * 2 ^ b % 2 ^ 64) * 2 ^ l % 2 ^ 64 + w % (1 * 2 ^ l % 2 ^ 64) ≡ v % 2 ^ b * 2 ^ l + w % 2 ^ l
placed_shifted l b v w h =
    rw (one_shifted b (omega arith), one_shifted l (omega arith))
    (ap (λ (x : ℕ). x + w % 2 ^ l) (shl_exact b l 64 (mod-lt v (pow_pos b)) (omega arith)))

pub placed_fits : (l b v w : ℕ) → l + b ≤ 48 → v % 2 ^ b * 2 ^ l + w % 2 ^ l < 2 ^ 64
placed_fits l b v w h = lt_of_lt_of_le (within l b v w) (pow_mono {j = 64} (omega arith))

-- The fields in their order, with where each begins and ends.
abbrev pub rank : Field → ℕ
rank Selector = 0
rank EchoedNonce = 1
rank Pause = 2
rank ForcedRole = 3
rank RemoteFault = 4
rank Ack = 5
rank NextPage = 6
rank Nonce = 7
rank Abilities = 8

abbrev border : ℕ → ℕ
border n = get_or (0 ∷ 5 ∷ 10 ∷ 12 ∷ 13 ∷ 14 ∷ 15 ∷ 16 ∷ 21 ∷ 48 ∷ []) n 48

begins : (f : Field) → low_of f ≡ border (rank f)
begins Selector = refl
begins EchoedNonce = refl
begins Pause = refl
begins ForcedRole = refl
begins RemoteFault = refl
begins Ack = refl
begins NextPage = refl
begins Nonce = refl
begins Abilities = refl

ends : (f : Field) → low_of f + bits_in f ≡ border (suc (rank f))
ends Selector = refl
ends EchoedNonce = refl
ends Pause = refl
ends ForcedRole = refl
ends RemoteFault = refl
ends Ack = refl
ends NextPage = refl
ends Nonce = refl
ends Abilities = refl

ranked : (f : Field) → rank f < 9
ranked Selector = omega arith
ranked EchoedNonce = omega arith
ranked Pause = omega arith
ranked ForcedRole = omega arith
ranked RemoteFault = omega arith
ranked Ack = omega arith
ranked NextPage = omega arith
ranked Nonce = omega arith
ranked Abilities = omega arith

-- Every field ends before each later one begins: computed.
abbrev in_order : ℕ → ℕ → Bool
in_order i j = leb j i || leb (border (suc i)) (border j)

in_order_law : (i j : ℕ) → i < 9 → j < 9 → in_order i j ≡ true
in_order_law i j hi hj = at_each 9 (in_order i) (at_each 9 (λ (k : ℕ). every_below 9 (in_order k)) refl i hi) j hj

apart : (i j : ℕ) → i < 9 → j < 9 → i < j → border (suc i) ≤ border j
apart i j hi hj h = leb-true (border (suc i)) (border j) (rw (lt-leb j i h) at (in_order_law i j hi hj))

-- Getting a field after setting it,
pub get_after_set : (f : Field) (v w : ℕ) → field_of f (with_field f v w) ≡ v % 2 ^ bits_in f
get_after_set f v w = got (low_of f) (bits_in f) v w

-- setting one field keeps the others,
pub set_keeps : (f g : Field) (v w : ℕ) → (rank f ≡ rank g → ⊥) → field_of g (with_field f v w) ≡ field_of g w
set_keeps f g v w h = by (leb (rank g) (rank f)) refl
  where
    by : (t : Bool) → leb (rank g) (rank f) ≡ t → field_of g (with_field f v w) ≡ field_of g w
    by true e =
        let l = leb-true (rank g) (rank f) e in
        let a = apart (rank g) (rank f) (ranked g) (ranked f) (omega arith) in
        let b = begins f in
        let n = ends g in
        kept_below (low_of f) (bits_in f) v w (low_of g) (bits_in g) (omega arith)
    by false e =
        let l = leb-false (rank g) (rank f) e in
        let a = apart (rank f) (rank g) (ranked f) (ranked g) l in
        let b = begins g in
        let n = ends f in
        kept_above (low_of f) (bits_in f) v w (low_of g) (bits_in g) (omega arith)

-- and a word stays a word.
pub set_stays_word : (f : Field) (v w : ℕ) → w < 2 ^ 48 → with_field f v w < 2 ^ 48
set_stays_word f v w h =
    stays_below 48 (low_of f) (bits_in f) v w (within_word f) h
  where
    within_word : (g : Field) → low_of g + bits_in g ≤ 48
    within_word Selector = omega arith
    within_word EchoedNonce = omega arith
    within_word Pause = omega arith
    within_word ForcedRole = omega arith
    within_word RemoteFault = omega arith
    within_word Ack = omega arith
    within_word NextPage = omega arith
    within_word Nonce = omega arith
    within_word Abilities = omega arith
