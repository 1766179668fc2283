-- Sums of coefficients that are zero and one, a step of division where the highest is zero, and what division asks of its divisor.
use mathlib.Core.Path.{◌≡◌, refl, ap, ◌∙◌}
use mathlib.Core.Bool.{Bool, true, false, xor, ◌&&◌}
use mathlib.Core.List.{List, [], ◌∷◌}
use Prim.Native.Nat.{ℕ, suc, ◌≤◌}
use lib.ListN.{length, replicate}
use Rattle.polynomials.specs.Polynomials.{plus, scaled, divided}
use Rattle.polynomials.specs.Binary.{binary}
use Rattle.polynomials.proofs.Sums.{Sums, zeros_plus}
use Rattle.polynomials.proofs.Division.{one_step}
use Rattle.polynomials.proofs.Quotients.{Each, Monic}

xor_comm : (a b : Bool) → xor a b ≡ xor b a
unfolding xor
xor_comm true true = refl
xor_comm true false = refl
xor_comm false true = refl
xor_comm false false = refl

xor_assoc : (a b c : Bool) → xor (xor a b) c ≡ xor a (xor b c)
unfolding xor
xor_assoc true true true = refl
xor_assoc true true false = refl
xor_assoc true false true = refl
xor_assoc true false false = refl
xor_assoc false true true = refl
xor_assoc false true false = refl
xor_assoc false false true = refl
xor_assoc false false false = refl

false_xor : (a : Bool) → xor false a ≡ a
unfolding xor
false_xor true = refl
false_xor false = refl

pub xor_self : (b : Bool) → xor b b ≡ false
unfolding xor
xor_self true = refl
xor_self false = refl

pub binary_sums : Sums binary
binary_sums = record { comm = xor_comm; assoc = xor_assoc; nothing = false_xor; self = xor_self }

pub no_multiple : (l : List Bool) → scaled binary false l ≡ replicate (length l) false
no_multiple [] = refl
no_multiple (a ∷ l) = ap (λ (p : List Bool). false ∷ p) (no_multiple l)

-- Nothing is taken away then.
pub zero_step : (lower : List Bool) (n : ℕ) (p : List Bool) → length lower ≤ length p
    → divided binary (true ∷ lower) (suc n) (false ∷ p) ≡ divided binary (true ∷ lower) n p
zero_step lower n p h =
    one_step binary true lower false n p
    ∙ ap (λ (l : List Bool). divided binary (true ∷ lower) n (plus binary l p)) (no_multiple lower)
    ∙ ap (divided binary (true ∷ lower) n) (zeros_plus binary_sums (length lower) p h)

-- Any bits are fit to be divided by a polynomial whose highest coefficient is one.
abbrev pub AnyBit : Bool → Type 0
AnyBit b = Unit

pub any_bits : (l : List Bool) → Each AnyBit l
any_bits [] = tt
any_bits (b ∷ l) = (tt, any_bits l)

and_true : (b : Bool) → (b && true) ≡ b
and_true true = refl
and_true false = refl

pub binary_monic : (lower : List Bool) → Monic binary AnyBit true lower
binary_monic lower = record { whole = λ b h. and_true b; step = λ c p h k. any_bits (plus binary (scaled binary c lower) p) }
