-- Looking for a number that is no symbol.
use mathlib.Core.Path.{◌≡◌, refl, sym, ap, ◌∙◌}
use mathlib.Core.Bool.{Bool, true, false, ◌&&◌}
use mathlib.Core.List.{List, [], ◌∷◌}
use Prim.Native.Nat.{ℕ, ◌≤◌}
use native.Mathlib.Omega.{arith}
use lib.Dec.{ltb}
use borrow.Author.Tests.{ltb-true, ltb-false, lt-ltb, le-ltb}
use lib.Bits.{bit_or, or_add_and, and_le_l, and_le_r, or_lt}
use Rattle.std.specs.List.{fold}
use Rattle.frame_polynomial.specs.Frame.{all_symbols}

-- The bits of two numbers together are below 512 just if both are.
together_more : (a b : ℕ) → (a ≤ bit_or a b) × (b ≤ bit_or a b)
together_more a b = let s = or_add_and a b in let l = and_le_l a b in let r = and_le_r a b in (omega arith, omega arith)

together_below : (a b : ℕ) → ltb (bit_or a b) 512 ≡ (ltb a 512 && ltb b 512)
together_below a b = by (ltb a 512) refl (ltb b 512) refl
  where
    by : (t : Bool) → ltb a 512 ≡ t → (u : Bool) → ltb b 512 ≡ u → ltb (bit_or a b) 512 ≡ (t && u)
    by true p true q = lt-ltb (bit_or a b) 512 (or_lt 9 a b (ltb-true a 512 p) (ltb-true b 512 q))
    by true p false q = let m = (together_more a b).1 in let l = ltb-false b 512 q in le-ltb (bit_or a b) 512 (omega arith)
    by false p u q = let m = (together_more a b).0 in let l = ltb-false a 512 p in le-ltb (bit_or a b) 512 (omega arith)

-- So it is with all numbers of a list.
bits_below : (list : List ℕ) (bits : ℕ) → ltb (fold bit_or bits list) 512 ≡ (ltb bits 512 && all_symbols list)
unfolding all_symbols
bits_below [] bits = sym (and_true (ltb bits 512))
  where
    and_true : (t : Bool) → (t && true) ≡ t
    and_true true = refl
    and_true false = refl
bits_below (s ∷ list) bits =
    bits_below list (bit_or bits s) ∙ ap (λ (t : Bool). t && all_symbols list) (together_below bits s) ∙ regroup (ltb bits 512)
  where
    regroup : (t : Bool) → ((t && ltb s 512) && all_symbols list) ≡ (t && (ltb s 512 && all_symbols list))
    regroup true = refl
    regroup false = refl

pub looked_all : (list : List ℕ) → ltb (fold bit_or 0 list) 512 ≡ all_symbols list
looked_all list = bits_below list 0
