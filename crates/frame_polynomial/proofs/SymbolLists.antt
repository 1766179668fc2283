-- Lists of symbols: parts of them, sums, multiples and products are lists of symbols again.
use mathlib.Core.Path.{◌≡◌, refl, ap₂}
use mathlib.Core.Bool.{true, ◌&&◌}
use mathlib.Core.List.{List, [], ◌∷◌, ◌++◌}
use Prim.Native.Nat.{ℕ, zero, suc, ◌<◌}
use native.Mathlib.Nat.{not-suc-le-zero, le_of_suc-le-suc}
use native.Mathlib.Omega.{arith}
use lib.Bits.{xor_lt}
use lib.Dec.{ltb}
use lib.ListN.{length, take, drop, get_or, replicate}
use borrow.Author.Tests.{ltb-true, lt-ltb}
use Rattle.page_word.proofs.ComputedTest.{and_left, and_right}
use Rattle.polynomials.specs.Polynomials.{plus, scaled, multiplied}
use Rattle.polynomials.proofs.Quotients.{Each}
use Rattle.frame_field.specs.Field.{symbols}
use Rattle.frame_field.proofs.Products.{product_below_law}
use Rattle.frame_polynomial.specs.Frame.{all_symbols}

-- Each number is a symbol.
abbrev pub Symbols : List ℕ → Type 0
Symbols l = Each (λ (s : ℕ). s < 512) l

pub as_symbols : (l : List ℕ) → all_symbols l ≡ true → Symbols l
unfolding all_symbols
as_symbols [] e = tt
as_symbols (s ∷ l) e = (ltb-true s 512 (and_left (ltb s 512) (all_symbols l) e), as_symbols l (and_right (ltb s 512) (all_symbols l) e))

pub all_symbols_law : (l : List ℕ) → Symbols l → all_symbols l ≡ true
unfolding all_symbols
all_symbols_law [] b = refl
all_symbols_law (s ∷ l) b = ap₂ ◌&&◌ (lt-ltb s 512 b.0) (all_symbols_law l b.1)

pub symbol_at : (l : List ℕ) (k : ℕ) → Symbols l → k < length l → get_or l k 0 < 512
symbol_at [] k b h = absurd (not-suc-le-zero h)
symbol_at (s ∷ l) zero b h = b.0
symbol_at (s ∷ l) (suc k) b h = symbol_at l k b.1 (le_of_suc-le-suc h)

pub append_symbols : (p q : List ℕ) → Symbols p → Symbols q → Symbols (p ++ q)
append_symbols [] q h k = k
append_symbols (a ∷ p) q h k = (h.0, append_symbols p q h.1 k)

pub first_symbols : (p q : List ℕ) → Symbols (p ++ q) → Symbols p
first_symbols [] q b = tt
first_symbols (s ∷ p) q b = (b.0, first_symbols p q b.1)

pub last_symbols : (p q : List ℕ) → Symbols (p ++ q) → Symbols q
last_symbols [] q b = b
last_symbols (s ∷ p) q b = last_symbols p q b.1

pub take_symbols : (n : ℕ) (l : List ℕ) → Symbols l → Symbols (take n l)
take_symbols zero l b = tt
take_symbols (suc n) [] b = tt
take_symbols (suc n) (s ∷ l) b = (b.0, take_symbols n l b.1)

pub zeros_symbols : (n : ℕ) → Symbols (replicate n 0)
zeros_symbols zero = tt
zeros_symbols (suc n) = (omega arith, zeros_symbols n)

pub plus_symbols : (p q : List ℕ) → Symbols p → Symbols q → Symbols (plus symbols p q)
plus_symbols [] q h k = k
plus_symbols (a ∷ p) [] h k = h
plus_symbols (a ∷ p) (b ∷ q) h k = (xor_lt 9 a b h.0 k.0, plus_symbols p q h.1 k.1)

pub scaled_symbols : (c : ℕ) (p : List ℕ) → Symbols (scaled symbols c p)
scaled_symbols c [] = tt
scaled_symbols c (s ∷ p) = (product_below_law c s, scaled_symbols c p)

pub multiplied_symbols : (p q : List ℕ) → Symbols (multiplied symbols p q)
multiplied_symbols [] q = zeros_symbols (length (drop 1 q))
multiplied_symbols (a ∷ p) q = plus_symbols (scaled symbols a q) (0 ∷ multiplied symbols p q) (scaled_symbols a q) (omega arith, multiplied_symbols p q)
