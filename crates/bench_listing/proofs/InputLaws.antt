-- What is given, by the tests of an input in their order; what a capture's input has; and the listing and readings of each.
use mathlib.Core.Path.{◌≡◌, refl, sym, ap, ◌∙◌}
use mathlib.Core.Bool.{Bool, true, false, cond}
use mathlib.Core.List.{List, [], ◌∷◌}
use Prim.Native.Nat.{ℕ, ◌-◌, ◌%◌, ◌<◌, ◌≤◌}
use native.Mathlib.Omega.{arith}
use borrow.Author.Tests.{lt-ltb, le-ltb, eq-eqb, ne_eqb, ltb-false}
use lib.Dec.{eqb, ltb}
use lib.ListN.{length, get_or, take, drop, length-drop}
use lib.Seq.{drop-cons, take_at}
use Rattle.std.proofs.lemmas.List.{take_all}
use Rattle.answers.specs.Answers.{put_at}
use Rattle.answers.proofs.PutAtStart.{put_at_start}
use Rattle.std.specs.Prelude.{Ok, Err, Option, Some, None}
use Rattle.answers.specs.declared.Refusal.TheVariants.{Room, Mode, Odd}
use Rattle.line_mode.specs.declared.modes.LineMode.{LineMode}
use Rattle.line_mode.specs.Modes.{mode_of, by_mode}
use Rattle.bench_listing.specs.Listing.{given_in, given}

-- All bytes behind the first, as the code has them.
pub all_behind : (input : List ℕ) → take (length input - 1) (drop 1 input) ≡ drop 1 input
all_behind input = take_all (length input - 1) (drop 1 input) (let l = length-drop 1 input in omega arith)

pub nothing_given : (input : List ℕ) → length input ≡ 0 → Err Mode ≡ given input
unfolding given
nothing_given [] h = refl
nothing_given (x ∷ rest) h = absurd (omega arith)

-- In a mode that there is, by the length of the input as it is lent.
module _ (input : List ℕ) (mode : ℕ) (some : 1 ≤ length input) where
  whole : length (mode ∷ drop 1 input) ≡ length input
  whole = let l = length-drop 1 input in omega arith

  pub too_long : 32001 < length input → Err Room ≡ given_in mode (drop 1 input)
  too_long h = rw (lt-ltb 32001 (length (mode ∷ drop 1 input)) (let w = whole in omega arith))

  module _ (fits : length input ≤ 32001) where
    within : length (mode ∷ drop 1 input) ≤ 32001
    within = let w = whole in omega arith

    fours : length (drop 1 input) % 4 ≡ (length input - 1) % 4
    fours = ap (λ (n : ℕ). n % 4) (length-drop 1 input)

    pub capture_given : (length input - 1) % 4 ≡ 0 → Ok mode ≡ given_in mode (drop 1 input)
    capture_given h = rw (le-ltb 32001 (length (mode ∷ drop 1 input)) within, eq-eqb (length (drop 1 input) % 4) 0 (fours ∙ h))

    pub odd_given : ((length input - 1) % 4 ≡ 0 → ⊥) → Err Odd ≡ given_in mode (drop 1 input)
    odd_given h = rw (le-ltb 32001 (length (mode ∷ drop 1 input)) within, ne_eqb (length (drop 1 input) % 4) 0 (λ e. h (sym fours ∙ e)))

-- By the mode that the first byte names.
pub by_mode_law : (input : List ℕ) (mode : ℕ) (found : Option LineMode) → found ≡ mode_of mode → mode ≡ get_or input 0 0 → 0 < length input
    → by_mode found (λ m. given_in mode (drop 1 input)) (Err Mode) ≡ given input
unfolding given
by_mode_law input mode found named first some =
    ap (λ (f : Option LineMode). by_mode f (λ m. given_in mode (drop 1 input)) (Err Mode)) named ∙ ap given parts
  where
    parts : mode ∷ drop 1 input ≡ input
    parts = ap (λ (m : ℕ). m ∷ drop 1 input) first ∙ sym (drop-cons input 0 0 some)

-- A capture's input has a byte for the mode, and is short enough.
pub record Captures (input : List ℕ) : Type 0 where
  pub some : 1 ≤ length input
  pub short : length input ≤ 32001

pub captures : (input : List ℕ) (mode : ℕ) → given input ≡ Ok mode → Captures input
unfolding given
captures [] mode h = cc h
captures (m ∷ bytes) mode h = by (mode_of m) (ltb 32001 (length (m ∷ bytes))) refl (eqb (length bytes % 4) 0) h
  where
    by : (found : Option LineMode) (t : Bool) → ltb 32001 (length (m ∷ bytes)) ≡ t → (u : Bool)
        → by_mode found (λ k. cond t (Err Room) (cond u (Ok m) (Err Odd))) (Err Mode) ≡ Ok mode → Captures (m ∷ bytes)
    by None t f u h = cc h
    by (Some k) true f u h = cc h
    by (Some k) false f false h = cc h
    by (Some k) false f true h = record { some = omega arith; short = ltb-false 32001 (length (m ∷ bytes)) f }

-- The head of a list that was put there.
pub head_taken : (entries before list : List ℕ) (count : ℕ) → list ≡ put_at 0 entries before → count ≡ length entries → take count list ≡ entries
head_taken entries before list count e n = ap (take count) (e ∙ put_at_start entries before) ∙ take_at entries (drop (length entries) before) count (sym n)
