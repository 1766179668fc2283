-- What a burst leaves of a state, and what a finish gives.
use Rattle.answers.proofs.PutAtStart.{put_at_start}
use Rattle.answers.specs.declared.Refusal.TheVariants.{Room, Symbol, Count}
use mathlib.Core.Path.{◌≡◌, sym, ap, ◌∙◌, subst}
use mathlib.Core.Bool.{true, ◌&&◌, false}
use mathlib.Core.List.{List, [], ◌∷◌, ◌++◌}
use Prim.Native.Nat.{ℕ, ◌+◌, ◌≤◌, ◌<◌}
use native.Mathlib.Omega.{arith}
use borrow.Author.Tests.{le-ltb, eq-eqb, lt-ltb, ne_eqb}
use lib.ListN.{length, length-append, take, set, drop}
use lib.Seq.{take_at, set_at, take_all, length-take-le}
use Rattle.answers.specs.Answers.{number, leaving, put_at, kept}
use Rattle.page_word.proofs.ComputedTest.{and_left, and_right}
use Rattle.frame_polynomial.specs.Frame.{all_symbols}
use Rattle.frame_polynomial.proofs.SymbolLists.{as_symbols}
use Rattle.frame_parity.specs.Taking.{register_of, count_of, register_after, entries_after, take_of, finish_of}
use Rattle.frame_parity.specs.Working.{Ready, Fits}
use Rattle.frame_parity.proofs.RegisterLaws.{after_length, ready}

module _ (state burst : List ℕ) where
  pub take_room : length state < 45 → take_of state burst ≡ kept Room state
  unfolding take_of
  take_room h = rw (lt-ltb (length state) 45 h)

  pub take_past : 45 ≤ length state → 406 < count_of state + length burst → take_of state burst ≡ kept Count state
  unfolding take_of
  take_past h k = rw (le-ltb (length state) 45 h, lt-ltb 406 (count_of state + length burst) k)

  pub take_bad : 45 ≤ length state → count_of state + length burst ≤ 406 → (all_symbols (register_of state) && all_symbols burst) ≡ false → take_of state burst ≡ kept Symbol state
  unfolding take_of
  take_bad h k e = rw (le-ltb (length state) 45 h, le-ltb 406 (count_of state + length burst) k, e)

  pub take_good : 45 ≤ length state → count_of state + length burst ≤ 406 → (all_symbols (register_of state) && all_symbols burst) ≡ true
      → take_of state burst ≡ leaving (number (count_of state + length burst)) (put_at 0 (entries_after state burst) state)
  unfolding take_of
  take_good h k e = rw (le-ltb (length state) 45 h, le-ltb 406 (count_of state + length burst) k, e)

  pub fits : (count : ℕ) → 45 ≤ length state → count ≡ count_of state + length burst → count ≤ 406 → true ≡ (all_symbols (register_of state) && all_symbols burst) → Fits state burst count
  fits count h s m e =
      record {
        long = h;
        register = and_left (all_symbols (register_of state)) (all_symbols burst) (sym e);
        all = and_right (all_symbols (register_of state)) (all_symbols burst) (sym e);
        counted = s;
        most = m;
      }

pub front : (state : List ℕ) → 45 ≤ length state → length (register_of state) ≡ 44
front state h = length-take-le 44 state (omega arith)

pub loaded : (state register : List ℕ) → 45 ≤ length state → all_symbols (register_of state) ≡ true → register ≡ register_of state ++ (0 ∷ []) → Ready register
loaded state register h e f = subst Ready (sym f) (ready (register_of state) (front state h) (as_symbols (register_of state) e))

-- The register and, behind it, the count are the entries that go over the state's first ones.
pub written : (state burst register pushed : List ℕ) (count : ℕ) → Fits state burst count → register ≡ register_of state ++ (0 ∷ [])
    → pushed ≡ register_after (register_of register) burst ++ (0 ∷ []) → set pushed 44 count ≡ entries_after state burst
written state burst register pushed count f e p =
    ap (λ (l : List ℕ). set l 44 count)
    (p ∙ ap (λ (l : List ℕ). register_after l burst ++ (0 ∷ [])) (ap (take 44) e ∙ take_at (register_of state) (0 ∷ []) 44 (front state f.long)))
    ∙ set_at (register_after (register_of state) burst) 0 [] count 44 (after_length (register_of state) burst (front state f.long))
    ∙ ap (λ (n : ℕ). register_after (register_of state) burst ++ (n ∷ [])) f.counted

-- The register and, behind it, the count go over the state's first entries.
pub stored : (state burst register pushed : List ℕ) (count : ℕ) → Fits state burst count → register ≡ register_of state ++ (0 ∷ [])
    → pushed ≡ register_after (register_of register) burst ++ (0 ∷ [])
    → take 45 (set pushed 44 count) ++ drop 45 state ≡ put_at 0 (entries_after state burst) state
stored state burst register pushed count f e p =
    ap (λ (l : List ℕ). take 45 l ++ drop 45 state) (written state burst register pushed count f e p)
    ∙ ap (λ (l : List ℕ). l ++ drop 45 state) (take_all 45 (entries_after state burst) (let l = long in omega arith))
    ∙ ap (λ (n : ℕ). entries_after state burst ++ drop n state) (sym long)
    ∙ sym (put_at_start (entries_after state burst) state)
  where
    long : length (entries_after state burst) ≡ 45
    long = length-append (register_after (register_of state) burst) ((count_of state + length burst) ∷ []) ∙ (let l = after_length (register_of state) burst (front state f.long) in omega arith)

-- ---- the finish
module _ (state list : List ℕ) where
  pub finish_no_state : length state < 45 → finish_of state list ≡ kept Room list
  unfolding finish_of
  finish_no_state h = rw (lt-ltb (length state) 45 h)

  pub finish_no_room : 45 ≤ length state → length list < 44 → finish_of state list ≡ kept Room list
  unfolding finish_of
  finish_no_room h k = rw (le-ltb (length state) 45 h, lt-ltb (length list) 44 k)

  pub finish_count : 45 ≤ length state → 44 ≤ length list → (count_of state ≡ 406 → ⊥) → finish_of state list ≡ kept Count list
  unfolding finish_of
  finish_count h k n = rw (le-ltb (length state) 45 h, le-ltb (length list) 44 k, ne_eqb (count_of state) 406 n)

  pub finish_bad : 45 ≤ length state → 44 ≤ length list → count_of state ≡ 406 → false ≡ all_symbols (register_of state) → finish_of state list ≡ kept Symbol list
  unfolding finish_of
  finish_bad h k n e = rw (le-ltb (length state) 45 h, le-ltb (length list) 44 k, eq-eqb (count_of state) 406 n, ← e)

  pub finish_good : 45 ≤ length state → 44 ≤ length list → count_of state ≡ 406 → true ≡ all_symbols (register_of state)
      → finish_of state list ≡ leaving (number 44) (put_at 0 (register_of state) list)
  unfolding finish_of
  finish_good h k n e = rw (le-ltb (length state) 45 h, le-ltb (length list) 44 k, eq-eqb (count_of state) 406 n, ← e)

  pub given : 45 ≤ length state → take 44 state ++ drop 44 list ≡ put_at 0 (register_of state) list
  given h = ap (λ (n : ℕ). register_of state ++ drop n list) (sym (front state h)) ∙ sym (put_at_start (register_of state) list)
