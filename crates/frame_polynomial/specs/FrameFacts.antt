-- 02, request 10: "Also show that a finished frame of 450 symbols, as a polynomial, is zero at each of the 44 powers, and that a frame in which at least one and at most 44
-- symbols were changed is never itself a frame."
use Rattle.std.specs.Prelude.{ℕ, ◌<◌, ◌≤◌, ◌≡◌, true, List, ◌++◌, length, replicate}
use Rattle.polynomials.specs.Polynomials.{multiplied}
use Rattle.frame_field.specs.Field.{alpha, raised, symbols}
use Rattle.frame_polynomial.specs.Frame.{all_symbols, generator, parity_of, IsFrame, value_at, changes_in}

-- That a list is "zero at each of the 44 powers".
abbrev pub ZeroAtThePowers : (list : List ℕ) → Type 0
ZeroAtThePowers list = (i : ℕ) → i < 44 → value_at (raised alpha i) list ≡ 0

pub record FrameFacts : Type 0 where
  -- 406 data symbols with their parity behind them are a frame: a finished one.
  pub finished : (taken : List ℕ) → all_symbols taken ≡ true → length taken ≡ 406 → IsFrame (taken ++ parity_of taken)
  -- The parity is the remainder, whatever steps find it: data of any length with their parity behind them are the generator times a polynomial of symbols,
  pub divides : (taken : List ℕ) → all_symbols taken ≡ true → (q : List ℕ) × ((all_symbols q ≡ true) × (multiplied symbols q generator ≡ taken ++ parity_of taken))
  -- and no other 44 numbers behind the data make such a product.
  pub no_other_parity : (taken q parity : List ℕ) → all_symbols q ≡ true → length parity ≡ 44 → multiplied symbols q generator ≡ taken ++ parity → parity ≡ parity_of taken
  -- "a finished frame of 450 symbols, as a polynomial, is zero at each of the 44 powers",
  pub zero_at_powers : (list : List ℕ) → IsFrame list → ZeroAtThePowers list
  -- and 450 symbols that are zero there are a frame.
  pub no_others : (list : List ℕ) → all_symbols list ≡ true → length list ≡ 450 → ZeroAtThePowers list → IsFrame list
  -- "a frame in which at least one and at most 44 symbols were changed is never itself a frame"
  pub changed : (frame other : List ℕ) → IsFrame frame → 1 ≤ changes_in frame other → changes_in frame other ≤ 44 → IsFrame other → ⊥
  -- No more can be said: there are two frames that differ in just 45 places. They are all zeros, and the one whose last data symbol is 1 and whose parity is the
  -- generator below its highest power.
  pub all_zeros : IsFrame (replicate 450 0)
  pub with_generator : IsFrame (replicate 405 0 ++ generator)
  pub reached : changes_in (replicate 450 0) (replicate 405 0 ++ generator) ≡ 45
