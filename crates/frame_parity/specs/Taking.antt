-- 02, request 10: "Symbols arrive in bursts, so it must take them as they come, however cut; the parity is the same." What a burst leaves of a lent state, and what a finish
-- gives. "The lent state is 45 entries: the 44 symbols of the register, highest power first, then the count of symbols taken. All zero is a new frame. Entries past the
-- 45th are not touched." (fixed interfaces) That the parity is the same, however the symbols are cut, is said in `AnyCutting`.
use Rattle.std.specs.Prelude.{ℕ, ◌+◌, not, ◌&&◌, ◌||◌, List, [], ◌∷◌, ◌++◌, length, take, get_or, if◌then◌else◌}
use Rattle.answers.specs.Choices.{◌<?◌, ◌=?◌}
use Rattle.answers.specs.Answers.{number, Leaves, leaving, put_at, kept}
use Rattle.answers.specs.declared.Refusal.TheVariants.{Room, Symbol, Count}
use Rattle.polynomials.specs.Polynomials.{remainder_after}
use Rattle.frame_field.specs.Field.{symbols}
use Rattle.frame_polynomial.specs.Frame.{all_symbols, generator}

-- "the 44 symbols of the register, highest power first",
abbrev pub register_of : (state : List ℕ) → List ℕ
register_of state = take 44 state

-- "then the count of symbols taken".
abbrev pub count_of : (state : List ℕ) → ℕ
count_of state = get_or state 44 0

-- The register after a burst of n symbols: the remainder, by the generator, of the register times Z^n and the burst times Z^44 together. The register is the remainder of
-- the symbols before, times Z^44, and all zeros in a new frame; so this is the remainder of them and the burst.
unfoldable pub register_after : (register burst : List ℕ) → List ℕ
register_after register burst = remainder_after symbols generator register burst

-- The state's 45 entries after a burst.
abbrev pub entries_after : (state burst : List ℕ) → List ℕ
entries_after state burst = register_after (register_of state) burst ++ ((count_of state + length burst) ∷ [])

-- A burst is taken. "12 if the state has fewer than 45 entries; 21 if count + length is over 406; 20 if an entry of the burst or of the register is 512 or more; else 0x84
-- with the new count. On a refusal the state is kept." (fixed interfaces) 02: "21 Count, a burst that takes the count past 406", "20 Symbol, 512 or more in the burst
-- or in the lent state; Count first; the state is kept". (A count of 512 or more is over 406, and so refused before; entries past the 45th are not the state's.)
unfoldable pub take_of : (state burst : List ℕ) → Leaves
take_of state burst =
    if length state <? 45 then kept Room state
    else if 406 <? count_of state + length burst then kept Count state
    else if not (all_symbols (register_of state) && all_symbols burst) then kept Symbol state
    else leaving (number (count_of state + length burst)) (put_at 0 (entries_after state burst) state)

-- A finish gives the parity symbols, which the register has after all 406 symbols. "12 if the state has fewer than 45 entries or `parity` fewer than 44; 21 if the count is
-- not 406; 20 if an entry of the register is 512 or more; else 0x84 with 44, and the first 44 entries of `parity` are the parity symbols, first sent first (P43 to P0);
-- entries past them stay as they were. The state stays as it is." (fixed interfaces; the state is lent to be read, as `&[u16]`) 02: "21 Count, .. a finish at a
-- count other than 406".
unfoldable pub finish_of : (state parity : List ℕ) → Leaves
finish_of state parity =
    if length state <? 45 || length parity <? 44 then kept Room parity
    else if not (count_of state =? 406) then kept Count parity
    else if not (all_symbols (register_of state)) then kept Symbol parity
    else leaving (number 44) (put_at 0 (register_of state) parity)
