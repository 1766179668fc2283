-- What the check bits are, without the steps of a division, and what they are worth: no small damage to a page makes another page of it.
use Rattle.std.specs.Prelude.{ℕ, zero, suc, ◌+◌, ◌%◌, ◌^◌, ◌<◌, ◌≤◌, ◌≡◌, Bool, List, ◌++◌, length, if◌then◌else◌}
use Rattle.std.specs.Bool.{xor}
use Rattle.page_word.specs.Word.{bits_of, among}
use Rattle.polynomials.specs.Polynomials.{multiplied}
use Rattle.polynomials.specs.Binary.{binary}
use Rattle.page_check_bits.specs.CheckBits.{generator, check_list}
use Rattle.line_mode.specs.declared.modes.LineMode.{LineMode}
use Rattle.line_writer.specs.Transitions.{sent_bits, transitions}

-- In how many of the positions below n two pages differ: how many transitions are lost or added to make the one of the other.
unfoldable pub changed_below : (n : ℕ) (page other : List ℕ) → ℕ
changed_below zero page other = 0
changed_below (suc p) page other = (if xor (among p page) (among p other) then 1 else 0) + changed_below p page other

-- Two pages that differ in an even number of their 157 positions, in four at least, and not only within 32 neighbouring ones. So the one has not become
-- the other by a change of up to three positions, of an odd number of them, or within 32 neighbouring ones.
pub record FarApart (page other : List ℕ) : Type 0 where
  pub even : changed_below 158 page other % 2 ≡ 0
  pub four : 4 ≤ changed_below 158 page other
  pub spread : (start : ℕ) → ((p : ℕ) → (start ≤ p → p < start + 32 → ⊥) → among p page ≡ among p other) → ⊥

pub record SmallDamage : Type 0 where
  -- "The remainder is that of the 48 bits times x^16". The 48 bits times x^16, less the remainder, are the 48 bits followed by the check bits, and these
  -- are a multiple of the polynomial;
  pub divides : (w : ℕ) → (q : List Bool) × (multiplied binary q generator ≡ sent_bits w)
  -- and no other sixteen bits make them one.
  pub no_other : (w : ℕ) (q bits : List Bool) → length bits ≡ 16 → multiplied binary q generator ≡ bits_of 48 w ++ bits → bits ≡ check_list w
  -- The pages of two different words, in any mode.
  pub apart : (mode : LineMode) (w v : ℕ) → w < 2 ^ 48 → v < 2 ^ 48 → (w ≡ v → ⊥) → FarApart (transitions mode w) (transitions mode v)
