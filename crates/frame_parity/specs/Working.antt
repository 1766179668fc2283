-- How the register is worked out: rows of multiples of the generator below its highest power, and a register with a zero behind it. No public contract cites any of it.
use Rattle.std.specs.Prelude.{ℕ, zero, suc, ◌+◌, ◌*◌, ◌/◌, ◌%◌, ◌^◌, ◌<◌, ◌≤◌, ◌≡◌, true, List, [], ◌∷◌, length, take, drop, get_or}
use Rattle.polynomials.specs.Polynomials.{plus, scaled}
use Rattle.frame_field.specs.Field.{symbols}
use Rattle.frame_polynomial.specs.Frame.{all_symbols, generator}
use Rattle.frame_parity.specs.Taking.{register_of, count_of}

-- A row: as many symbols as the generator has below its highest coefficient.
pub record Row (row : List ℕ) : Type 0 where
  pub long : length row ≡ 44
  pub all : all_symbols row ≡ true

-- A row that is a number times another row.
pub record RowTimes (c : ℕ) (row multiple : List ℕ) : Type 0 where
  pub is : multiple ≡ scaled symbols c row
  pub fit : Row multiple

-- A row that is the sum of two.
pub record RowSum (one other sum : List ℕ) : Type 0 where
  pub is : sum ≡ plus symbols one other
  pub long : length sum ≡ 44

-- By which number the generator is multiplied in row k of the table: 0 to 7, then 0, 8, .. 56, then 0, 64, .. 448.
unfoldable pub factor_of : (k : ℕ) → ℕ
factor_of k = k % 8 * 8 ^ (k / 8)

-- n rows of the table from row k on.
abbrev pub rows_from : (row : List ℕ) (n k : ℕ) → List (List ℕ)
rows_from row zero k = []
rows_from row (suc n) k = scaled symbols (factor_of k) row ∷ rows_from row n (suc k)

-- The table.
unfoldable pub rows_of : List (List ℕ)
rows_of = rows_from (drop 1 generator) 24 0

-- A register at work: its 44 symbols, and a zero behind them.
pub record Ready (register : List ℕ) : Type 0 where
  pub long : length register ≡ 45
  pub all : all_symbols (take 44 register) ≡ true
  pub last : get_or register 44 0 ≡ 0

-- What one more symbol is worked out from.
pub record Going (register : List ℕ) (symbol : ℕ) (rows : List (List ℕ)) : Type 0 where
  pub ready : Ready register
  pub symbol_below : symbol < 512
  pub table : rows ≡ rows_of

-- A burst that nothing is wrong with, and the count after it.
pub record Fits (state burst : List ℕ) (count : ℕ) : Type 0 where
  pub long : 45 ≤ length state
  pub register : all_symbols (register_of state) ≡ true
  pub all : all_symbols burst ≡ true
  pub counted : count ≡ count_of state + length burst
  pub most : count ≤ 406
