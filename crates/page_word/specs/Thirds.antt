-- 01, "Registers": "All are 16 bits wide": a word as three of them, "D15-0, D31-16, D47-32".
use Rattle.std.specs.Prelude.{ℕ}
use Rattle.page_word.specs.declared.thirds.Third.{Third}
use Rattle.page_word.specs.declared.thirds.Third.TheVariants.{Low, Middle, High}
use Rattle.page_word.specs.Fields.{part, with_part}

-- The bit at which each starts.
abbrev pub start_of : Third → ℕ
start_of Low = 0
start_of Middle = 16
start_of High = 32

-- One of a word's three registers,
abbrev pub third_of : Third → (word : ℕ) → ℕ
third_of third word = part (start_of third) 16 word

-- and the word with one of them written.
abbrev pub with_third : Third → (value word : ℕ) → ℕ
with_third third value word = with_part (start_of third) 16 value word
