-- 02, request 7, "Layouts: message page D0-10 code, D11 toggle, D12 Ack2, D13 one, D14 Ack, D15 NP, D16-47 32 unformatted bits; unformatted page D13 zero, D0-10 and
-- D16-47 its 43 bits." Of these a device gives a meaning to D11, D14 and D15; the last two are Ack and NP of a base page too.
use Rattle.std.specs.Prelude.{ℕ, Bool, if◌then◌else◌}
use Rattle.answers.specs.Choices.{◌=?◌}
use Rattle.page_word.specs.declared.fields.Field.TheVariants.{Ack, NextPage}
use Rattle.page_word.specs.Fields.{part, with_part, field_of, with_field}

-- "neither the own page's nor the held page's NP is one": whether a page's is.
abbrev pub sets_next_page : (word : ℕ) → Bool
sets_next_page word = field_of NextPage word =? 1

-- "D11 toggle". Of a base page D11 is the upper bit of pause.
abbrev pub toggle_of : (word : ℕ) → ℕ
toggle_of word = part 11 1 word

-- "D11 equal to the held page's"
abbrev pub same_toggle : (word other : ℕ) → Bool
same_toggle word other = toggle_of word =? toggle_of other

-- "the Null message, 2001 hex": code 1, D13 one.
abbrev pub null_message : ℕ
null_message = 0x2001

-- "a D11 that is the inverse of that of the own page before it"
abbrev pub inverse_toggle : (before : ℕ) → ℕ
inverse_toggle before = if toggle_of before =? 1 then 0 else 1

-- "A new own Next Page gets Ack 0 and a D11 that is the inverse of that of the own page before it".
unfoldable pub next_after : (before word : ℕ) → ℕ
next_after before word = with_part 11 1 (inverse_toggle before) (with_field Ack 0 word)
