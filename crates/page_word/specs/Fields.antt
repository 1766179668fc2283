-- 01, "The page": "D0-4 selector S, D5-9 echoed nonce E, D10-11 pause, D12 forced role (M/S), D13 remote fault, D14 Ack, D15 NP,
-- D16-20 nonce T, D21-47 abilities A0-A26; the lowest bit of each field comes first."
use Rattle.std.specs.Prelude.{ℕ, ◌+◌, ◌*◌, ◌/◌, ◌%◌, ◌^◌, Bool, not}
use Rattle.answers.specs.Choices.{◌=?◌}
use Rattle.page_word.specs.declared.fields.Field.{Field}
use Rattle.page_word.specs.declared.fields.Field.TheVariants.{Selector, EchoedNonce, Pause, ForcedRole, RemoteFault, Ack, NextPage, Nonce, Abilities}

-- The bit at which each field starts,
abbrev pub low_of : Field → ℕ
low_of Selector = 0
low_of EchoedNonce = 5
low_of Pause = 10
low_of ForcedRole = 12
low_of RemoteFault = 13
low_of Ack = 14
low_of NextPage = 15
low_of Nonce = 16
low_of Abilities = 21

-- and the number of its bits.
abbrev pub bits_in : Field → ℕ
bits_in Selector = 5
bits_in EchoedNonce = 5
bits_in Pause = 2
bits_in ForcedRole = 1
bits_in RemoteFault = 1
bits_in Ack = 1
bits_in NextPage = 1
bits_in Nonce = 5
bits_in Abilities = 27

-- The `bits` bits of a word from bit `low` on, as a number.
unfoldable pub part : (low bits word : ℕ) → ℕ
part low bits w = (w / 2 ^ low) % 2 ^ bits

-- The word with these bits replaced by a value modulo 2^bits; all other bits stay, also those above D47.
unfoldable pub with_part : (low bits value word : ℕ) → ℕ
with_part low bits value w = (w / 2 ^ (low + bits)) * 2 ^ (low + bits) + ((value % 2 ^ bits) * 2 ^ low + w % 2 ^ low)

-- The value of a field, and the word with a field set to a value.
abbrev pub field_of : Field → (word : ℕ) → ℕ
field_of field w = part (low_of field) (bits_in field) w

abbrev pub with_field : Field → (value word : ℕ) → ℕ
with_field field value w = with_part (low_of field) (bits_in field) value w

-- Row 4 of the refusals, Selector; the negotiation says when: "S other than 1".
abbrev pub has_other_selector : (word : ℕ) → Bool
has_other_selector word = not (field_of Selector word =? 1)

-- Row 5, Tie; there too: "T equal to own".
abbrev pub is_tie : (own word : ℕ) → Bool
is_tie own word = field_of Nonce own =? field_of Nonce word
