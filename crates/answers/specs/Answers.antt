-- What is said to the caller, for each case of an answer.
-- 01, "Language forms in the code": "Whenever an answer is an enum, a definition gives this paper's number and values for each of the enum's cases. The promises use that definition."
use Rattle.std.specs.Prelude.{ℕ, ◌+◌, ◌*◌, ◌%◌, ◌^◌, Bool, true, List, [], ◌∷◌, ◌++◌, length, take, drop, if◌then◌else◌, Result, Ok, Err}
use Rattle.answers.specs.declared.Refusal.{Refusal}
use Rattle.answers.specs.declared.Answer.{Answer}
use Rattle.answers.specs.declared.Answer.TheVariants.{Nothing, Refused, Page, Order, Settled, Value, Number, Quiet, Unfit}
use Rattle.answers.specs.Choices.{◌<?◌, ◌=?◌}
use Rattle.answers.specs.Numbers.{number_of}

-- The kind is a refusal's number in 01's table, which requests have added to, 0 for nothing, or, of an answer that is no refusal, one of the numbers from
-- 0x80 on that the fixed interfaces give it. The value is what the answer carries, 0 if it carries nothing.
pub record Said : Type 0 where
  pub kind : ℕ
  pub value : ℕ

abbrev pub saying : (kind value : ℕ) → Said
saying kind value = record { kind = kind; value = value }

abbrev pub nothing : Said
nothing = saying 0 0

-- A refusal carries one number from this table, and nothing else.
abbrev pub refused : Refusal → Said
refused refusal = saying (number_of refusal) 0

-- A good page was read: its word.
abbrev pub page_read : (word : ℕ) → Said
page_read word = saying 0x80 word

-- A page is ordered: its word.
abbrev pub page_ordered : (word : ℕ) → Said
page_ordered word = saying 0x81 word

-- Rate and role are settled: the number n of the ability An below 256, and 256 more if the own side is master.
abbrev pub settled_on : (ability : ℕ) (master : Bool) → Said
settled_on ability master = saying 0x82 (if master then ability + 256 else ability)

-- A register's value.
abbrev pub register_value : (value : ℕ) → Said
register_value value = saying 0x83 value

-- A number: check bits, the positions of a gap, a count of readings, of answers, of messages, of symbols or of bytes.
abbrev pub number : (n : ℕ) → Said
number n = saying 0x84 n

-- The gap is quiet.
abbrev pub gap_quiet : Said
gap_quiet = saying 0x85 0

-- The gap is unfit.
abbrev pub gap_unfit : Said
gap_unfit = saying 0x86 0

-- What each answer says.
abbrev pub said : Answer → Said
said Nothing = nothing
said (Refused refusal) = refused refusal
said (Page word) = page_read word
said (Order word) = page_ordered word
said (Settled ability master) = settled_on ability master
said (Value value) = register_value value
said (Number n) = number n
said Quiet = gap_quiet
said Unfit = gap_unfit

-- What a call says that gives a number or refuses.
abbrev pub said_count : Result ℕ Refusal → Said
said_count (Ok n) = number n
said_count (Err refusal) = refused refusal

-- The number of an ability is a byte, by its type in the code (`u8`): 256 and no master would be said as 0 and master are.
abbrev pub is_byte : (ability : ℕ) → Bool
is_byte ability = ability <? 256

-- So it is with an answer that has one.
abbrev pub ability_is_byte : Answer → Bool
ability_is_byte Nothing = true
ability_is_byte (Refused refusal) = true
ability_is_byte (Page word) = true
ability_is_byte (Order word) = true
ability_is_byte (Settled ability master) = is_byte ability
ability_is_byte (Value value) = true
ability_is_byte (Number n) = true
ability_is_byte Quiet = true
ability_is_byte Unfit = true

-- The same as one number of 64 bits, the kind in the top byte and the value in the 56 bits below it; a value of 2^56 or more,
-- which no event answers on a device that calls have made (promises/specs/MadeByCalls), loses its upper bits.
abbrev pub packed : Said → ℕ
packed s = s.kind * 2 ^ 56 + s.value % 2 ^ 56

-- The answers that say something, in order.
abbrev pub spoken : List Said → List Said
spoken [] = []
spoken (s ∷ rest) = let later = spoken rest in if s.kind =? 0 then later else s ∷ later

-- What a call on a lent list has to bring: what is said, and the list afterwards.
pub record Leaves : Type 0 where
  pub says : Said
  pub list : List ℕ

abbrev pub leaving : Said → List ℕ → Leaves
leaving says list = record { says = says; list = list }

-- Entries put into a lent list from a place on, where there is room for them: "All other entries keep their contents."
abbrev pub put_at : (place : ℕ) (entries list : List ℕ) → List ℕ
put_at place entries list = take place list ++ entries ++ drop (place + length entries) list

-- On a refusal "list kept".
abbrev pub kept : Refusal → List ℕ → Leaves
kept refusal list = leaving (refused refusal) list
