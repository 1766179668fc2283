-- 01, "Rate and role": "Role: neither forced, higher T is master; one forced, its T4 decides (1 master) and the other takes the rest; both
-- forced, T4 decides, and equal T4 is a fault."
use Rattle.std.specs.Prelude.{ℕ, Bool, true, false, not, Option, Some, None}
use Rattle.answers.specs.Choices.{◌<?◌, ◌=?◌}
use Rattle.page_word.specs.Fields.{field_of}
use Rattle.page_word.specs.declared.fields.Field.TheVariants.{ForcedRole, Nonce}
use Rattle.page_resolve.specs.declared.roles.Role.{Role}
use Rattle.page_resolve.specs.declared.roles.Role.TheVariants.{Master, Slave}
use Rattle.page_word.specs.Word.{has_bit}

-- "D12 forced role (M/S)": whether the word's role is forced.
abbrev pub is_forced : (word : ℕ) → Bool
is_forced word = field_of ForcedRole word =? 1

-- T4, bit 4 of the nonce T: where the role is forced, 1 is master.
abbrev pub has_t4 : (word : ℕ) → Bool
has_t4 word = has_bit (field_of Nonce word) 4

-- "higher T": all five bits as a number.
abbrev pub is_higher : (own partner : ℕ) → Bool
is_higher own partner = field_of Nonce partner <? field_of Nonce own

-- One of the two, and "the other takes the rest".
abbrev pub master_if : (master : Bool) → Role
master_if true = Master
master_if false = Slave

-- Both forced: each takes what it asks for, and "equal T4 is a fault": none.
abbrev pub both_forced : (own partner : Bool) → Option Role
both_forced true true = None
both_forced true false = Some Master
both_forced false true = Some Slave
both_forced false false = None

-- The own side's role, by whether own is forced and whether partner is. In turn: "neither forced, higher T is master"; "one forced, its T4
-- decides (1 master) and the other takes the rest", where that one is own, and where it is partner; "both forced, T4 decides".
abbrev pub role_by : (ownForced partnerForced : Bool) (own partner : ℕ) → Option Role
role_by false false own partner = Some (master_if (is_higher own partner))
role_by true false own partner = Some (master_if (has_t4 own))
role_by false true own partner = Some (master_if (not (has_t4 partner)))
role_by true true own partner = both_forced (has_t4 own) (has_t4 partner)

-- The own side's role on two words. Two equal T are never asked for a role: Tie is answered before.
unfoldable pub role_of : (own partner : ℕ) → Option Role
role_of own partner = role_by (is_forced own) (is_forced partner) own partner
