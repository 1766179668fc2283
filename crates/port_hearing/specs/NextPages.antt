-- 01's amendments, request 7: what a good page does in Ability and in Ack at round first or later. "Selector, Tie, Echo and Remote fault are not looked at in a Next
-- Page, Toggle in Ability only."
use Rattle.std.specs.Prelude.{ℕ, Bool, true, not, if◌then◌else◌}
use Rattle.answers.specs.declared.Refusal.TheVariants as refusal
use Rattle.answers.specs.Choices.{◌=?◌}
use Rattle.answers.specs.Answers.{refused}
use Rattle.page_word.specs.Fields.{field_of}
use Rattle.page_word.specs.NextPages.{same_toggle}
use Rattle.page_word.specs.declared.fields.Field.TheVariants as field
use Rattle.port_state.specs.declared.State.TheVariants.{Ack, Complete}
use Rattle.port_state.specs.declared.rounds.Round.TheVariants.{Later}
use Rattle.port_state.specs.declared.Link.{Link}
use Rattle.port_state.specs.declared.Device.{Device}
use Rattle.port_state.specs.Memory.{Due, due, into_break}
use Rattle.port_state.specs.Changes.{with_state, with_flags, with_held_next, with_heard_next, with_round, with_count, mark_heard}
use Rattle.port_state.specs.Rounds.{is_first, held_in_round}
use Rattle.port_hearing.specs.BasePages.{takes, beyond_ack, beyond_ack_and_echo}

-- "one that differs from the held page beyond Ack"
abbrev pub is_changed_next : (word held : ℕ) → Bool
is_changed_next word held = not (beyond_ack word =? beyond_ack held)

-- "one that does not differ from the held page beyond Ack (at round first: beyond Ack and E)"
unfoldable pub repeats_held : (word : ℕ) → Link → Bool
repeats_held word link =
    if is_first link.next.round then beyond_ack_and_echo word =? beyond_ack_and_echo (held_in_round link)
    else beyond_ack word =? beyond_ack (held_in_round link)

-- "hold it as the held Next Page, round later, mark heard, to Ack"
abbrev pub holds_next : (word reading : ℕ) → Device → Device
holds_next word reading d = with_state Ack (mark_heard reading (with_round Later (with_held_next word d)))

-- "Ability, at round first or later, on a good page: one that does not differ from the held page beyond Ack (at round first: beyond Ack and E) marks heard, stay. D11
-- equal to the held page's: Toggle, to Break. Else hold it .."
unfoldable pub next_page_in_ability : (word reading : ℕ) → Device → Due
next_page_in_ability word reading d =
    if repeats_held word d.link then takes word reading (mark_heard reading d)
    else if same_toggle word (held_in_round d.link) then due (refused refusal.Toggle) (into_break reading d)
    else takes word reading (holds_next word reading d)

-- "mark heard, load 523-525 with this page, set Page received, count 0, to Complete"
abbrev pub into_complete_again : (word reading : ℕ) → Device → Device
into_complete_again word reading d =
    with_state Complete
    (with_count 0 (with_flags true d.lasting.flags.fault (with_heard_next word (mark_heard reading d))))

-- "Ack, at round first or later, on a good page: one that differs from the held page beyond Ack: Changed, to Break. Ack 0: mark heard. Ack 1: mark heard, load .."
unfoldable pub next_page_in_ack : (word reading : ℕ) → Device → Due
next_page_in_ack word reading d =
    if is_changed_next word (held_in_round d.link) then due (refused refusal.Changed) (into_break reading d)
    else if field_of field.Ack word =? 0 then takes word reading (mark_heard reading d)
    else takes word reading (into_complete_again word reading d)
