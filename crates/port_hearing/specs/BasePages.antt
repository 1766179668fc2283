-- 01, "The negotiation (LSM)": what a good page does in Ability and in Ack; by 01's amendments, at round base: "At round base, Ability and Ack are as in 01."
use Rattle.std.specs.Prelude.{ℕ, Bool, true, not, ◌||◌, if◌then◌else◌, Ok}
use Rattle.answers.specs.declared.Refusal.TheVariants as refusal
use Rattle.answers.specs.Choices.{◌=?◌}
use Rattle.answers.specs.Answers.{refused}
use Rattle.page_word.specs.Fields.{field_of, with_field, has_other_selector, is_tie}
use Rattle.page_word.specs.declared.fields.Field.TheVariants as field
use Rattle.line_reader.specs.Endings.{said_of_ending}
use Rattle.port_state.specs.declared.State.TheVariants.{Ack, Complete}
use Rattle.port_state.specs.declared.Device.{Device}
use Rattle.port_state.specs.Memory.{Due, due, into_break}
use Rattle.port_state.specs.Changes.{with_state, with_partner, with_flags, with_held, with_count, mark_heard, with_good}

-- "A good page not refused answers itself". 01's amendments, request 7: "at any round a good page that is not refused sets the reading of the last good page to that of its last edge."
abbrev pub takes : (word reading : ℕ) → Device → Due
takes word reading d = due (said_of_ending (Ok word)) (with_good reading d)

-- "hold it, mark "heard" at its last edge, to Ack"
abbrev pub holds : (word reading : ℕ) → Device → Device
holds word reading d = with_state Ack (mark_heard reading (with_held word d))

-- "Ability: on a good page, S other than 1: Selector, stay. T equal to own: Tie, to Break. Else hold it, .."
unfoldable pub base_page_in_ability : (word reading : ℕ) → Device → Due
base_page_in_ability word reading d =
    if has_other_selector word then due (refused refusal.Selector) d
    else if is_tie d.link.talk.own word then due (refused refusal.Tie) (into_break reading d)
    else takes word reading (holds word reading d)

-- "set Remote fault if D13"
abbrev pub fault_after : (word : ℕ) (fault : Bool) → Bool
fault_after word fault = field_of field.RemoteFault word =? 1 || fault

-- "mark heard, load 7.517-7.519 with this page, set Page received, set Remote fault if D13, count 0, to Complete"
abbrev pub into_complete : (word reading : ℕ) → Device → Device
into_complete word reading d =
    with_state Complete
    (with_count 0
    (with_flags true (fault_after word d.lasting.flags.fault) (with_partner word (mark_heard reading d))))

-- What of a word is compared: the word with Ack 0, or with Ack and E 0. A number of 2^48 or more, held only by a record that no call has made, differs from every
-- page in its upper bits.
unfoldable pub beyond_ack : (word : ℕ) → ℕ
beyond_ack word = with_field field.Ack 0 word

unfoldable pub beyond_ack_and_echo : (word : ℕ) → ℕ
beyond_ack_and_echo word = beyond_ack (with_field field.EchoedNonce 0 word)

-- "differs from the held one beyond Ack and E"
abbrev pub is_changed : (word held : ℕ) → Bool
is_changed word held = not (beyond_ack_and_echo word =? beyond_ack_and_echo held)

-- "E not own T"
abbrev pub echoes_other : (own word : ℕ) → Bool
echoes_other own word = not (field_of field.EchoedNonce word =? field_of field.Nonce own)

-- "Ack: on a good page that differs from the held one beyond Ack and E: Changed, to Break. Ack 0: mark heard. Ack 1 and E not own T: Echo, to
-- Break. Else mark heard, load .."
unfoldable pub base_page_in_ack : (word reading : ℕ) → Device → Due
base_page_in_ack word reading d =
    if is_changed word d.link.talk.held then due (refused refusal.Changed) (into_break reading d)
    else if field_of field.Ack word =? 0 then takes word reading (mark_heard reading d)
    else if echoes_other d.link.talk.own word then due (refused refusal.Echo) (into_break reading d)
    else takes word reading (into_complete word reading d)
