-- 01, "The negotiation (LSM)", and its amendments: the edge event, and what a good page does in each state and round.
use Rattle.std.specs.Prelude.{ℕ, Bool, not, ◌&&◌, if◌then◌else◌, Some, None, Ok, Err}
use Rattle.answers.specs.Answers.{nothing}
use Rattle.line_mode.specs.declared.modes.LineMode.{LineMode}
use Rattle.line_reader.specs.declared.reader.Step.{Step}
use Rattle.line_reader.specs.Endings.{said_of_ending, Heard}
use Rattle.line_reader.specs.Reading.{edge_of}
use Rattle.port_state.specs.declared.State.{State}
use Rattle.port_state.specs.declared.State.TheVariants.{Off, Break, Ability, Ack, Complete, CheckLink, Up}
use Rattle.port_state.specs.declared.Device.{Device}
use Rattle.port_state.specs.Memory.{Due, due, is_talking}
use Rattle.port_state.specs.Changes.{mark_heard, with_reader}
use Rattle.port_state.specs.Rounds.{is_base}
use Rattle.port_hearing.specs.BasePages.{takes, base_page_in_ability, base_page_in_ack}
use Rattle.port_hearing.specs.NextPages.{next_page_in_ability, next_page_in_ack}

-- "At round base, Ability and Ack are as in 01"; "Ability, at round first or later, on a good page: ..", "Ack, at round first or later, on a good page: ..".
unfoldable pub page_in_ability : (word reading : ℕ) → Device → Due
page_in_ability word reading d =
    if is_base d.link.next.round then base_page_in_ability word reading d else next_page_in_ability word reading d

unfoldable pub page_in_ack : (word reading : ℕ) → Device → Due
page_in_ack word reading d =
    if is_base d.link.next.round then base_page_in_ack word reading d else next_page_in_ack word reading d

-- "Complete: a good page marks heard." In Off, Break, Check-link and Up no edge is read, so no page comes.
unfoldable pub page_in : State → (word reading : ℕ) → Device → Due
page_in Off word reading d = due nothing d
page_in Break word reading d = due nothing d
page_in Ability word reading d = page_in_ability word reading d
page_in Ack word reading d = page_in_ack word reading d
page_in Complete word reading d = takes word reading (mark_heard reading d)
page_in CheckLink word reading d = due nothing d
page_in Up word reading d = due nothing d

-- What was heard: of a good page the state decides; Gap, Cut and Check are answered.
unfoldable pub hears : Heard → (reading : ℕ) → Device → Due
hears None reading d = due nothing d
hears (Some (Ok word)) reading d = page_in d.state word reading d
hears (Some (Err broken)) reading d = due (said_of_ending (Err broken)) d

-- The reader takes the edge; what is heard then acts on the device with that reader.
abbrev pub listened : Step → (reading : ℕ) → Device → Due
listened step reading d = hears step.heard reading (with_reader step.reader d)

-- Where an edge is taken, and not ignored: in Off "all but registers is ignored"; in Break "Edges, sent aside (Turn), and reports are ignored"; in Check-link and
-- Up "edges ignored"; and "While a page is out, edges are ignored."
abbrev pub takes_edges : Device → Bool
takes_edges d = is_talking d.state && not d.link.talk.out

unfoldable pub edge_due : LineMode → (reading : ℕ) → Device → Due
edge_due mode reading d =
    if takes_edges d then listened (edge_of mode d.link.reader reading) reading d
    else due nothing d
