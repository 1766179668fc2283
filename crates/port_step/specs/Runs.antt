-- The run call: a fresh device takes events as numbers and gives one answer for each. The numbers are those of the fixed interfaces.
use Rattle.std.specs.Prelude.{ℕ, ◌/◌, ◌%◌, ◌^◌, not, List, [], ◌∷◌, map, length, if◌then◌else◌}
use Rattle.answers.specs.declared.Refusal.TheVariants.{Room}
use Rattle.answers.specs.Choices.{◌≤?◌, ◌=?◌}
use Rattle.answers.specs.Answers.{packed, number, Leaves, leaving, put_at, kept}
use Rattle.port_state.specs.Memory.{fresh_device}
use Rattle.port_step.specs.declared.events.Event.{Event}
use Rattle.port_step.specs.declared.events.Event.TheVariants.{Edge, Tick, Sent, Report, Read, Write, Unnamed}
use Rattle.port_step.specs.Steps.{says_to}

-- An event by its kind, its clock reading (taken modulo 2^32) and its argument: for a tick the draw; for a report, 0 is down and anything else up; for a read
-- the register's number; for a write that number times 2^16, plus the value. A kind of 6 or more names no event.
unfoldable pub event_of : (kind clock argument : ℕ) → Event
event_of kind clock argument =
    let reading = clock % 2 ^ 32 in
    if kind =? 0 then Edge reading
    else if kind =? 1 then Tick reading argument
    else if kind =? 2 then Sent reading
    else if kind =? 3 then Report reading (not (argument =? 0))
    else if kind =? 4 then Read reading argument
    else if kind =? 5 then Write reading (argument / 2 ^ 16) (argument % 2 ^ 16)
    else Unnamed

-- A row of cells as events, three cells each; cells after the last whole event are not looked at.
unfoldable pub events_of : (cells : List ℕ) → List Event
events_of [] = []
events_of (kind ∷ []) = []
events_of (kind ∷ clock ∷ []) = []
events_of (kind ∷ clock ∷ argument ∷ rest) = event_of kind clock argument ∷ events_of rest

-- One answer for each event, in order, as numbers.
abbrev pub answers_to : (cells : List ℕ) → List ℕ
answers_to cells = map packed (says_to fresh_device (events_of cells))

-- The call: the number of events, and the answers from the list's start on; "if there is no room for them" (fixed interfaces), 12, Room, and "list kept".
unfoldable pub run_of : (cells list : List ℕ) → Leaves
run_of cells list =
    let count = length (events_of cells) in
    if count ≤? length list then leaving (number count) (put_at 0 (answers_to cells) list)
    else kept Room list
