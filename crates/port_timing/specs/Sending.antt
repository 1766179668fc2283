-- 01, "The negotiation (LSM)", and its amendments: the events "page sent" and "link report".
use Rattle.std.specs.Prelude.{ℕ, ◌+◌, false, Bool, true, ◌||◌, List, if◌then◌else◌, Some, None, Ok, Err}
use Rattle.answers.specs.declared.Refusal.TheVariants.{Turn}
use Rattle.answers.specs.Choices.{◌≤?◌}
use Rattle.answers.specs.Answers.{nothing, refused}
use Rattle.page_resolve.specs.Resolving.{resolution_of, said_of}
use Rattle.port_state.specs.declared.State.{State}
use Rattle.port_state.specs.declared.State.TheVariants.{Off, Break, Ability, Ack, Complete, CheckLink, Up}
use Rattle.port_state.specs.declared.Device.{Device}
use Rattle.page_word.specs.NextPages.{sets_next_page, null_message, next_after}
use Rattle.port_state.specs.declared.rounds.Round.{Round}
use Rattle.port_state.specs.declared.rounds.Round.TheVariants.{First, Later}
use Rattle.port_state.specs.Memory.{Outcome, Due, due, into_break}
use Rattle.port_state.specs.Changes.{with_state, with_outcome, with_out, with_count, mark_waiting, with_timer, with_own_next, with_loaded, with_round}
use Rattle.port_state.specs.Rounds.{by_round, own_in_round, held_in_round}

-- "Sent ends it and marks waiting."
abbrev pub ended : (reading : ℕ) → Device → Device
ended reading d = mark_waiting reading (with_out false d)

-- "resolve own and held *base* page, and go on as in 01": "answer and keep the outcome, go to Check-link, starting the inhibit timer." "In Complete a refusal of resolving, 4, 5 or 13 as well .., goes to Check-link without a rate."
abbrev pub resolved : (order : List ℕ) (reading : ℕ) → Device → Due
resolved order reading d =
    let resolution = resolution_of order d.link.talk.own d.link.talk.held in
    due (said_of resolution) (with_state CheckLink (with_outcome (Some resolution) (with_timer reading d)))

-- "round base becomes first"
abbrev pub round_after : Round → Round
round_after round = by_round round First First Later

-- A word becomes the own Next Page: "A new own Next Page gets Ack 0 and a D11 that is the inverse of that of the own page before it; round base becomes first; to
-- Ability."
abbrev pub goes_on : (word : ℕ) → Device → Device
goes_on word d =
    with_state Ability (with_round (round_after d.link.next.round) (with_own_next (next_after (own_in_round d.link) word) d))

-- "if the loaded mark is set, the own Next Page is 520-522 as they stand then, and the mark is cleared. Else if the own page's NP is zero, the own Next Page is the
-- Null message, 2001 hex. Else stay."
unfoldable pub next_or_null : Device → Device
next_or_null d =
    if d.link.next.loaded then goes_on d.link.next.transmit (with_loaded false d)
    else if sets_next_page (own_in_round d.link) then d
    else goes_on null_message d

-- "At three, at this page sent and at each later one: if neither the own page's nor the held page's NP is one, resolve .. Else .."
unfoldable pub decided : (order : List ℕ) (reading : ℕ) → Device → Due
decided order reading d =
    if sets_next_page (own_in_round d.link) || sets_next_page (held_in_round d.link) then due nothing (next_or_null d)
    else resolved order reading d

-- "Each page sent adds one, up to three. At three, at this page sent and at each later one: .." A count of more than three before, on a record that no call has made, is at
-- three as well, and 3 is what is left of it.
unfoldable pub counted : (order : List ℕ) (reading : ℕ) → Device → Due
counted order reading d =
    let count = d.link.talk.count + 1 in
    if 3 ≤? count then decided order reading (with_count 3 d) else due nothing (with_count count d)

-- Row 11 of the refusals, Turn: "or with no page out; kept".
abbrev pub if_out : Device → Due → Due
if_out d next = if d.link.talk.out then next else due (refused Turn) d

-- By state. Turn: "sent in Off or Break". In Check-link and Up a page is out only on a record that no call has made; "Sent ends it" there too.
abbrev pub sent_in : State → (order : List ℕ) (reading : ℕ) → Device → Due
sent_in Off order reading d = due (refused Turn) d
sent_in Break order reading d = due (refused Turn) d
sent_in Ability order reading d = if_out d (due nothing (ended reading d))
sent_in Ack order reading d = if_out d (due nothing (ended reading d))
sent_in Complete order reading d = if_out d (counted order reading (ended reading d))
sent_in CheckLink order reading d = if_out d (due nothing (ended reading d))
sent_in Up order reading d = if_out d (due nothing (ended reading d))

unfoldable pub sent_due : (order : List ℕ) (reading : ℕ) → Device → Due
sent_due order reading d = sent_in d.state order reading d

-- "With a rate resolved"
abbrev pub has_rate : Outcome → Bool
has_rate None = false
has_rate (Some (Err refusal)) = false
has_rate (Some (Ok settled)) = true

-- "Check-link: .. With a rate resolved, link up: to Up." "Up: .. Link down: to Break." Elsewhere a report is not named, or ignored.
abbrev pub report_in : State → (up : Bool) (reading : ℕ) → Device → Device
report_in Off up reading d = d
report_in Break up reading d = d
report_in Ability up reading d = d
report_in Ack up reading d = d
report_in Complete up reading d = d
report_in CheckLink up reading d = if up then (if has_rate d.link.outcome then with_state Up d else d) else d
report_in Up up reading d = if up then d else into_break reading d

unfoldable pub report_due : (up : Bool) (reading : ℕ) → Device → Due
report_due up reading d = due nothing (report_in d.state up reading d)
