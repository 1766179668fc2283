-- 01, "The negotiation (LSM)", and its amendments: the tick event, with its draw; the timers that it looks at, the pages that it orders.
use Rattle.std.specs.Prelude.{ℕ, ◌+◌, ◌%◌, Bool, true, false, not, ◌&&◌, [], ◌∷◌, if◌then◌else◌, Option, Some, None, Ok, Err}
use Rattle.answers.specs.Choices.{◌≤?◌, ◌=?◌, ◌<?◌}
use Rattle.page_resolve.specs.Roles.{is_forced, has_t4}
use Rattle.line_mode.specs.Clock.{time_between}
use Rattle.line_mode.specs.Modes.{lsm_mode}
use Rattle.page_word.specs.Word.{among}
use Rattle.port_timing.specs.declared.profile.Profile.{Profile}
use Rattle.page_word.specs.Fields.{field_of, with_field}
use Rattle.page_word.specs.declared.fields.Field.TheVariants.{Selector, EchoedNonce, Ack, NextPage, Nonce}
use Rattle.answers.specs.Answers.{nothing, page_ordered}
use Rattle.line_reader.specs.declared.reader.Reader.{Reader}
use Rattle.line_reader.specs.declared.reader.Reader.TheVariants.{Fresh, Open, Dropping}
use Rattle.port_state.specs.declared.State.{State}
use Rattle.port_state.specs.declared.State.TheVariants.{Off, Break, Ability, Ack, Complete, CheckLink, Up}
use Rattle.port_state.specs.declared.Link.{Link}
use Rattle.port_state.specs.declared.Device.{Device}
use Rattle.port_state.specs.Memory.{Outcome, Due, due, into_break}
use Rattle.port_state.specs.Changes.{with_state, with_own, with_out, mark_waiting, with_reader}
use Rattle.port_state.specs.Rounds.{is_base, own_in_round}

-- "A timer has run out when the time since its start is at least its number, looked at on ticks only."
abbrev pub run_out : (number start reading : ℕ) → Bool
run_out number start reading = number ≤? time_between reading start

-- "Numbers in ns: break 8 000 000 (house); silent 33 000; wait 350 000", with the numbers of the low-speed mode. The break timer's is `breaking` here. 01's amendments, request 7: "Lost is
-- 4 000 000 ns (house), half of break."
abbrev pub low_speed : Profile
low_speed = record { mode = lsm_mode; breaking = 8000000; silent = 33000; wait = 350000; lost = 4000000 }

-- "inhibit 97 500 000 (also without a rate)"
abbrev pub inhibit : ℕ
inhibit = 97500000

-- "for 10BASE-T1S 402 000 000, for 10BASE-T1L 3 060 000 000". By "Rate and role" 10BASE-T1S is A1 (full) and A22 (half), 10BASE-T1L is A9.
abbrev pub inhibit_for : (ability : ℕ) → ℕ
inhibit_for ability =
    if among ability (1 ∷ 22 ∷ []) then 402000000
    else if ability =? 9 then 3060000000
    else inhibit

-- By the rate, if there is one.
abbrev pub inhibit_at : (rate : Option ℕ) → ℕ
inhibit_at None = inhibit
inhibit_at (Some ability) = inhibit_for ability

-- By the kept outcome.
abbrev pub inhibit_of : Outcome → ℕ
inhibit_of None = inhibit
inhibit_of (Some (Err refusal)) = inhibit
inhibit_of (Some (Ok settled)) = inhibit_for settled.ability

-- "tick (with a draw, taken modulo 32)", "T = draw (but T4 as advertised if M/S is 1)": T0-T3 are the draw's in both cases.
unfoldable pub nonce_for : (advertised draw : ℕ) → ℕ
nonce_for advertised draw =
    if is_forced advertised then draw % 16 + (if has_t4 advertised then 16 else 0) else draw % 32

-- "own page is the advertisement with S = 1, E = 0, Ack = 0, .., T = draw"; as amended, "NP of the own base page is one if the loaded mark is set, else zero."
unfoldable pub own_page : (advertised draw : ℕ) (loaded : Bool) → ℕ
own_page advertised draw loaded =
    with_field Nonce (nonce_for advertised draw)
    (with_field NextPage (if loaded then 1 else 0) (with_field Ack 0 (with_field EchoedNonce 0 (with_field Selector 1 advertised))))

-- "the own page (in Ack and Complete with Ack 1 and E = held T)"
unfoldable pub echoing_page : (own held : ℕ) → ℕ
echoing_page own held = with_field Ack 1 (with_field EchoedNonce (field_of Nonce held) own)

-- The page that is ordered in Ack and Complete: at round base "the own page as in 01"; "at rounds first and later it has, in Ack and Complete, Ack 1 and is
-- otherwise as it is."
unfoldable pub acknowledging : Link → ℕ
acknowledging link =
    if is_base link.next.round then echoing_page link.talk.own link.talk.held
    else with_field Ack 1 (own_in_round link)

-- "When the timer is out: own page is the advertisement ..; reader fresh; mark "waiting" now; to Ability." It is the own base page that is drawn up. In Break the
-- round is base, save on a record that no call has made, where it stays.
abbrev pub leaves_break : (reading draw : ℕ) → Device → Device
leaves_break reading draw d =
    with_state Ability
    (with_reader Fresh
    (mark_waiting reading (with_own (own_page d.lasting.advertised draw d.link.next.loaded) d)))

-- Whether an attempt is open "whose last edge is less than the quiet limit old".
abbrev pub holds_back : (quiet : ℕ) → Reader → (reading : ℕ) → Bool
holds_back quiet Fresh reading = false
holds_back quiet (Open at last bits) reading = time_between reading last <? quiet
holds_back quiet (Dropping last) reading = false

-- "if none is out, no attempt is open whose last edge is less than the quiet limit old, and silent has run since the mark if it is heard, wait if waiting"
unfoldable pub may_order : Profile → (reading : ℕ) → Link → Bool
may_order p reading link =
    not link.talk.out
    && (not (holds_back p.mode.quiet link.reader reading)
    && run_out (if link.talk.heard then p.silent else p.wait) link.talk.mark reading)

-- "a tick orders the own page", so it is out.
unfoldable pub orders : Profile → (reading word : ℕ) → Device → Due
orders p reading word d =
    if may_order p reading d.link then due (page_ordered word) (with_out true d) else due nothing d

-- "In Ability, Ack and Complete at round first or later, a tick with no page out goes to Break if lost has run since that reading", that of the last good page.
unfoldable pub is_lost : Profile → (reading : ℕ) → Link → Bool
is_lost p reading link =
    not (is_base link.next.round) && (not link.talk.out && run_out p.lost link.next.good reading)

-- "A tick that does not so go to Break orders the own page".
unfoldable pub talks : Profile → (reading word : ℕ) → Device → Due
talks p reading word d = if is_lost p reading d.link then due nothing (into_break reading d) else orders p reading word d

-- By state. "When the timer is out: .. to Ability." "Check-link: .. Timer out: to Break." "Off: all but registers is ignored, sent aside"; in Up a tick is not named.
abbrev pub tick_in : State → Profile → (reading draw : ℕ) → Device → Due
tick_in Off p reading draw d = due nothing d
tick_in Break p reading draw d =
    due nothing (if run_out p.breaking d.link.talk.timer reading then leaves_break reading draw d else d)
tick_in Ability p reading draw d = talks p reading (own_in_round d.link) d
tick_in Ack p reading draw d = talks p reading (acknowledging d.link) d
tick_in Complete p reading draw d = talks p reading (acknowledging d.link) d
tick_in CheckLink p reading draw d =
    due nothing (if run_out (inhibit_of d.link.outcome) d.link.talk.timer reading then into_break reading d else d)
tick_in Up p reading draw d = due nothing d

unfoldable pub tick_due : Profile → (reading draw : ℕ) → Device → Due
tick_due p reading draw d = tick_in d.state p reading draw d
