-- 01, "What the promises have to say": "A device or reader record that no call has made is taken too: the call ends safely and gives what the written definition
-- gives there." Some of them, worked out.
use Rattle.std.specs.Prelude.{ℕ, ◌^◌, ◌≡◌, true, false, Some, Err}
use Rattle.answers.specs.declared.Refusal.TheVariants as refusal
use Rattle.answers.specs.Answers.{nothing, refused}
use Rattle.page_resolve.specs.Resolving.{said_of, Resolution, rate_and_role}
use Rattle.line_mode.specs.Modes.{lsm_mode}
use Rattle.line_reader.specs.declared.endings.Broken.TheVariants.{Gap}
use Rattle.line_reader.specs.declared.reader.Reader.TheVariants.{Open, Dropping}
use Rattle.line_reader.specs.Reading.{step, edge_of}
use Rattle.port_state.specs.declared.Device.{Device}
use Rattle.port_state.specs.declared.State.TheVariants.{Ability, Complete, CheckLink, Up}
use Rattle.port_state.specs.declared.rounds.Round.TheVariants.{First}
use Rattle.port_state.specs.Memory.{due, fresh_device}
use Rattle.port_state.specs.Changes.{with_state, with_own, with_held, with_out, with_count, mark_waiting, with_timer, with_outcome, with_reader, with_own_next, with_round}
use Rattle.port_step.specs.declared.events.Event.TheVariants.{Edge, Tick, Sent}
use Rattle.port_step.specs.Steps.{step_due}
use Rattle.promises.specs.MadeByCalls.{Made}

-- A device in Complete with a page out, these two pages and this count:
abbrev pub complete_with : (own held count : ℕ) → Device
complete_with own held count = with_state Complete (with_out true (with_count count (with_held held (with_own own fresh_device))))

-- an own page of 2^48; one with selector 0; two equal nonces, both 5; a count of four.
abbrev pub wide_own : Device
wide_own = complete_with (2 ^ 48) 0xA90001 2

abbrev pub selector_zero : Device
selector_zero = complete_with 0x850000 0xA90001 2

abbrev pub equal_nonces : Device
equal_nonces = complete_with 0x850001 0xA50001 2

abbrev pub count_of_four : Device
count_of_four = complete_with 0x850001 0xA90001 4

-- A device in Complete at round first: on the way to Ack a Next Page of the partner's is held, and the round is later.
abbrev pub first_in_complete : Device
first_in_complete = with_round First (with_own_next 0x2801 (complete_with 0x850001 0x898001 2))

-- A device in Up with a page out.
abbrev pub out_in_up : Device
out_in_up = with_state Up (with_outcome (Some (rate_and_role 2 false)) (with_out true fresh_device))

-- A device in Ability whose reader stands at position 156, where no page has a transition.
abbrev pub at156 : Device
at156 = with_state Ability (with_reader (Open 156 0 0) (with_own 0x850001 fresh_device))

-- "resolve own and held *base* page": "answer and keep the outcome, go to Check-link, starting the inhibit timer", when a page is sent at 1000. The page is no
-- longer out, the mark is "waiting", and the count is 3.
abbrev pub Resolves : Device → Resolution → Type 0
Resolves d resolution =
    step_due (Sent 1000) d
    ≡ due (said_of resolution) (with_state CheckLink (with_outcome (Some resolution) (with_timer 1000 (with_count 3 (mark_waiting 1000 (with_out false d))))))

pub record NotMade : Type 0 where
  -- No events from fresh on make one of them: they are not as `made` of `MadeByCalls` has it.
  pub no_wide_own : Made wide_own → ⊥
  pub no_selector_zero : Made selector_zero → ⊥
  pub no_equal_nonces : Made equal_nonces → ⊥
  pub no_count_of_four : Made count_of_four → ⊥
  pub no_first_in_complete : Made first_in_complete → ⊥
  pub no_page_out_in_up : Made out_in_up → ⊥
  pub no_reader_at_156 : Made at156 → ⊥
  -- "In Complete a refusal of resolving, 4, 5 or 13 as well (these only on a record that no call has made), goes to Check-link without a rate."
  pub wide : Resolves wide_own (Err refusal.Wide)
  pub selector : Resolves selector_zero (Err refusal.Selector)
  pub tie : Resolves equal_nonces (Err refusal.Tie)
  -- "Each page sent adds one, up to three." A count that is more is not named; the definition resolves there too, and leaves 3.
  pub count : Resolves count_of_four (rate_and_role 2 false)
  -- Round first in Complete: the held page is the base page, whose NP is one, so the Null message is next; "round base becomes first", and first stays.
  pub first : step_due (Sent 1000) first_in_complete
      ≡ due nothing (with_state Ability (with_own_next 0x2001 (with_count 3 (mark_waiting 1000 (with_out false first_in_complete)))))
  -- A page out in Up: "Sent ends it and marks waiting" there too, nothing is answered, and Up stays. "edges ignored"; a tick is not named.
  pub sent_in_up : step_due (Sent 1000) out_in_up ≡ due nothing (mark_waiting 1000 (with_out false out_in_up))
  pub edge_in_up : step_due (Edge 1000) out_in_up ≡ due nothing out_in_up
  pub tick_in_up : step_due (Tick 1000 5) out_in_up ≡ due nothing out_in_up
  -- A reader at position 156: a gap of one position, which would lead to 157, is wrong, and so is one of two, which is right at 155; a quiet one is Cut.
  pub gap : step_due (Edge 800) at156 ≡ due (refused refusal.Gap) (with_reader (Dropping 800) at156)
  pub gap_of_two : step_due (Edge 1600) at156 ≡ due (refused refusal.Gap) (with_reader (Dropping 1600) at156)
  pub cut : step_due (Edge 3441) at156 ≡ due (refused refusal.Cut) (with_reader (Open 1 3441 0) at156)
  -- The reader by itself.
  pub bare_reader : edge_of lsm_mode (Open 156 0 0) 800 ≡ step (Some (Err Gap)) (Dropping 800)
