-- A link from a fresh device through every state to Up, with the words of P9: own 850001, partner A90001 (hex). It shows that the steps lead
-- somewhere, and is one of the three pasts in WorkedPasts.
use Rattle.page_resolve.specs.Resolving.{rate_and_role}
use Rattle.std.specs.Prelude.{ℕ, ◌^◌, ◌≡◌, true, false, List, [], ◌∷◌, ◌++◌, map, Some}
use Rattle.answers.specs.Answers.{spoken, page_read, page_ordered, settled_on, register_value}
use Rattle.line_mode.specs.Modes.{lsm_mode}
use Rattle.line_writer.specs.Transitions.{readings}
use Rattle.port_state.specs.declared.State.{State}
use Rattle.port_state.specs.declared.State.TheVariants.{Off, Break, Ability, Ack, Complete, CheckLink, Up}
use Rattle.port_state.specs.Memory.{fresh_device}
use Rattle.port_step.specs.declared.events.Event.{Event}
use Rattle.port_step.specs.declared.events.Event.TheVariants.{Edge, Tick, Sent, Report, Read, Write}
use Rattle.port_step.specs.Steps.{says_to, after_all}

-- A page's edges from a reading on.
abbrev pub page_from : (reading word : ℕ) → List Event
page_from reading word = map Edge (readings lsm_mode word reading)

-- A2 is advertised, and negotiation is enabled, at a reading;
abbrev pub enabled_at : (reading : ℕ) → List Event
enabled_at reading = Write reading 515 0x80 ∷ Write reading 512 (2 ^ 12) ∷ []

abbrev pub to_break : List Event
to_break = enabled_at 0

-- the break timer is out, with 5 drawn, so that the own page is 850001;
abbrev pub to_ability : List Event
to_ability = to_break ++ (Tick 8000000 5 ∷ [])

-- the partner's page comes, A90001,
abbrev pub to_ack : List Event
to_ack = to_ability ++ page_from 8001000 0xA90001

-- and again with Ack 1 and the own nonce, 5, echoed;
abbrev pub to_complete : List Event
to_complete = to_ack ++ page_from 8200000 0xA940A1

-- three pages are ordered and sent;
abbrev pub three_sent : List Event
three_sent = Tick 8400000 0 ∷ Sent 8524800 ∷ Tick 8874800 0 ∷ Sent 8999600 ∷ Tick 9349600 0 ∷ Sent 9474400 ∷ []

abbrev pub to_check_link : List Event
to_check_link = to_complete ++ three_sent

-- the link comes up; the registers 513, 517 and 518 are read.
abbrev pub to_up : List Event
to_up = to_check_link ++ (Report 9500000 true ∷ [])

abbrev pub reads : List Event
reads = Read 9500001 513 ∷ Read 9500002 513 ∷ Read 9500003 517 ∷ Read 9500004 518 ∷ []

abbrev pub state_after : List Event → State
state_after events = (after_all fresh_device events).state

-- The states, the outcome that is kept, and all that is said on the way: two pages read, the own page ordered three times with Ack 1 and the partner's nonce, 9, echoed,
-- 1000BASE-T1 and slave (P9), and the registers: 513 first with Page received and complete, then with complete and the link latch; 517
-- and 518 with D15-0 and D31-16 of the page that was acknowledged.
pub record FirstLink : Type 0 where
  pub off : state_after [] ≡ Off
  pub break : state_after to_break ≡ Break
  pub ability : state_after to_ability ≡ Ability
  pub ack : state_after to_ack ≡ Ack
  pub complete : state_after to_complete ≡ Complete
  pub check_link : state_after to_check_link ≡ CheckLink
  pub outcome : (after_all fresh_device to_check_link).link.outcome ≡ Some (rate_and_role 2 false)
  pub up : state_after to_up ≡ Up
  pub says : spoken (says_to fresh_device (to_up ++ reads))
      ≡ page_read 0xA90001 ∷ page_read 0xA940A1 ∷ page_ordered 0x854121 ∷ page_ordered 0x854121 ∷ page_ordered 0x854121 ∷ settled_on 2 false ∷ register_value 0x68
      ∷ register_value 0x2C ∷ register_value 0x40A1 ∷ register_value 0xA9 ∷ []
