-- 01, "The negotiation (LSM)", and its amendments: what a device remembers, and what entering Break or Off leaves of it.
use Rattle.std.specs.Prelude.{ℕ, ◌≡◌, Bool, true, false, Option, None}
use Rattle.answers.specs.Answers.{Said, said}
use Rattle.line_reader.specs.declared.reader.Reader.TheVariants.{Fresh}
use Rattle.page_resolve.specs.Resolving.{Resolution}
pub use Rattle.port_state.specs.declared.State.{State}
use Rattle.port_state.specs.declared.State.TheVariants.{Off, Break, Ability, Ack, Complete, CheckLink, Up}
pub use Rattle.port_state.specs.declared.Lasting.{Lasting}
pub use Rattle.port_state.specs.declared.Talk.{Talk}
pub use Rattle.port_state.specs.declared.NextPages.{NextPages}
use Rattle.port_state.specs.declared.rounds.Round.TheVariants.{Base}
pub use Rattle.port_state.specs.declared.Link.{Link}
pub use Rattle.port_state.specs.declared.Device.{Device}
use Rattle.port_state.specs.declared.Reply.{Reply}

-- What resolving came to, if it was asked.
abbrev pub Outcome : Type 0
Outcome = Option Resolution

-- What an event has to bring: what is said, and the device afterwards.
pub record Due : Type 0 where
  pub says : Said
  pub device : Device

-- That a reply of the code is just what is due.
pub record Meets (r : Reply) (d : Due) : Type 0 where
  pub answer : said r.answer ≡ d.says
  pub device : r.device ≡ d.device

abbrev pub due : Said → Device → Due
due says device = record { says = says; device = device }

-- A choice by state: in Off, Break, Ability, Ack, Complete, Check-link, Up, in this order.
abbrev pub by_state : {A : Type 0} → State → (off break ability ack complete checkLink up : A) → A
by_state Off off break ability ack complete checkLink up = off
by_state Break off break ability ack complete checkLink up = break
by_state Ability off break ability ack complete checkLink up = ability
by_state Ack off break ability ack complete checkLink up = ack
by_state Complete off break ability ack complete checkLink up = complete
by_state CheckLink off break ability ack complete checkLink up = checkLink
by_state Up off break ability ack complete checkLink up = up

abbrev pub is_off : State → Bool
is_off state = by_state state true false false false false false false

abbrev pub is_break : State → Bool
is_break state = by_state state false true false false false false false

-- The states in which edges are heard, unless a page is out.
abbrev pub is_talking : State → Bool
is_talking state = by_state state false false true true true false false

abbrev pub is_up : State → Bool
is_up state = by_state state false false false false false false true

-- Nothing said and nothing heard: no own page, no held page, no page out, count 0, the link latch clear. The timer stands at the reading given: in Break
-- this starts the break timer; in Off it is 0 and never looked at. The mark is set anew on leaving Break and not looked at before; until then it is
-- "waiting" at the same reading.
abbrev pub no_talk : (reading : ℕ) → Talk
no_talk reading =
    record { own = 0; held = 0; count = 0; mark = reading; timer = reading; out = false; heard = false; latch = false }

-- 01's amendments, request 7: "Entering Break or Off forgets all of these: registers zero, loaded mark clear, pages gone, round base, and the reading of the last good page is that of the
-- entry into Break, in Off zero." A page that is gone is 0.
abbrev pub no_next_pages : (reading : ℕ) → NextPages
no_next_pages reading =
    record { own = 0; held = 0; transmit = 0; heard = 0; good = reading; loaded = false; round = Base }

-- Nothing of any link: 7.517-7.519 zero, no Next Pages, nothing said, no outcome, a fresh reader.
abbrev pub no_link : (reading : ℕ) → Link
no_link reading =
    record { partner = 0; next = no_next_pages reading; talk = no_talk reading; outcome = None; reader = Fresh }

-- A device that knows no link, with what outlives links.
abbrev pub without_link : Lasting → State → (reading : ℕ) → Device
without_link lasting state reading = record { lasting = lasting; state = state; link = no_link reading }

-- "fresh (Off, all zero)"
abbrev pub fresh_device : Device
fresh_device = without_link (record { advertised = 0; flags = record { received = false; fault = false } }) Off 0

-- "entering it forgets reader, own page, held page, page out, count, outcome and 7.517-7.519 (then zero), clears the link latch, starts the break
-- timer. Entering Off forgets and clears the same, and starts no timer." 7.514-7.516, Page received and Remote fault are not among them.
abbrev pub into_break : (reading : ℕ) → Device → Device
into_break reading d = without_link d.lasting Break reading

abbrev pub into_off : Device → Device
into_off d = without_link d.lasting Off 0
