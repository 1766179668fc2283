-- What the customer's demands say beyond the contracts of the calls, in one place. The rest is the contracts themselves, which say that the code's
-- result is what the definition has (`Meets` does so for a device's reply): so "each step of negotiation" follows 01, and so it is with demand 1, "Every call takes
-- any input, and every one ends. Nobody has to check anything beforehand. A refusal carries one number from document 01's table, given when its condition holds and
-- not otherwise, and the state and lent memory after it are as written there." Each function's contract holds it: it is proved at every input that the
-- function is safe, ends and answers and leaves what its definition has (of a record of numbers that an event has changed, the device that it means: `NoSecondAnswer`, meant); and no public function has a `requires`, which `tools/no-requires` checks.
use Rattle.line_mode.specs.Modes.{hsm_mode, lsm_mode}
use Rattle.line_captures.specs.ReadingBack.{ReadingBack}
use Rattle.page_messages.specs.Covering.{MessageRuns}
use Rattle.page_messages.specs.WorkedRuns.{WorkedRuns}
use Rattle.frame_field.specs.FieldLaws.{FieldLaws}
use Rattle.frame_polynomial.specs.FrameFacts.{FrameFacts}
use Rattle.frame_parity.specs.AnyCutting.{AnyCutting}
use Rattle.frame_parity.specs.WorkedFrames.{WorkedFrames}
use Rattle.port_lent.specs.LentDevice.{LentDevice}
use Rattle.promises.specs.OneAnswer.{NoSecondAnswer}
use Rattle.promises.specs.NotMade.{NotMade}
use Rattle.promises.specs.MadeByCalls.{MadeByCalls}
use Rattle.promises.specs.AtTheDevice.{ReadingAtTheDevice}
use Rattle.promises.specs.TwoPasts.{NoPageOutlivesItsLink, AsIfNew}
use Rattle.promises.specs.FirstLink.{FirstLink}
use Rattle.promises.specs.Refusals.{EachRefusal}
use Rattle.promises.specs.WorkedPasts.{WorkedPasts}
use Rattle.promises.specs.Table.{Table}
use Rattle.promises.specs.SmallDamage.{SmallDamage}
use Rattle.promises.specs.BothEnds.{BothEnds}
use Rattle.promises.specs.NextPageLinks.{NextPageLinks}
use Rattle.promises.specs.NextPageFacts.{NextPageFacts}

pub record Demands : Type 0 where
  -- Demand 1, beyond the contracts. 01, "What the promises have to say": "That no second answer fits is proved".
  pub no_second_answer : NoSecondAnswer
  -- What is so of every device that calls have made,
  pub made_by_calls : MadeByCalls
  -- and some others, worked out: "A device or reader record that no call has made is taken too".
  pub not_made : NotMade
  -- Demand 2: "Pages become line transitions, and transitions pages, exactly by Clause 98 as condensed in 01: transitions after quiet or a fresh start, each gap in
  -- its window, read back as the page sent, and no others read as a page. Check bits, registers, each step of negotiation, rate and role follow 01." What each call
  -- answers is fixed by its contract, which cites the definitions that write 01 out; that pages are read back, and nothing else, is said here: of
  -- the edge reader and of captures at both speeds ("Mode 0 is HSM", "Mode 1 is LSM"),
  pub high_speed : ReadingBack 0 hsm_mode
  pub low_speed_law : ReadingBack 1 lsm_mode
  -- and of a device, over the edges that it takes, those in Ability, Ack and Complete while no page is out.
  pub at_the_device : ReadingAtTheDevice
  -- "good if the check bits agree": no small damage makes another page of a page.
  pub small_damage : SmallDamage
  -- "Common bits, first in this order", and one end is master.
  pub both_ends : BothEnds
  -- Demand 3: "Take two modules with any two pasts from fresh, each just gone into Break, with the same advertisement registers. Give both the same later events and
  -- draws, the second's clock readings all shifted by the difference of their entry readings modulo 2^32. Then every answer, register value and ordered page, as demand 2
  -- defines them, is the same at both. Only bits 6 and 4 of register 7.513 may differ, up to and with its first read."
  pub no_page_outlives_its_link : NoPageOutlivesItsLink
  -- What it comes to for one module: after Break, no answer depends on any page heard before it, but for these two bits.
  pub as_if_new : AsIfNew
  -- It speaks of something: modules that do differ in bit 6 of 7.513, and in nothing else that they say, one of them amid Next Pages.
  pub worked_pasts : WorkedPasts
  -- Demands 1 and 2, worked out: "One statement covers P1-P14."
  pub table : Table
  -- "a device that stays in Break" is shut out: a link comes up through every state,
  pub first_link : FirstLink
  -- and each refusal is met.
  pub each_refusal : EachRefusal
  -- Request 7, worked out: two ends that tell each other pages, the hold, a repeat, Toggle, Changed, lost, a head that is swapped;
  pub next_page_links : NextPageLinks
  -- and what holds of Next Pages at every device, some of it beyond the request.
  pub next_page_facts : NextPageFacts
  -- Request 8: joined again the messages of a run cover it once, they are the only ones that do, and what is told of them names each page once;
  pub message_runs : MessageRuns
  -- and runs worked out, a head's model among them, with each refusal.
  pub worked_runs : WorkedRuns
  -- Request 10: symbols are a field, of which alpha's powers are all but zero;
  pub field_laws : FieldLaws
  -- a frame is zero at the 44 powers, no other 450 symbols are, and one to 44 changed symbols never make another frame;
  pub frame_facts : FrameFacts
  -- however the data are cut into bursts, the state and the parity are the same;
  pub any_cutting : AnyCutting
  -- and bursts and finishes worked out, with each refusal.
  pub worked_frames : WorkedFrames
  -- Request 14: calls on a record of plain numbers that a caller keeps and lends are answered as by the device that it means, and from a fresh one on as in a run.
  pub lent_device : LentDevice
