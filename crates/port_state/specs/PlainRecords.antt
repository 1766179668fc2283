-- 02, request 14, "on a record that the caller lends": the device as plain numbers, for a caller that knows no enum (fixed interfaces, request 14: "what device a record means, at any content; what
-- record a device has").
use Rattle.std.specs.Prelude.{ℕ, Bool, not, if◌then◌else◌, Some, None, Ok, Err}
use Rattle.answers.specs.Choices.{◌=?◌}
use Rattle.answers.specs.Numbers.{number_of, refusal_of}
use Rattle.page_resolve.specs.Resolving.{rate_and_role}
use Rattle.line_reader.specs.declared.reader.Reader.{Reader}
use Rattle.line_reader.specs.declared.reader.Reader.TheVariants.{Fresh, Open, Dropping}
use Rattle.port_state.specs.declared.State.TheVariants.{Off, Break, Ability, Ack, Complete, CheckLink, Up}
use Rattle.port_state.specs.declared.rounds.Round.{Round}
use Rattle.port_state.specs.declared.rounds.Round.TheVariants.{Base, First, Later}
use Rattle.port_state.specs.declared.plain_record.PlainRecord.{PlainRecord}
use Rattle.port_state.specs.declared.plain_record.ReaderNumbers.{ReaderNumbers}
use Rattle.port_state.specs.declared.plain_record.OutcomeNumbers.{OutcomeNumbers}
use Rattle.port_state.specs.Memory.{State, Lasting, Talk, NextPages, Outcome, Link, Device, by_state}
use Rattle.port_state.specs.Rounds.{by_round}

-- Yes or no: 0 is no, and anything else yes.
abbrev pub is_set : (number : ℕ) → Bool
is_set number = not (number =? 0)

-- 1 for yes, 0 for no.
abbrev pub one_if : (test : Bool) → ℕ
one_if test = if test then 1 else 0

-- The states, in 01's order from 0 on; a number that is none of theirs is Off.
unfoldable pub state_of : (number : ℕ) → State
state_of number =
    if number =? 1 then Break
    else if number =? 2 then Ability
    else if number =? 3 then Ack
    else if number =? 4 then Complete
    else if number =? 5 then CheckLink
    else if number =? 6 then Up
    else Off

abbrev pub state_number : State → ℕ
state_number state = by_state state 0 1 2 3 4 5 6

-- The rounds: 0 is base, 1 first, and anything else later.
unfoldable pub round_of : (number : ℕ) → Round
round_of number = if number =? 0 then Base else if number =? 1 then First else Later

abbrev pub round_number : Round → ℕ
round_number round = by_round round 0 1 2

-- The reader: 0 is fresh, 1 an open attempt, and anything else dropping. What a reader does not hold is not looked at, and is 0 in what `record_of` gives.
unfoldable pub reader_of : (kind position last bits : ℕ) → Reader
reader_of kind position last bits =
    if kind =? 0 then Fresh
    else if kind =? 1 then Open position last bits
    else Dropping last

abbrev pub reader_numbers : Reader → ReaderNumbers
reader_numbers Fresh = record { kind = 0; position = 0; last = 0; bits = 0 }
reader_numbers (Open position last bits) = record { kind = 1; position = position; last = last; bits = bits }
reader_numbers (Dropping last) = record { kind = 2; position = 0; last = last; bits = 0 }

-- The outcome, by the kind that its answer has: 0x82 is a rate and a role, 0 none yet, and anything else the refusal of that number, Gap if it is none's. The ability and the role are
-- looked at only with 0x82, and are 0 in what `record_of` gives of another outcome.
unfoldable pub outcome_of : (kind ability : ℕ) (master : Bool) → Outcome
outcome_of kind ability master =
    if kind =? 0x82 then Some (rate_and_role ability master)
    else if kind =? 0 then None
    else Some (Err (refusal_of kind))

abbrev pub outcome_numbers : Outcome → OutcomeNumbers
outcome_numbers None = record { kind = 0; ability = 0; is_master = 0 }
outcome_numbers (Some (Err refusal)) = record { kind = number_of refusal; ability = 0; is_master = 0 }
outcome_numbers (Some (Ok settled)) = record { kind = 0x82; ability = settled.ability; is_master = one_if settled.master }

-- The parts of a device that a record means. `heard` is the bank 7.523-7.525; `is_heard` says whether the mark is "heard".
abbrev pub lasting_of : PlainRecord → Lasting
lasting_of r = record { advertised = r.advertised; flags = record { received = is_set r.is_received; fault = is_set r.is_fault } }

abbrev pub talk_of : PlainRecord → Talk
talk_of r =
    record { own = r.own_base; held = r.held_base; count = r.count; mark = r.mark; timer = r.timer; out = is_set r.is_out; heard = is_set r.is_heard; latch = is_set r.is_latched }

abbrev pub next_pages_of : PlainRecord → NextPages
next_pages_of r =
    record { own = r.own_next; held = r.held_next; transmit = r.transmit; heard = r.heard; good = r.good; loaded = is_set r.is_loaded; round = round_of r.round }

abbrev pub link_of : PlainRecord → Link
link_of r =
    record { partner = r.partner; next = next_pages_of r; talk = talk_of r; outcome = outcome_of r.outcome r.ability (is_set r.is_master); reader = reader_of r.reader r.position r.last r.bits }

-- The device that a record means, whatever numbers stand in it.
unfoldable pub device_of : PlainRecord → Device
device_of r = record { lasting = lasting_of r; state = state_of r.state; link = link_of r }

-- The record of a device.
unfoldable pub record_of : Device → PlainRecord
record_of d =
    let talk = d.link.talk in
    let next = d.link.next in
    let reader = reader_numbers d.link.reader in
    let outcome = outcome_numbers d.link.outcome in
    record {
      advertised = d.lasting.advertised;
      partner = d.link.partner;
      transmit = next.transmit;
      heard = next.heard;
      own_base = talk.own;
      held_base = talk.held;
      own_next = next.own;
      held_next = next.held;
      bits = reader.bits;
      last = reader.last;
      position = reader.position;
      reader = reader.kind;
      mark = talk.mark;
      timer = talk.timer;
      good = next.good;
      count = talk.count;
      state = state_number d.state;
      round = round_number next.round;
      is_out = one_if talk.out;
      is_heard = one_if talk.heard;
      is_loaded = one_if next.loaded;
      is_latched = one_if talk.latch;
      is_received = one_if d.lasting.flags.received;
      is_fault = one_if d.lasting.flags.fault;
      outcome = outcome.kind;
      ability = outcome.ability;
      is_master = outcome.is_master;
    }
