-- What functions of this crate show to each other; no public contract cites it. Most edges change nothing but the reader's numbers, and many events nothing at all: these are told quickly,
-- without making a device of the record. And the three numbers of an event in a row of cells.
use Rattle.line_reader.specs.Endings.{Heard}
use Rattle.std.specs.Prelude.{ℕ, ◌+◌, Bool, true, false, List, get_or, Some, None, Ok, Err}
use Rattle.port_state.specs.declared.plain_record.PlainRecord.{PlainRecord}
use Rattle.port_state.specs.declared.plain_record.ReaderNumbers.{ReaderNumbers}
use Rattle.port_state.specs.Memory.{Due}
use Rattle.port_lent.specs.declared.quick.Quick.{Quick}
use Rattle.port_lent.specs.declared.quick.Quick.TheVariants.{Slow, Kept, Moved}
use Rattle.port_lent.specs.declared.runs.EventNumbers.{EventNumbers}
use Rattle.port_lent.specs.Lent.{Tells}

-- The record with the numbers of another reader.
abbrev pub with_reader_numbers : ReaderNumbers → PlainRecord → PlainRecord
with_reader_numbers reader r =
    record {
      advertised = r.advertised;
      partner = r.partner;
      transmit = r.transmit;
      heard = r.heard;
      own_base = r.own_base;
      held_base = r.held_base;
      own_next = r.own_next;
      held_next = r.held_next;
      bits = reader.bits;
      last = reader.last;
      position = reader.position;
      reader = reader.kind;
      mark = r.mark;
      timer = r.timer;
      good = r.good;
      count = r.count;
      state = r.state;
      round = r.round;
      is_out = r.is_out;
      is_heard = r.is_heard;
      is_loaded = r.is_loaded;
      is_latched = r.is_latched;
      is_received = r.is_received;
      is_fault = r.is_fault;
      outcome = r.outcome;
      ability = r.ability;
      is_master = r.is_master;
    }

-- What is told quickly: this answer, with the record as it was, or with these numbers of the reader. Slow says nothing: then the whole step is taken.
abbrev pub tells_quickly : Quick → PlainRecord → Due → Type 0
tells_quickly Slow plain d = Unit {0}
tells_quickly (Kept answer) plain d = Tells (record { answer = answer; after = plain }) d
tells_quickly (Moved answer reader) plain d =
    Tells (record { answer = answer; after = with_reader_numbers reader plain }) d

-- That what is told quickly is what is due.
pub record Fits (quick : Quick) (plain : PlainRecord) (d : Due) : Type 0 where
  pub shown : tells_quickly quick plain d

-- Whether an edge ends a good page, so that more than the reader may change.
abbrev pub is_good : Heard → Bool
is_good None = false
is_good (Some (Ok word)) = true
is_good (Some (Err broken)) = false

-- The three numbers of the event that starts at a place in a row of cells; a cell past the end counts as 0.
abbrev pub numbers_at : (cells : List ℕ) (place : ℕ) → EventNumbers
numbers_at cells place = record { kind = get_or cells place 0; clock = get_or cells (place + 1) 0; argument = get_or cells (place + 2) 0 }
