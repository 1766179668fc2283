-- The twin of a device: the same device on a clock that is δ ahead, with any two flags (Page received and Remote fault). Every stored time is later
-- by δ modulo 2^32, but for mark, timer and the last good page's reading in Off, which are not looked at there and are 0 on entering it.
use Prim.Native.Nat.{ℕ, ◌+◌, ◌%◌, ◌^◌}
use Rattle.line_reader.proofs.ClockShift.{later}
use Rattle.port_state.specs.declared.State.{State}
use Rattle.port_state.specs.declared.State.TheVariants.{Off, Break, Ability, Ack, Complete, CheckLink, Up}
use Rattle.port_state.specs.declared.Flags.{Flags}
use Rattle.port_state.specs.declared.Talk.{Talk}
use Rattle.port_state.specs.declared.NextPages.{NextPages}
use Rattle.port_state.specs.declared.Link.{Link}
use Rattle.port_state.specs.declared.Device.{Device}

abbrev pub time_later : (δ time : ℕ) → ℕ
time_later δ time = (time + δ) % 2 ^ 32

-- The reading of a mark, of a timer or of the last good page, by state.
abbrev pub time_in : State → (δ time : ℕ) → ℕ
time_in Off δ time = time
time_in Break δ time = time_later δ time
time_in Ability δ time = time_later δ time
time_in Ack δ time = time_later δ time
time_in Complete δ time = time_later δ time
time_in CheckLink δ time = time_later δ time
time_in Up δ time = time_later δ time

abbrev pub talk_in : State → (δ : ℕ) → Talk → Talk
talk_in s δ t =
    record {
      own = t.own;
      held = t.held;
      count = t.count;
      mark = time_in s δ t.mark;
      timer = time_in s δ t.timer;
      out = t.out;
      heard = t.heard;
      latch = t.latch;
    }

abbrev pub next_in : State → (δ : ℕ) → NextPages → NextPages
next_in s δ n =
    record {
      own = n.own;
      held = n.held;
      transmit = n.transmit;
      heard = n.heard;
      good = time_in s δ n.good;
      loaded = n.loaded;
      round = n.round;
    }

abbrev pub link_in : State → (δ : ℕ) → Link → Link
link_in s δ l = record { partner = l.partner; next = next_in s δ l.next; talk = talk_in s δ l.talk; outcome = l.outcome; reader = later δ l.reader }

abbrev pub twin : (δ : ℕ) → Flags → Device → Device
twin δ g d =
    record {
      lasting = record { advertised = d.lasting.advertised; flags = g };
      state = d.state;
      link = link_in d.state δ d.link;
    }
