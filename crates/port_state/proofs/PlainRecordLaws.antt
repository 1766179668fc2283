-- A device comes back as itself from its record.
use mathlib.Core.Path.{◌≡◌, refl}
use mathlib.Core.Bool.{Bool, true, false}
use Rattle.answers.specs.declared.Refusal.{Refusal}
use Rattle.answers.specs.declared.Refusal.TheVariants as refusal
use Rattle.answers.specs.Numbers.{number_of, refusal_of}
use Rattle.std.specs.Prelude.{Some, None, Ok, Err}
use Rattle.line_reader.specs.declared.reader.Reader.{Reader}
use Rattle.line_reader.specs.declared.reader.Reader.TheVariants.{Fresh, Open, Dropping}
use Rattle.port_state.specs.declared.State.TheVariants.{Off, Break, Ability, Ack, Complete, CheckLink, Up}
use Rattle.port_state.specs.declared.rounds.Round.{Round}
use Rattle.port_state.specs.declared.rounds.Round.TheVariants.{Base, First, Later}
use Rattle.port_state.specs.Memory.{State, Outcome, Device}
use Rattle.port_state.specs.PlainRecords.{is_set, one_if, state_of, state_number, round_of, round_number, reader_of, reader_numbers, outcome_of, outcome_numbers, device_of, record_of}

set_back : (test : Bool) → is_set (one_if test) ≡ test
set_back true = refl
set_back false = refl

state_back : (state : State) → state_of (state_number state) ≡ state
unfolding state_of
state_back Off = refl
state_back Break = refl
state_back Ability = refl
state_back Ack = refl
state_back Complete = refl
state_back CheckLink = refl
state_back Up = refl

round_back : (round : Round) → round_of (round_number round) ≡ round
unfolding round_of
round_back Base = refl
round_back First = refl
round_back Later = refl

pub reader_back : (reader : Reader)
    → reader_of (reader_numbers reader).kind (reader_numbers reader).position (reader_numbers reader).last (reader_numbers reader).bits ≡ reader
unfolding reader_of
reader_back Fresh = refl
reader_back (Open position last bits) = refl
reader_back (Dropping last) = refl

refused_back : (refused : Refusal) → outcome_of (number_of refused) 0 false ≡ Some (Err refused)
unfolding outcome_of refusal_of
refused_back refusal.Gap = refl
refused_back refusal.Cut = refl
refused_back refusal.Check = refl
refused_back refusal.Selector = refl
refused_back refusal.Tie = refl
refused_back refusal.Changed = refl
refused_back refusal.Echo = refl
refused_back refusal.None = refl
refused_back refusal.Roles = refl
refused_back refusal.Register = refl
refused_back refusal.Turn = refl
refused_back refusal.Room = refl
refused_back refusal.Wide = refl
refused_back refusal.Mode = refl
refused_back refusal.Odd = refl
refused_back refusal.Toggle = refl
refused_back refusal.Symbol = refl
refused_back refusal.Count = refl
refused_back refusal.Run = refl
refused_back refusal.Length = refl

outcome_back : (outcome : Outcome)
    → outcome_of (outcome_numbers outcome).kind (outcome_numbers outcome).ability (is_set (outcome_numbers outcome).is_master) ≡ outcome
unfolding outcome_of
outcome_back None = refl
outcome_back (Some (Err refused)) = refused_back refused
outcome_back (Some (Ok settled)) = rw (set_back settled.master)

pub comes_back : (d : Device) → device_of (record_of d) ≡ d
unfolding device_of record_of
comes_back d =
    rw (state_back d.state)
    (rw (round_back d.link.next.round)
    (rw (reader_back d.link.reader)
    (rw (outcome_back d.link.outcome)
    (rw (set_back d.link.talk.out)
    (rw (set_back d.link.talk.heard)
    (rw (set_back d.link.talk.latch)
    (rw (set_back d.link.next.loaded)
    (rw (set_back d.lasting.flags.received)
    (rw (set_back d.lasting.flags.fault) refl)))))))))
