-- An edge: a device and its twin say the same and stay twins.
use Rattle.line_reader.specs.Endings.{refusal_of, Heard}
use Rattle.std.specs.Prelude.{Some, None, Ok, Err}
use Prim.Native.Nat.{ℕ}
use mathlib.Core.Path.{refl, ap}
use mathlib.Core.Bool.{true, not, ◌&&◌}
use lib.Dec.{eqb}
use Rattle.answers.specs.Answers.{nothing, refused, page_read}
use Rattle.answers.specs.declared.Refusal.TheVariants as refusal
use Rattle.page_word.specs.Fields.{field_of, has_other_selector, is_tie}
use Rattle.page_word.specs.NextPages.{same_toggle}
use Rattle.page_word.specs.declared.fields.Field.TheVariants as field
use Rattle.line_reader.specs.Reading.{edge_of}
use Rattle.line_reader.proofs.ClockShift.{edge_later}
use Rattle.port_state.specs.declared.State.{State}
use Rattle.port_state.specs.declared.State.TheVariants.{Off, Break, Ability, Ack, Complete, CheckLink, Up}
use Rattle.port_state.specs.declared.Flags.{Flags}
use Rattle.port_state.specs.declared.Device.{Device}
use Rattle.port_state.specs.Memory.{is_talking}
use Rattle.port_state.specs.Changes.{with_state, with_reader}
use Rattle.line_mode.specs.declared.modes.LineMode.{LineMode}
use Rattle.port_state.specs.Rounds.{is_base, held_in_round}
use Rattle.port_hearing.specs.BasePages.{is_changed, fault_after, echoes_other, base_page_in_ability, base_page_in_ack}
use Rattle.port_hearing.specs.NextPages.{is_changed_next, repeats_held, next_page_in_ability, next_page_in_ack}
use Rattle.port_hearing.specs.Edges.{page_in_ability, page_in_ack, page_in, hears, edge_due}
use Rattle.port_state.proofs.ClockAhead.{twin}
use Rattle.promises.proofs.Twins.{Alike, alike_if, kept, saying_same}
use Rattle.promises.specs.TwoPasts.{shifted}

module _ (δ : ℕ) (g : Flags) (reading : ℕ) where
  -- Good pages, by state.
  in_ability_law : (word : ℕ) (d : Device)
      → Alike δ d.lasting.flags g (page_in_ability word reading (with_state Ability d)) (page_in_ability word (shifted δ reading) (twin δ g (with_state Ability d)))
  unfolding page_in_ability base_page_in_ability next_page_in_ability repeats_held
  in_ability_law word d =
      alike_if (is_base d.link.next.round)
      (alike_if (has_other_selector word) (saying_same (refused refusal.Selector) kept)
      (alike_if (is_tie d.link.talk.own word) (saying_same (refused refusal.Tie) kept) (saying_same (page_read word) kept)))
      (alike_if (repeats_held word d.link) (saying_same (page_read word) kept)
      (alike_if (same_toggle word (held_in_round d.link)) (saying_same (refused refusal.Toggle) kept) (saying_same (page_read word) kept)))

  in_ack : (word : ℕ) (d : Device)
      → Alike δ d.lasting.flags g (page_in_ack word reading (with_state Ack d)) (page_in_ack word (shifted δ reading) (twin δ g (with_state Ack d)))
  unfolding page_in_ack base_page_in_ack next_page_in_ack
  in_ack word d =
      alike_if (is_base d.link.next.round)
      (alike_if (is_changed word d.link.talk.held) (saying_same (refused refusal.Changed) kept)
      (alike_if (eqb (field_of field.Ack word) 0) (saying_same (page_read word) kept)
      (alike_if (echoes_other d.link.talk.own word) (saying_same (refused refusal.Echo) kept)
      (saying_same (page_read word) (record { device = refl; flags = λ h. ap (λ (f : Flags). record { received = true; fault = fault_after word f.fault }) h })))))
      (alike_if (is_changed_next word (held_in_round d.link)) (saying_same (refused refusal.Changed) kept)
      (alike_if (eqb (field_of field.Ack word) 0) (saying_same (page_read word) kept)
      (saying_same (page_read word) (record { device = refl; flags = λ h. ap (λ (f : Flags). record { received = true; fault = f.fault }) h }))))

  in_state : (s : State) (word : ℕ) (d : Device)
      → Alike δ d.lasting.flags g (page_in s word reading (with_state s d)) (page_in s word (shifted δ reading) (twin δ g (with_state s d)))
  unfolding page_in
  in_state Off word d = saying_same nothing kept
  in_state Break word d = saying_same nothing kept
  in_state Ability word d = in_ability_law word d
  in_state Ack word d = in_ack word d
  in_state Complete word d = saying_same (page_read word) kept
  in_state CheckLink word d = saying_same nothing kept
  in_state Up word d = saying_same nothing kept

  -- What was heard.
  heard : (h : Heard) (d : Device) → Alike δ d.lasting.flags g (hears h reading d) (hears h (shifted δ reading) (twin δ g d))
  unfolding hears
  heard None d = saying_same nothing kept
  heard (Some (Ok word)) d = in_state d.state word d
  heard (Some (Err broken)) d = saying_same (refused (refusal_of broken)) kept

  pub edge_alike : (mode : LineMode) (d : Device) → Alike δ d.lasting.flags g (edge_due mode reading d) (edge_due mode (shifted δ reading) (twin δ g d))
  unfolding edge_due
  edge_alike mode d =
      let brought = edge_of mode d.link.reader reading in
      alike_if (is_talking d.state && not d.link.talk.out)
      (rw (edge_later mode δ d.link.reader reading) (heard brought.heard (with_reader brought.reader d)))
      (saying_same nothing kept)
