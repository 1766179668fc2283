-- An input for each refusal number, computed from the definitions. That an event leaves a device as it was is shown of any device.
use Prim.Native.Nat.{ℕ}
use mathlib.Core.Path.{◌≡◌, refl, sym, ap, ◌∙◌}
use mathlib.Core.Bool.{false, xor}
use mathlib.Core.List.{List, ◌++◌}
use Rattle.answers.specs.Answers.{refused}
use Rattle.answers.specs.declared.Refusal.{Refusal}
use Rattle.answers.specs.declared.Refusal.TheVariants.{Register, Turn}
use Rattle.page_word.specs.Fields.{part, with_part}
use Rattle.page_check_bits.specs.CheckBits.{remainder, check_list, check_bits, agrees}
use Rattle.page_resolve.specs.Rates.{has_ability}
use Rattle.page_resolve.specs.Roles.{role_of}
use Rattle.page_resolve.specs.Resolving.{resolution_of}
use Rattle.page_messages.specs.Telling.{any_wide, telling_of, messages_of}
use Rattle.frame_polynomial.specs.Frame.{all_symbols}
use Rattle.frame_parity.specs.Taking.{take_of, finish_of}
use Rattle.line_mode.specs.Modes.{mode_of}
use Rattle.line_mode.specs.Gaps.{judgement_of}
use Rattle.line_writer.specs.Transitions.{sent_bits, has_transition, positions_to, transitions, readings, edge_count}
use Rattle.line_writer.specs.Writing.{write_in, write_of}
use Rattle.line_reader.specs.declared.reader.Reader.TheVariants.{Dropping}
use Rattle.line_page.specs.Pattern.{is_clock, is_bit, stands_at}
use Rattle.line_reader.specs.Pattern.{asks}
use Rattle.line_reader.specs.Reading.{edge_of, arrives, goes_on, drops_on}
use Rattle.line_captures.specs.Captures.{read_in, read_of}
use Rattle.port_state.specs.declared.State.TheVariants.{Ability, Ack}
use Rattle.port_state.specs.declared.Device.{Device}
use Rattle.port_state.specs.Memory.{Due, due, fresh_device, into_break}
use Rattle.port_state.specs.Changes.{with_state, with_advertised, with_own, with_mark, with_reader}
use Rattle.port_registers.specs.Registers.{register_of, read_due, commanded, write_due}
use Rattle.port_timing.specs.Ticks.{nonce_for, own_page, echoing_page, acknowledging, may_order, orders, is_lost, talks, tick_due}
use Rattle.page_word.specs.NextPages.{next_after}
use Rattle.port_hearing.specs.BasePages.{beyond_ack, beyond_ack_and_echo, base_page_in_ability, base_page_in_ack}
use Rattle.port_hearing.specs.NextPages.{repeats_held, next_page_in_ability, next_page_in_ack}
use Rattle.port_hearing.specs.Edges.{page_in_ability, page_in_ack, page_in, hears, edge_due}
use Rattle.port_timing.specs.Sending.{next_or_null, decided, counted, sent_due, report_due}
use Rattle.port_step.specs.declared.events.Event.{Event}
use Rattle.port_step.specs.declared.events.Event.TheVariants.{Sent, Read, Write}
use Rattle.port_step.specs.Steps.{step_over, step_due, says_to, after_all}
use Rattle.port_step.specs.Runs.{event_of, events_of, run_of}
use Rattle.bench_listing.specs.Words.{decimal}
use Rattle.bench_listing.specs.Listing.{given, refused_line, listing}
use Rattle.promises.specs.FirstLink.{page_from, to_ability, to_ack}
use Rattle.promises.specs.Refusals.{Kept, EachRefusal}
use Rattle.promises.proofs.NextPagesWorked.{one_end}

-- An event that is refused and changes nothing, whatever has come before.
kept : (past : List Event) (event : Event) (refusal : Refusal) → step_due event (after_all fresh_device past) ≡ due (refused refusal) (after_all fresh_device past)
    → Kept past event refusal
kept past event refusal e = record { says = ap (λ (x : Due). x.says) e; kept = ap (λ (x : Due). x.device) e }

no_register_read : (reading : ℕ) (d : Device) → step_due (Read reading 526) d ≡ due (refused Register) d
unfolding step_over read_due register_of
no_register_read reading d = refl

no_register_written : (reading : ℕ) (d : Device) → step_due (Write reading 511 1) d ≡ due (refused Register) d
unfolding step_over write_due register_of
no_register_written reading d = refl

nothing_out : (reading : ℕ) (d : Device) → d.state ≡ Ack → d.link.talk.out ≡ false → step_due (Sent reading) d ≡ due (refused Turn) d
unfolding step_over sent_due
nothing_out reading d state out = rw (state, out)

-- The device in Ability: the own page is made, and the mark is "waiting" since the break timer was out.
abbrev in_ability : Device
in_ability = with_state Ability (with_mark false 8000000 (with_own 0x850001 (into_break 0 (with_advertised 0x800000 fresh_device))))

before_page : after_all fresh_device to_ability ≡ in_ability
unfolding after_all step_over tick_due write_due register_of commanded own_page nonce_for part with_part
before_page = refl

after_page : after_all fresh_device (to_ability ++ page_from 8001000 0xA90002) ≡ with_reader (Dropping 8125800) in_ability
unfolding after_all step_over tick_due write_due register_of commanded own_page nonce_for part with_part edge_due hears edge_of goes_on drops_on judgement_of asks stands_at is_bit arrives is_clock agrees check_bits check_list remainder xor readings transitions positions_to has_transition sent_bits page_in page_in_ability base_page_in_ability
after_page = refl

-- A page with another selector in Ability leaves all of the device but the reader.
stays : after_all fresh_device (to_ability ++ page_from 8001000 0xA90002) ≡ with_reader (Dropping 8125800) (after_all fresh_device to_ability)
stays = after_page ∙ ap (with_reader (Dropping 8125800)) (sym before_page)

pub each_refusal : EachRefusal
unfolding after_all says_to step_over tick_due write_due sent_due report_due register_of commanded own_page echoing_page nonce_for beyond_ack_and_echo part with_part edge_due hears edge_of goes_on drops_on judgement_of asks stands_at is_bit arrives is_clock agrees check_bits check_list remainder xor readings transitions positions_to has_transition sent_bits page_in page_in_ability page_in_ack base_page_in_ability base_page_in_ack beyond_ack next_page_in_ability next_page_in_ack repeats_held decided next_or_null next_after is_lost talks acknowledging may_order orders counted resolution_of has_ability role_of write_of write_in edge_count mode_of read_of read_in run_of events_of event_of listing given refused_line decimal messages_of telling_of any_wide take_of finish_of all_symbols
each_refusal =
    record {
      gap = record { run = record { said = refl; left = refl }; left = refl };
      cut = record { run = record { said = refl; left = refl }; left = refl };
      check = record { run = record { said = refl; left = refl }; left = refl };
      selector = record { said = refl; left = refl };
      selector_stays = stays;
      tie = record { said = refl; left = refl };
      changed = record { said = refl; left = refl };
      echo = record { said = refl; left = refl };
      none = record { said = refl; left = refl };
      roles = record { said = refl; left = refl };
      register_read = kept to_ack (Read 8200000 526) Register (no_register_read 8200000 (after_all fresh_device to_ack));
      register_written = kept to_ack (Write 8200000 511 1) Register (no_register_written 8200000 (after_all fresh_device to_ack));
      turn_off = record { says = refl; kept = refl };
      turn_break = record { says = refl; kept = refl };
      turn_no_page = kept to_ack (Sent 8200000) Turn (nothing_out 8200000 (after_all fresh_device to_ack) refl refl);
      room_read = refl;
      room_past_end = refl;
      room_fewer = refl;
      room_run = refl;
      wide = refl;
      mode = refl;
      mode_first = refl;
      wide_next = refl;
      odd = refl;
      toggle = one_end.toggle;
      symbol = refl;
      count = refl;
      count_at_the_finish = refl;
      run = refl;
      too_long = refl;
    }
