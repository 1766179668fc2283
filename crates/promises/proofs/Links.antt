-- The worked link and the two worked pasts, computed from the definitions.
use mathlib.Core.Path.{◌≡◌, refl, sym, ◌∙◌}
use mathlib.Core.Bool.{xor}
use Rattle.page_word.specs.Fields.{part, with_part}
use Rattle.page_check_bits.specs.CheckBits.{remainder, check_list, check_bits, agrees}
use Rattle.page_resolve.specs.Rates.{has_ability}
use Rattle.page_resolve.specs.Roles.{role_of}
use Rattle.page_resolve.specs.Resolving.{resolution_of}
use Rattle.line_mode.specs.Gaps.{judgement_of}
use Rattle.line_writer.specs.Transitions.{sent_bits, has_transition, positions_to, transitions, readings}
use Rattle.line_page.specs.Pattern.{is_clock, is_bit, stands_at}
use Rattle.line_reader.specs.Pattern.{asks}
use Rattle.line_reader.specs.Reading.{edge_of, arrives, goes_on, drops_on}
use Rattle.port_registers.specs.Registers.{register_of, status_bits, read_due, commanded, write_due}
use Rattle.port_timing.specs.Ticks.{nonce_for, own_page, echoing_page, acknowledging, may_order, orders, is_lost, talks, tick_due}
use Rattle.page_word.specs.NextPages.{next_after}
use Rattle.port_hearing.specs.BasePages.{beyond_ack, beyond_ack_and_echo, base_page_in_ability, base_page_in_ack}
use Rattle.port_hearing.specs.NextPages.{repeats_held, next_page_in_ability, next_page_in_ack}
use Rattle.port_hearing.specs.Edges.{page_in_ability, page_in_ack, page_in, hears, edge_due}
use Rattle.port_timing.specs.Sending.{next_or_null, decided, counted, sent_due, report_due}
use Rattle.port_step.specs.Steps.{step_over, says_to, after_all}
use Rattle.promises.specs.FirstLink.{FirstLink}
use Rattle.promises.specs.TwoPasts.{without6_and4}
use Rattle.promises.specs.WorkedPasts.{first_device, second_device, third_device, WorkedPasts}

pub first_link : FirstLink
unfolding after_all says_to step_over tick_due write_due read_due sent_due report_due register_of commanded status_bits own_page echoing_page nonce_for beyond_ack_and_echo part with_part edge_due hears edge_of goes_on drops_on judgement_of asks stands_at is_bit arrives is_clock agrees check_bits check_list remainder xor readings transitions positions_to has_transition sent_bits page_in page_in_ability page_in_ack base_page_in_ability base_page_in_ack beyond_ack next_page_in_ability next_page_in_ack repeats_held decided next_or_null next_after is_lost talks acknowledging may_order orders counted resolution_of has_ability role_of
first_link =
    record { off = refl; break = refl; ability = refl; ack = refl; complete = refl; check_link = refl; outcome = refl; up = refl; says = refl }

pub worked_pasts : WorkedPasts
unfolding without6_and4 after_all says_to step_over tick_due write_due read_due sent_due report_due register_of commanded status_bits own_page echoing_page nonce_for beyond_ack_and_echo part with_part edge_due hears edge_of goes_on drops_on judgement_of asks stands_at is_bit arrives is_clock agrees check_bits check_list remainder xor readings transitions positions_to has_transition sent_bits page_in page_in_ability page_in_ack base_page_in_ability base_page_in_ack beyond_ack next_page_in_ability next_page_in_ack repeats_held decided next_or_null next_after is_lost talks acknowledging may_order orders counted resolution_of has_ability role_of
worked_pasts =
    let first : first_device.lasting.advertised ≡ 0x800000 = refl in
    let second : second_device.lasting.advertised ≡ 0x800000 = refl in
    let third : third_device.lasting.advertised ≡ 0x800000 = refl in
    record {
      first_enters = refl;
      second_enters = refl;
      same_advertised = first ∙ sym second;
      apart = refl;
      all_but_two = refl;
      first_says = refl;
      second_says = refl;
      third_had = refl;
      third_reads = refl;
      third_loaded = refl;
      third_enters = refl;
      third_advertised = first ∙ sym third;
      third_apart = refl;
      third_says = refl;
    }
