-- The worked links with Next Pages, computed from the definitions.
use mathlib.Core.Path.{refl}
use mathlib.Core.Bool.{xor}
use Rattle.page_word.specs.Fields.{part, with_part}
use Rattle.page_check_bits.specs.CheckBits.{remainder, check_list, check_bits, agrees}
use Rattle.page_resolve.specs.Rates.{has_ability}
use Rattle.page_resolve.specs.Roles.{role_of}
use Rattle.page_resolve.specs.Resolving.{resolution_of}
use Rattle.line_mode.specs.Gaps.{judgement_of}
use Rattle.line_writer.specs.Transitions.{sent_bits, has_transition, positions_to, transitions, readings}
use Rattle.line_page.specs.Pattern.{is_clock, is_bit, stands_at}
use Rattle.line_reader.specs.Pattern.{asks}
use Rattle.line_reader.specs.Reading.{edge_of, arrives, goes_on, drops_on}
use Rattle.port_registers.specs.Registers.{register_of, status_bits, read_due, commanded, write_due}
use Rattle.port_timing.specs.Ticks.{nonce_for, own_page, echoing_page, acknowledging, may_order, orders, is_lost, talks, tick_due}
use Rattle.page_word.specs.NextPages.{next_after}
use Rattle.port_hearing.specs.BasePages.{beyond_ack, beyond_ack_and_echo, base_page_in_ability, base_page_in_ack}
use Rattle.port_hearing.specs.NextPages.{repeats_held, next_page_in_ability, next_page_in_ack}
use Rattle.port_hearing.specs.Edges.{page_in_ability, page_in_ack, page_in, hears, edge_due}
use Rattle.port_timing.specs.Sending.{next_or_null, decided, counted, sent_due, report_due}
use Rattle.port_step.specs.Steps.{step_over, says_to, after_all}
use Rattle.promises.specs.TwoPasts.{ordered_pages}
use Rattle.promises.specs.NextPageLinks.{heard_pages, BothTell, OneEnd, OneByOne, NextPageLinks}

both_tell : BothTell
unfolding after_all says_to step_over tick_due write_due read_due sent_due report_due register_of commanded status_bits own_page echoing_page nonce_for beyond_ack_and_echo part with_part edge_due hears edge_of goes_on drops_on judgement_of asks stands_at is_bit arrives is_clock agrees check_bits check_list remainder xor readings transitions positions_to has_transition sent_bits page_in page_in_ability page_in_ack base_page_in_ability base_page_in_ack beyond_ack next_page_in_ability next_page_in_ack repeats_held decided next_or_null next_after is_lost talks acknowledging may_order orders counted resolution_of has_ability role_of ordered_pages heard_pages
both_tell =
    record {
      left_ordered = refl;
      left_heard = refl;
      right_ordered = refl;
      right_heard = refl;
      left_reads = refl;
      right_reads = refl;
      left_reads_null = refl;
      right_reads_second = refl;
      left_settled = refl;
      right_settled = refl;
      left_state = refl;
      right_state = refl;
    }

pub one_end : OneEnd
unfolding after_all says_to step_over tick_due write_due read_due sent_due report_due register_of commanded status_bits own_page echoing_page nonce_for beyond_ack_and_echo part with_part edge_due hears edge_of goes_on drops_on judgement_of asks stands_at is_bit arrives is_clock agrees check_bits check_list remainder xor readings transitions positions_to has_transition sent_bits page_in page_in_ability page_in_ack base_page_in_ability base_page_in_ack beyond_ack next_page_in_ability next_page_in_ack repeats_held decided next_or_null next_after is_lost talks acknowledging may_order orders counted resolution_of has_ability role_of ordered_pages heard_pages
one_end =
    record {
      stays = refl;
      stays_on_law = record { said = refl; left = refl };
      load_ends_it_law = record { said = refl; left = refl };
      next_ordered = record { said = refl; left = refl };
      repeat_first = record { said = refl; left = refl };
      repeat_without_ack = record { said = refl; left = refl };
      repeat_later = record { said = refl; left = refl };
      toggle = record { said = refl; left = refl };
      changed = record { said = refl; left = refl };
      lost = record { said = refl; left = refl };
      not_lost_yet = record { said = refl; left = refl };
      lost_when_sent = record { said = refl; left = refl };
      lost_in_ack = record { said = refl; left = refl };
      lost_in_complete = record { said = refl; left = refl };
      swapped = record { said = refl; left = refl };
      swapped_reads = record { said = refl; left = refl };
    }

one_by_one : OneByOne
unfolding after_all says_to step_over tick_due write_due read_due sent_due report_due register_of commanded status_bits own_page echoing_page nonce_for beyond_ack_and_echo part with_part edge_due hears edge_of goes_on drops_on judgement_of asks stands_at is_bit arrives is_clock agrees check_bits check_list remainder xor readings transitions positions_to has_transition sent_bits page_in page_in_ability page_in_ack base_page_in_ability base_page_in_ack beyond_ack next_page_in_ability next_page_in_ack repeats_held decided next_or_null next_after is_lost talks acknowledging may_order orders counted resolution_of has_ability role_of ordered_pages heard_pages
one_by_one =
    record {
      null_at_base = refl;
      late_page = refl;
      off_from_off = refl;
      loaded_too_late = record { said = refl; left = refl };
      not_loaded = record { said = refl; left = refl };
      still_loaded = record { said = refl; left = refl };
      not_announced = record { said = refl; left = refl };
      ack_cleared = record { said = refl; left = refl };
      read_as_written = record { said = refl; left = refl };
      page_received = record { said = refl; left = refl };
      heard_read_only = record { said = refl; left = refl };
      code_counts = record { said = refl; left = refl };
      code_changed = record { said = refl; left = refl };
      no_tie = record { said = refl; left = refl };
      waits = record { said = refl; left = refl };
    }

pub next_page_links : NextPageLinks
next_page_links = record { both_tell = both_tell; one_end = one_end; one_by_one = one_by_one }
