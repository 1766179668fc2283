-- Records that no call has made, computed from the definitions.
use mathlib.Core.Path.{refl, sym}
use mathlib.Core.Bool.{false≢true}
use native.Mathlib.Omega.{arith}
use Rattle.page_word.specs.Fields.{part, with_part}
use Rattle.page_word.specs.NextPages.{next_after}
use Rattle.page_resolve.specs.Rates.{has_ability}
use Rattle.page_resolve.specs.Roles.{role_of}
use Rattle.page_resolve.specs.Resolving.{resolution_of}
use Rattle.line_mode.specs.Gaps.{judgement_of}
use Rattle.line_page.specs.Pattern.{is_clock, is_bit, stands_at}
use Rattle.line_reader.specs.Pattern.{asks}
use Rattle.line_reader.specs.Reading.{edge_of, goes_on, arrives}
use Rattle.port_hearing.specs.Edges.{hears, edge_due}
use Rattle.port_timing.specs.Ticks.{tick_due}
use Rattle.port_timing.specs.Sending.{next_or_null, decided, counted, sent_due}
use Rattle.port_step.specs.Steps.{step_over}
use Rattle.promises.specs.MadeByCalls.{Made}
use Rattle.promises.specs.NotMade.{wide_own, selector_zero, equal_nonces, count_of_four, first_in_complete, out_in_up, at156, NotMade}

-- None is as `Made` has it.
wide_own_law : Made wide_own → ⊥
wide_own_law m = false≢true (sym (m.own refl).is_word)

selector_zero_law : Made selector_zero → ⊥
unfolding part
selector_zero_law m = false≢true (sym (m.own refl).selector)

equal_nonces_law : Made equal_nonces → ⊥
unfolding part
equal_nonces_law m = false≢true (sym (m.no_tie refl))

count_of_four_law : Made count_of_four → ⊥
count_of_four_law m = let h = m.count refl in omega (arith, h)

first_in_complete_law : Made first_in_complete → ⊥
first_in_complete_law m = false≢true (sym (m.round refl))

page_out_in_up : Made out_in_up → ⊥
page_out_in_up m = false≢true (sym (m.none_out refl))

reader_at_156 : Made at156 → ⊥
unfolding stands_at is_bit is_clock
reader_at_156 m = false≢true m.reader

pub not_made : NotMade
unfolding step_over sent_due counted decided next_or_null next_after with_part resolution_of has_ability role_of part tick_due edge_due hears edge_of goes_on arrives judgement_of asks stands_at is_bit is_clock
not_made =
    record {
      no_wide_own = wide_own_law;
      no_selector_zero = selector_zero_law;
      no_equal_nonces = equal_nonces_law;
      no_count_of_four = count_of_four_law;
      no_first_in_complete = first_in_complete_law;
      no_page_out_in_up = page_out_in_up;
      no_reader_at_156 = reader_at_156;
      wide = refl;
      selector = refl;
      tie = refl;
      count = refl;
      first = refl;
      sent_in_up = refl;
      edge_in_up = refl;
      tick_in_up = refl;
      gap = refl;
      gap_of_two = refl;
      cut = refl;
      bare_reader = refl;
    }
