-- 01's example, and the shortest inputs, in one statement.
use mathlib.Core.Path.{◌≡◌, refl}
use mathlib.Core.Bool.{xor}
use mathlib.Core.List.{[], ◌∷◌}
use Rattle.page_check_bits.specs.CheckBits.{check_bits, check_list, remainder, agrees}
use Rattle.line_writer.specs.Transitions.{sent_bits, has_transition, positions_to, transitions, readings}
use Rattle.line_captures.specs.Captures.{read_of, read_in, attempt_of, opens_at, attempts_from, attempts}
use Rattle.line_mode.specs.Gaps.{judgement_of}
use Rattle.line_mode.specs.Modes.{hsm_mode, mode_of}
use Rattle.line_page.specs.Pattern.{is_clock, is_bit, stands_at}
use Rattle.line_reader.specs.Pattern.{asks}
use Rattle.line_reader.specs.Reading.{edge_of, goes_on, arrives, drops_on}
use Rattle.bench_listing.specs.Words.{text, decimal, hex_digits}
use Rattle.bench_listing.specs.Listing.{given, readings_of, attempt_line, attempt_lines, good_ones, bad_ones, first_line, last_line, capture_listing, refused_line, listing}

pub record Examples : Type 0 where
  -- "HSM readings 0, 30, 60 give"
  three : listing (0 ∷ 0 ∷ 0 ∷ 0 ∷ 0 ∷ 30 ∷ 0 ∷ 0 ∷ 0 ∷ 60 ∷ 0 ∷ 0 ∷ 0 ∷ []) ≡ text "mode HSM edges 3\n1 cut\npages 0 bad 1\n"
  -- "The zero page alone gives `1 good 000000000000`"
  zero_page : capture_listing 0 (readings hsm_mode 0 0) ≡ text "mode HSM edges 81\n1 good 000000000000\npages 1 bad 0\n"
  -- "With no readings the two outer lines stand alone, all counts 0." "mode 1 prints LSM"
  none : listing (1 ∷ []) ≡ text "mode LSM edges 0\npages 0 bad 0\n"
  missing : listing [] ≡ text "refused 14\n"
  wrong : listing (2 ∷ []) ≡ text "refused 14\n"
  odd : listing (0 ∷ 0 ∷ 0 ∷ 0 ∷ []) ≡ text "refused 15\n"

pub examples : Examples
unfolding readings transitions positions_to has_transition sent_bits check_bits check_list remainder agrees xor read_of read_in attempt_of opens_at attempts_from attempts judgement_of mode_of stands_at is_bit is_clock asks edge_of goes_on arrives drops_on decimal hex_digits given readings_of attempt_line attempt_lines good_ones bad_ones first_line last_line capture_listing refused_line listing
examples = record { three = refl; zero_page = refl; none = refl; missing = refl; wrong = refl; odd = refl }
