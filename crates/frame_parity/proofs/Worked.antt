-- The worked bursts and finishes.
use mathlib.Core.Path.{◌≡◌, refl, ap, ◌∙◌}
use mathlib.Core.List.{List, [], ◌∷◌, ◌++◌}
use Prim.Native.Nat.{ℕ}
use native.Mathlib.Omega.{arith}
use lib.ListN.{length, replicate}
use Rattle.answers.specs.Answers.{number, leaving, put_at}
use Rattle.polynomials.specs.Polynomials.{plus, scaled}
use Rattle.polynomials.proofs.Sums.{plus_zeros, zeros_plus}
use Rattle.frame_field.specs.Field.{symbols}
use Rattle.frame_field.proofs.ExclusiveOr.{symbol_sums}
use Rattle.frame_polynomial.specs.Frame.{all_symbols}
use Rattle.frame_polynomial.proofs.Roots.{lower, lower_long, lower_symbols}
use Rattle.frame_polynomial.proofs.GeneratorList.{lower_list, lower_list_law}
use Rattle.frame_parity.specs.Taking.{register_after, take_of, finish_of}
use Rattle.frame_parity.specs.AnyCutting.{new_frame}
use Rattle.frame_parity.specs.WorkedFrames.{all_of, WorkedFrames}
use Rattle.frame_parity.proofs.RowLaws.{no_times, one_time}
use Rattle.frame_parity.proofs.RegisterLaws.{turned, after_none}

-- One symbol, 1, into zeros.
first_one : register_after (replicate 44 0) (1 ∷ []) ≡ lower_list
first_one =
    turned 0 1 (replicate 44 0) refl refl
    ∙ plus_zeros symbol_sums 44 (scaled symbols 1 lower) (let l = ap length (one_time lower lower_symbols) in let m = lower_long in omega arith)
    ∙ one_time lower lower_symbols
    ∙ lower_list_law

-- The symbol that the register has first.
same_first : register_after (replicate 44 511) (511 ∷ []) ≡ replicate 43 511 ++ (0 ∷ [])
same_first =
    turned 511 511 (replicate 43 511 ++ (0 ∷ [])) refl refl
    ∙ ap (λ (l : List ℕ). plus symbols l (replicate 43 511 ++ (0 ∷ []))) (no_times lower lower_symbols ∙ ap (λ (n : ℕ). replicate n 0) lower_long)
    ∙ zeros_plus symbol_sums 44 (replicate 43 511 ++ (0 ∷ [])) (omega arith)

one_symbol : take_of (new_frame ++ (600 ∷ [])) (1 ∷ []) ≡ leaving (number 1) (lower_list ++ (1 ∷ 600 ∷ []))
unfolding take_of all_symbols lower_list
one_symbol = ap (λ (r : List ℕ). leaving (number 1) (put_at 0 (r ++ (1 ∷ [])) (new_frame ++ (600 ∷ [])))) first_one

not_made : take_of (all_of 511 0 ++ (600 ∷ [])) (511 ∷ []) ≡ leaving (number 1) (replicate 43 511 ++ (0 ∷ 1 ∷ 600 ∷ []))
unfolding take_of all_symbols
not_made = ap (λ (r : List ℕ). leaving (number 1) (put_at 0 (r ++ (1 ∷ [])) (all_of 511 0 ++ (600 ∷ [])))) same_first

last_symbol : take_of (all_of 511 405) (511 ∷ []) ≡ leaving (number 406) (replicate 43 511 ++ (0 ∷ 406 ∷ []))
unfolding take_of all_symbols
last_symbol = ap (λ (r : List ℕ). leaving (number 406) (put_at 0 (r ++ (406 ∷ [])) (all_of 511 405))) same_first

empty : take_of (all_of 3 406) [] ≡ leaving (number 406) (all_of 3 406)
unfolding take_of all_symbols
empty = ap (λ (r : List ℕ). leaving (number 406) (put_at 0 (r ++ (406 ∷ [])) (all_of 3 406))) (after_none (replicate 44 3) refl)

pub worked_frames : WorkedFrames
unfolding take_of finish_of all_symbols lower_list
worked_frames =
    record {
      one_symbol = one_symbol;
      not_made = not_made;
      last_symbol = last_symbol;
      empty = empty;
      take_room = refl;
      too_many = refl;
      too_many_at_once = refl;
      count_past = refl;
      burst_symbol = refl;
      register_first = refl;
      register_last = refl;
      count_first = refl;
      count_is_no_symbol = refl;
      take_room_first = refl;
      finish = refl;
      finish_no_state = refl;
      finish_no_room = refl;
      not_full = refl;
      too_full = refl;
      finish_register_first = refl;
      finish_register_last = refl;
      finish_count_first = refl;
      finish_count_is_no_symbol = refl;
      finish_room_first = refl;
      count_number = refl;
      symbol_number = refl;
    }
