-- No attempt's line is longer than 23 bytes, and the outer lines are no longer than 20.
use Rattle.line_reader.specs.Endings.{Ending}
use Rattle.std.specs.Prelude.{Ok, Err}
use mathlib.Core.Bool.{Bool, true, false, cond}
use mathlib.Core.List.{List, ◌++◌}
use Prim.Native.Nat.{ℕ, ◌≤◌, ◌+◌}
use native.Mathlib.Omega.{arith}
use lib.Dec.{eqb}
use lib.ListN.{length, length-append}
use Rattle.line_reader.specs.declared.endings.Broken.TheVariants.{Gap, Cut, Check}
use Rattle.answers.specs.declared.Refusal.{Refusal}
use Rattle.answers.specs.Numbers.{number_of}
use Rattle.bench_listing.specs.Words.{text, decimal}
use Rattle.bench_listing.specs.Listing.{mode_name, first_line, ending_word, attempt_line, last_line, refused_line}
use Rattle.bench_listing.proofs.NumberLaws.{decimal_short, hex_length}

pub ending_short : (ending : Ending) → length (ending_word ending) ≤ 17
ending_short (Ok word) = let h = hex_length word in omega arith
ending_short (Err Gap) = omega arith
ending_short (Err Cut) = omega arith
ending_short (Err Check) = omega arith

-- Two pieces, and three.
two : (a b : List ℕ) (k n : ℕ) → length a ≤ k → length b ≤ n → length (a ++ b) ≤ k + n
two a b k n g h = let l = length-append a b in omega arith

pub attempt_short : (n : ℕ) (ending : Ending) → length (attempt_line n ending) ≤ 23
unfolding attempt_line
attempt_short n ending =
    two (decimal n ++ text " " ++ ending_word ending) (text "\n") 22 1
    (two (decimal n ++ text " ") (ending_word ending) 5 17 (two (decimal n) (text " ") 4 1 (decimal_short n) (omega arith)) (ending_short ending)) (omega arith)

name_short : (t : Bool) → length (cond t (text "LSM") (text "HSM")) ≤ 3
name_short true = omega arith
name_short false = omega arith

pub first_short : (mode edges : ℕ) → length (first_line mode edges) ≤ 20
unfolding first_line
first_short mode edges =
    two (text "mode " ++ mode_name mode ++ text " edges " ++ decimal edges) (text "\n") 19 1
    (two (text "mode " ++ mode_name mode ++ text " edges ") (decimal edges) 15 4
    (two (text "mode " ++ mode_name mode) (text " edges ") 8 7 (two (text "mode ") (mode_name mode) 5 3 (omega arith) (name_short (eqb mode 1))) (omega arith))
    (decimal_short edges)) (omega arith)

pub last_short : (pages bad : ℕ) → length (last_line pages bad) ≤ 20
unfolding last_line
last_short pages bad =
    two (text "pages " ++ decimal pages ++ text " bad " ++ decimal bad) (text "\n") 19 1
    (two (text "pages " ++ decimal pages ++ text " bad ") (decimal bad) 15 4
    (two (text "pages " ++ decimal pages) (text " bad ") 10 5 (two (text "pages ") (decimal pages) 6 4 (omega arith) (decimal_short pages)) (omega arith))
    (decimal_short bad)) (omega arith)

pub refused_short : (refusal : Refusal) → length (refused_line refusal) ≤ 13
unfolding refused_line
refused_short refusal =
    two (text "refused " ++ decimal (number_of refusal)) (text "\n") 12 1
    (two (text "refused ") (decimal (number_of refusal)) 8 4 (omega arith) (decimal_short (number_of refusal))) (omega arith)
