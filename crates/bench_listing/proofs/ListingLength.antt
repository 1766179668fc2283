-- No listing is longer than 184 040 bytes.
use Rattle.line_reader.specs.Endings.{Ending}
use mathlib.Core.Path.{◌≡◌, refl, sym, ap, ap₂, ◌∙◌, subst}
use mathlib.Core.List.{List, [], ◌∷◌, ◌++◌}
use Prim.Native.Nat.{ℕ, zero, suc, ◌+◌, ◌*◌, ◌%◌, ◌≤◌}
use native.Mathlib.Omega.{arith}
use borrow.Author.Tests.{le-leb}
use lib.ListN.{length, take, drop, length-append, length-drop}
use lib.Seq.{take-append_seam}
use Rattle.answers.specs.Answers.{number, packed, put_at, said_count}
use Rattle.answers.specs.declared.Refusal.{Refusal}
use Rattle.answers.proofs.OneAnswer.{one_count}
use Rattle.answers.proofs.PutAtStart.{put_at_start}
use Rattle.line_captures.specs.Captures.{read_of, onwards, attempts_from, attempts, ReadOutcome}
use Rattle.std.specs.Prelude.{Some, None, Result, Ok, Err}
use Rattle.bench_listing.specs.Listing.{Given, given, readings_of, attempt_line, attempt_lines, good_ones, bad_ones, first_line, last_line, capture_listing, listing_by, listing}
use Rattle.bench_listing.specs.Calls.{listed}
use Rattle.bench_listing.proofs.LineLaws.{attempt_short, first_short, last_short, refused_short}
use Rattle.bench_listing.proofs.InputLaws.{captures}

attempts_few : (n mode : ℕ) (capture : List ℕ) (place : ℕ) → length (attempts_from n mode capture place) ≤ n
unfolding attempts_from
attempts_few zero mode capture place = omega arith
attempts_few (suc n) mode capture place = by (read_of mode capture place) (attempts_few n mode capture)
  where
    by : (outcome : ReadOutcome) → ((next : ℕ) → length (attempts_from n mode capture next) ≤ n) → length (onwards outcome (attempts_from n mode capture)) ≤ suc n
    by (Err refusal) few = omega arith
    by (Ok None) few = omega arith
    by (Ok (Some a)) few = let h = few a.next in omega arith

lines_short : (n : ℕ) (l : List Ending) → length (attempt_lines n l) ≤ 23 * length l
unfolding attempt_lines
lines_short n [] = omega arith
lines_short n (ending ∷ rest) =
    let h = lines_short (n + 1) rest in
    let a = attempt_short n ending in
    let e = length-append (attempt_line n ending) (attempt_lines (n + 1) rest) in omega arith

readings_few : (bytes : List ℕ) → 4 * length (readings_of bytes) ≤ length bytes
unfolding readings_of
readings_few [] = omega arith
readings_few (a ∷ []) = omega arith
readings_few (a ∷ b ∷ []) = omega arith
readings_few (a ∷ b ∷ c ∷ []) = omega arith
readings_few (a ∷ b ∷ c ∷ d ∷ rest) = let h = readings_few rest in omega arith

-- A first line, lines of so many attempts, and a last line.
whole_short : (mode edges : ℕ) (found : List Ending)
    → length (first_line mode edges ++ attempt_lines 1 found ++ last_line (good_ones found) (bad_ones found)) ≤ 40 + 23 * length found
whole_short mode edges found =
    let lines = lines_short 1 found in
    let first = first_short mode edges in
    let last = last_short (good_ones found) (bad_ones found) in
    let a = length-append (first_line mode edges ++ attempt_lines 1 found) (last_line (good_ones found) (bad_ones found)) in
    let b = length-append (first_line mode edges) (attempt_lines 1 found) in omega arith

capture_short : (mode : ℕ) (capture : List ℕ) → length (capture_listing mode capture) ≤ 40 + 23 * length capture
unfolding capture_listing attempts
capture_short mode capture =
    let few = attempts_few (length capture) mode capture 0 in
    let all = whole_short mode (length capture) (attempts_from (length capture) mode capture 0) in omega arith

pub listing_short : (input : List ℕ) → length (listing input) ≤ 184040
unfolding listing
listing_short input = by (given input) refl
  where
    by : (g : Given) → given input ≡ g → length (listing_by g (drop 1 input)) ≤ 184040
    by (Err refusal) e = let l = refused_short refusal in omega arith
    by (Ok mode) e =
        let s = (captures input mode e).short in
        let d = length-drop 1 input in
        let r = readings_few (drop 1 input) in
        let c = capture_short mode (readings_of (drop 1 input)) in omega arith

-- What a caller with room for every listing finds: the listing at the head of the output, its length in the low 56 bits of the answer.
pub record Answered (input out : List ℕ) (count : ℕ) : Type 0 where
  pub few : count ≤ 184040
  pub text : take count out ≡ listing input

pub answered : (input readings output out : List ℕ) (answer : ℕ) → 8000 ≤ length readings → 184040 ≤ length output
    → answer ≡ packed (listed input readings output).says → out ≡ (listed input readings output).output
    → Answered input out (answer % 72057594037927936)
unfolding listed
answered input readings output out answer a b e o =
    record { few = let l = listing_short input in let c = count in omega arith; text = ap₂ take (sym count) (left ∙ put_at_start (listing input) output) ∙ take-append_seam (listing input) (drop (length (listing input)) output) }
  where
    count : length (listing input) ≡ answer % 72057594037927936
    count =
        let l = listing_short input in
        let s : answer ≡ packed (number (length (listing input))) = rw (le-leb 8000 (length readings) a, le-leb 184040 (length output) b) at e in omega arith

    left : out ≡ put_at 0 (listing input) output
    left = rw (le-leb 8000 (length readings) a, le-leb 184040 (length output) b) at o

-- So it is of a call that counts: the length is answered, and the output has room for the listing.
pub record Counted (input out : List ℕ) (answer : Result ℕ Refusal) : Type 0 where
  pub told : answer ≡ Ok (length (listing input))
  pub fits : length (listing input) ≤ length out
  pub text : take (length (listing input)) out ≡ listing input

pub counted : (input readings output out : List ℕ) (answer : Result ℕ Refusal) → 8000 ≤ length readings → 184040 ≤ length output
    → said_count answer ≡ (listed input readings output).says → out ≡ (listed input readings output).output
    → Counted input out answer
unfolding listed
counted input readings output out answer a b e o =
    record {
      told = one_count answer (Ok (length (listing input))) (rw (le-leb 8000 (length readings) a, le-leb 184040 (length output) b) at e);
      fits = let l = ap length at_head ∙ length-append (listing input) (drop (length (listing input)) output) in omega arith;
      text = subst (λ (n : ℕ). take n out ≡ listing input) count (answered input readings output out (packed (said_count answer)) a b (ap packed e) o).text;
    }
  where
    count : packed (said_count answer) % 72057594037927936 ≡ length (listing input)
    count =
        let l = listing_short input in
        let s : packed (said_count answer) ≡ packed (number (length (listing input))) =
        ap packed (rw (le-leb 8000 (length readings) a, le-leb 184040 (length output) b) at e) in omega arith

    at_head : out ≡ listing input ++ drop (length (listing input)) output
    at_head = rw (le-leb 8000 (length readings) a, le-leb 184040 (length output) b) at o ∙ put_at_start (listing input) output
