-- The gaps between the transitions of a page are the delimiter's, then those of its 64 bits, then two positions.
-- The definition lists the transitions up to a position; here the list goes on from there, position by position.
use mathlib.Core.Path.{◌≡◌, refl, sym, ap, ap₂, ◌∙◌}
use mathlib.Core.Bool.{Bool, true, false, cond}
use mathlib.Core.List.{List, [], ◌∷◌, ◌++◌, append_assoc, append-nil}
use Prim.Native.Nat.{ℕ, zero, suc, ◌+◌, ◌-◌, ◌*◌, ◌/◌}
use native.Mathlib.Nat.{add-zero, add-suc, suc-add}
use native.Mathlib.Omega.{arith}
use lib.ListN.{length, length-append}
use lib.Seq.{get_or_at}
use Rattle.line_mode.specs.declared.modes.LineMode.{LineMode}
use Rattle.line_page.specs.Pattern.{delimiter_of, stands_at}
use Rattle.line_page.proofs.Positions.{by_delimiter}
use Rattle.line_writer.specs.Transitions.{has_transition, positions_to, transitions, sent_bits}
use Rattle.line_writer.proofs.PagePattern.{at_clock, at_bit, at_156}
use Rattle.line_writer.proofs.SentBits.{sent_length}
use Rattle.line_writer.proofs.WritingLoop.{more_yes, more_no}
use Rattle.line_captures.specs.ReadingBack.{gaps_after, gaps}
use Rattle.line_captures.proofs.GapMachine.{delimiter_gaps, data_gaps, gaps_of}

-- The n positions from p on for which a test holds.
abbrev positions_from : (ℕ → Bool) → ℕ → ℕ → List ℕ
positions_from test p zero = []
positions_from test p (suc n) = let rest = positions_from test (suc p) n in cond (test p) (p ∷ rest) rest

-- One position more in front of others.
one_more : (test : ℕ → Bool) (n : ℕ) (rest : List ℕ) → positions_to test (suc n) ++ rest ≡ positions_to test n ++ cond (test (suc n)) (suc n ∷ rest) rest
one_more test n rest = by (test (suc n)) refl
  where
    by : (t : Bool) → test (suc n) ≡ t → positions_to test (suc n) ++ rest ≡ positions_to test n ++ cond t (suc n ∷ rest) rest
    by true e = ap (λ (l : List ℕ). l ++ rest) (more_yes test n e) ∙ append_assoc (positions_to test n) (suc n ∷ []) rest
    by false e = ap (λ (l : List ℕ). l ++ rest) (more_no test n e)

-- The positions up to n, and the k that follow.
up_to : (test : ℕ → Bool) (n k : ℕ) → positions_to test (n + k) ≡ positions_to test n ++ positions_from test (suc n) k
up_to test n zero = ap (positions_to test) (add-zero n) ∙ sym (append-nil (positions_to test n))
up_to test n (suc k) =
    ap (positions_to test) (add-suc n k ∙ sym (suc-add n k)) ∙ up_to test (suc n) k ∙ one_more test n (positions_from test (suc (suc n)) k)

-- The positions after a clock at p, for the bits from there on.
abbrev pub after_clock : ℕ → List Bool → List ℕ
after_clock p [] = (p + 2) ∷ []
after_clock p (true ∷ bits) = (p + 1) ∷ (p + 2) ∷ after_clock (p + 2) bits
after_clock p (false ∷ bits) = (p + 2) ∷ after_clock (p + 2) bits

-- Their gaps.
after_clock_gaps : (p : ℕ) (bits : List Bool) → gaps_after ◌-◌ p (after_clock p bits) ≡ data_gaps bits
after_clock_gaps p [] = ap (λ (k : ℕ). k ∷ []) (let e : p + 2 - p ≡ 2 = omega arith in e)
after_clock_gaps p (true ∷ bits) =
    ap₂ (λ (j k : ℕ). j ∷ k ∷ gaps_after ◌-◌ (p + 2) (after_clock (p + 2) bits))
    (let e : p + 1 - p ≡ 1 = omega arith in e) (let e : p + 2 - (p + 1) ≡ 1 = omega arith in e)
    ∙ ap (λ (l : List ℕ). 1 ∷ 1 ∷ l) (after_clock_gaps (p + 2) bits)
after_clock_gaps p (false ∷ bits) =
    ap₂ (λ (k : ℕ) (l : List ℕ). k ∷ l) (let e : p + 2 - p ≡ 2 = omega arith in e) (after_clock_gaps (p + 2) bits)

-- The number of positions from the clock before a list of bits up to 157.
abbrev span : List Bool → ℕ
span [] = 3
span (b ∷ bits) = suc (suc (span bits))

span_length : (bits : List Bool) → span bits ≡ 2 * length bits + 3
span_length [] = refl
span_length (b ∷ bits) = let h = span_length bits in omega arith

-- The transitions from the clock before the bits on, where `before` are the bits that came earlier.
from_clock : (mode : LineMode) (before bits : List Bool) (p : ℕ) → length before + length bits ≡ 64 → p ≡ 27 + 2 * length before
    → positions_from (has_transition mode (before ++ bits)) p (span bits) ≡ p ∷ after_clock p bits
from_clock mode before [] p l e =
    rw (
      at_clock mode (before ++ []) p (omega arith) (omega arith) (omega arith),
      at_156 mode (before ++ []) (suc p) (omega arith) (omega arith) (λ o. omega arith),
      at_clock mode (before ++ []) (suc (suc p)) (omega arith) (omega arith) (omega arith),
    ) (ap (λ (q : ℕ). p ∷ q ∷ []) (omega arith))
from_clock mode before (b ∷ bits) p l e =
    rw (at_clock mode (before ++ (b ∷ bits)) p (omega arith) (omega arith) (omega arith), value)
    (ap (λ (r : List ℕ). p ∷ r) (by b (positions_from (has_transition mode (before ++ (b ∷ bits))) (suc (suc p)) (span bits))
    (again ∙ let long = length-append before (b ∷ []) in from_clock mode (before ++ (b ∷ [])) bits (p + 2) (omega arith) (omega arith))))
  where
    value : has_transition mode (before ++ (b ∷ bits)) (suc p) ≡ b
    value =
        at_bit mode (before ++ (b ∷ bits)) (suc p) (omega arith) (omega arith) (λ o. omega arith)
        ∙ get_or_at before b bits false ((suc p - 28) / 2) (omega arith)

    again : positions_from (has_transition mode (before ++ (b ∷ bits))) (suc (suc p)) (span bits)
        ≡ positions_from (has_transition mode (before ++ (b ∷ []) ++ bits)) (p + 2) (span bits)
    again =
        ap₂ (λ (s : List Bool) (q : ℕ). positions_from (has_transition mode s) q (span bits)) (sym (append_assoc before (b ∷ []) bits)) (omega arith)

    by : (c : Bool) (rest : List ℕ) → rest ≡ (p + 2) ∷ after_clock (p + 2) bits → cond c (suc p ∷ rest) rest ≡ after_clock p (c ∷ bits)
    by true rest h = ap₂ (λ (q : ℕ) (r : List ℕ). q ∷ r) (omega arith) h
    by false rest h = h

-- The delimiter's transitions are its positions.
delimiter_positions : (mode : LineMode) (bits : List Bool) → positions_to (has_transition mode bits) 26 ≡ delimiter_of mode
unfolding positions_to has_transition stands_at
delimiter_positions mode bits =
    by_delimiter (λ n. positions_to (has_transition n bits) 26 ≡ delimiter_of n) (λ s t q. refl) (λ s t q. refl) mode

-- Its gaps, in front of others.
delimiter_gaps_law : (mode : LineMode) (later : List ℕ)
    → gaps ◌-◌ (delimiter_of mode ++ (27 ∷ later)) ≡ delimiter_gaps mode ++ gaps_after ◌-◌ 27 later
delimiter_gaps_law mode later =
    by_delimiter (λ n. gaps ◌-◌ (delimiter_of n ++ (27 ∷ later)) ≡ delimiter_gaps n ++ gaps_after ◌-◌ 27 later) (λ s t q. refl) (λ s t q. refl) mode

-- A page's transitions, from the first on: the delimiter's, the clock at 27, and what follows it by the bits.
bits_positions : (mode : LineMode) (bits : List Bool) → length bits ≡ 64
    → positions_to (has_transition mode bits) 157 ≡ delimiter_of mode ++ (27 ∷ after_clock 27 bits)
bits_positions mode bits h =
    up_to (has_transition mode bits) 26 131
    ∙ ap₂ ◌++◌ (delimiter_positions mode bits)
    (ap (positions_from (has_transition mode bits) 27) (let s = span_length bits in let e : 131 ≡ span bits = omega arith in e)
    ∙ from_clock mode [] bits 27 (omega arith) refl)

-- So are those of the page of a word,
pub transitions_listed : (mode : LineMode) (w : ℕ) → transitions mode w ≡ delimiter_of mode ++ (27 ∷ after_clock 27 (sent_bits w))
unfolding transitions
transitions_listed mode w = bits_positions mode (sent_bits w) (sent_length w)

-- and their gaps are the page's.
pub transition_gaps : (mode : LineMode) (w : ℕ) → gaps ◌-◌ (transitions mode w) ≡ gaps_of mode (sent_bits w)
transition_gaps mode w =
    ap (gaps ◌-◌) (transitions_listed mode w)
    ∙ delimiter_gaps_law mode (after_clock 27 (sent_bits w))
    ∙ ap (λ (l : List ℕ). delimiter_gaps mode ++ l) (after_clock_gaps 27 (sent_bits w))
