-- How many transitions a page has: the delimiter's fifteen or twenty, 64 clocks, one for each one bit, and two at the end.
use Rattle.std.proofs.Common.{◌≡◌, ℕ, zero, suc, ◌+◌, ◌-◌, ◌*◌, ◌/◌, ◌%◌, ◌^◌, ◌<◌, ◌≤◌, Bool, true, false, cond, List, [], ◌∷◌, ◌++◌, length, get_or, take, sym, refl, ap, ◌∙◌, subst, ap₂, add-zero, add_assoc, mod-lt, mod-eq_of_lt, add-one, one-add, arith, length-append, take_all, take-suc, pow_pos, shr_lt}
use native.Mathlib.Nat.{mod-one}
use lib.Count.{ones, ones_step, ones_cat, ones-le}
use lib.Pow.{mod-pow-add}
use Rattle.page_word.specs.Word.{bits_of}
use Rattle.page_check_bits.specs.CheckBits.{check_bits, check_list}
use Rattle.polynomials.specs.Binary.{digits_of}
use Rattle.polynomials.proofs.BinaryNumbers.{bit, odd_bit, trues, trues_append}
use Rattle.page_check_bits.proofs.CheckTheorem.{check_list_digits, check_below}
use Rattle.line_mode.specs.declared.modes.LineMode.{LineMode}
use Rattle.line_page.specs.Pattern.{stands_at}
use Rattle.line_page.proofs.Positions.{by_delimiter}
use Rattle.line_writer.specs.Transitions.{has_transition, positions_to, transitions, sent_bits}
use Rattle.line_writer.proofs.PagePattern.{at_clock, at_bit, at_156}
use Rattle.line_writer.proofs.SentBits.{sent_length}

-- One position more.
pub count_more : (test : ℕ → Bool) (n : ℕ) → length (positions_to test (suc n)) ≡ length (positions_to test n) + bit (test (suc n))
unfolding positions_to
count_more test n = by (test (suc n))
  where
    by : (t : Bool) → length (cond t (positions_to test n ++ (suc n ∷ [])) (positions_to test n)) ≡ length (positions_to test n) + bit t
    by true = length-append (positions_to test n) (suc n ∷ [])
    by false = sym (add-zero (length (positions_to test n)))

abbrev delimiter_count : LineMode → ℕ
delimiter_count m = cond m.slow 20 15

delimiter_count_law : (m : LineMode) (bits : List Bool) → length (positions_to (has_transition m bits) 26) ≡ delimiter_count m
unfolding positions_to has_transition stands_at
delimiter_count_law m bits =
    by_delimiter (λ n. length (positions_to (has_transition n bits) 26) ≡ delimiter_count n) (λ s t q. refl) (λ s t q. refl) m

-- A clock and a bit more.
pair_count : (m : LineMode) (bits : List Bool) (k : ℕ) → k < 64
    → length (positions_to (has_transition m bits) (28 + 2 * k)) ≡ length (positions_to (has_transition m bits) (26 + 2 * k)) + (1 + bit (get_or bits k false))
pair_count m bits k h =
    ap (λ (n : ℕ). length (positions_to test n)) (let e : 28 + 2 * k ≡ suc (suc (26 + 2 * k)) = omega arith in e)
    ∙ count_more test (suc (26 + 2 * k))
    ∙ ap₂ ◌+◌ (count_more test (26 + 2 * k) ∙ ap (λ (t : Bool). length (positions_to test (26 + 2 * k)) + bit t) clock) (ap bit value)
    ∙ add_assoc (length (positions_to test (26 + 2 * k))) 1 (bit (get_or bits k false))
  where
    test : ℕ → Bool
    test = has_transition m bits

    clock : has_transition m bits (suc (26 + 2 * k)) ≡ true
    clock = at_clock m bits (suc (26 + 2 * k)) (omega arith) (omega arith) (omega arith)

    value : has_transition m bits (suc (suc (26 + 2 * k))) ≡ get_or bits k false
    value =
        at_bit m bits (suc (suc (26 + 2 * k))) (omega arith) (omega arith) (λ o. omega arith)
        ∙ ap (λ (j : ℕ). get_or bits j false) (let e : (suc (suc (26 + 2 * k)) - 28) / 2 ≡ k = omega arith in e)

bits_count : (m : LineMode) (bits : List Bool) → length bits ≡ 64 → (k : ℕ) → k ≤ 64
    → length (positions_to (has_transition m bits) (26 + 2 * k)) ≡ delimiter_count m + (k + trues (take k bits))
bits_count m bits h zero l = delimiter_count_law m bits ∙ sym (add-zero (delimiter_count m))
bits_count m bits h (suc k) l =
    ap (λ (n : ℕ). length (positions_to (has_transition m bits) n)) (let e : 26 + 2 * suc k ≡ 28 + 2 * k = omega arith in e)
    ∙ pair_count m bits k l
    ∙ ap (λ (n : ℕ). n + (1 + bit (get_or bits k false))) (bits_count m bits h k (omega arith))
    ∙ omega (arith, more)
  where
    more : trues (take (suc k) bits) ≡ trues (take k bits) + (bit (get_or bits k false) + 0)
    more = ap trues (take-suc bits k false (omega arith)) ∙ trues_append (take k bits) (get_or bits k false ∷ [])

-- The end: 155 and 157.
end_count : (m : LineMode) (bits : List Bool)
    → length (positions_to (has_transition m bits) 157) ≡ length (positions_to (has_transition m bits) 154) + 2
end_count m bits =
    count_more test 156
    ∙ ap₂ (λ (n : ℕ) (t : Bool). n + bit t) (count_more test 155
    ∙ ap₂ (λ (n : ℕ) (t : Bool). n + bit t) (count_more test 154 ∙ ap (λ (t : Bool). length (positions_to test 154) + bit t) at155) at156) at157
    ∙ omega arith
  where
    test : ℕ → Bool
    test = has_transition m bits

    at155 : has_transition m bits 155 ≡ true
    at155 = at_clock m bits 155 (omega arith) (omega arith) refl

    at156 : has_transition m bits 156 ≡ false
    at156 = at_156 m bits 156 (omega arith) (omega arith) (λ o. omega arith)

    at157 : has_transition m bits 157 ≡ true
    at157 = at_clock m bits 157 (omega arith) (omega arith) refl

-- The ones of a word's bits, lowest first, and of a number's digits, highest first.
ones_zero : ones 0 ≡ 0
unfolding ones
ones_zero = refl

ones_digit : (n : ℕ) → ones (n % 2) ≡ n % 2
ones_digit n =
    ones_step (n % 2)
    ∙ ap₂ ◌+◌ (let e : n % 2 % 2 ≡ n % 2 = omega arith in e) (ap ones (let e : n % 2 / 2 ≡ 0 = omega arith in e) ∙ ones_zero)
    ∙ add-zero (n % 2)

ones_bits : (n w : ℕ) → w < 2 ^ n → trues (bits_of n w) ≡ ones w
ones_bits zero w h = sym (ap ones (let e : w ≡ 0 = omega arith in e) ∙ ones_zero)
ones_bits (suc n) w h = ap₂ ◌+◌ (odd_bit w) (ones_bits n (w / 2) (shr_lt n 1 (subst (λ (k : ℕ). w < 2 ^ k) (sym (add-one n)) h))) ∙ sym (ones_step w)

ones_digits : (n s : ℕ) → trues (digits_of n s) ≡ ones (s % 2 ^ n)
ones_digits zero s = sym (ap ones (mod-one s) ∙ ones_zero)
ones_digits (suc n) s =
    ap₂ ◌+◌ (odd_bit (s / 2 ^ n) ∙ sym (ones_digit (s / 2 ^ n))) (ones_digits n s)
    ∙ sym (ones_cat n (s / 2 ^ n % 2) (s % 2 ^ n) (mod-lt s (pow_pos n)))
    ∙ ap ones (sym (mod-pow-add s 1 n) ∙ ap (λ (k : ℕ). s % 2 ^ k) (one-add n))

sent_ones : (w : ℕ) → w < 2 ^ 48 → trues (sent_bits w) ≡ ones w + ones (check_bits w)
unfolding sent_bits
sent_ones w h =
    trues_append (bits_of 48 w) (check_list w)
    ∙ ap₂ ◌+◌ (ones_bits 48 w h)
    (ap trues (check_list_digits w) ∙ ones_digits 16 (check_bits w) ∙ ap ones (mod-eq_of_lt (check_below w)))

-- The number of a page's transitions.
pub edge_count_law : (m : LineMode) (w : ℕ) → w < 2 ^ 48 → length (transitions m w) ≡ ones w + ones (check_bits w) + cond m.slow 86 81
unfolding transitions
edge_count_law m w h =
    end_count m (sent_bits w)
    ∙ ap (λ (n : ℕ). n + 2) (bits_count m (sent_bits w) (sent_length w) 64 (omega arith)
    ∙ ap (λ (n : ℕ). delimiter_count m + (64 + n)) (ap trues (take_all 64 (sent_bits w) (omega (arith, sent_length w))) ∙ sent_ones w h))
    ∙ sums m.slow
  where
    sums : (t : Bool) → cond t 20 15 + (64 + (ones w + ones (check_bits w))) + 2 ≡ ones w + ones (check_bits w) + cond t 86 81
    sums true = omega arith
    sums false = omega arith

-- No page has more than 150.
pub edge_most : (m : LineMode) (w : ℕ) → w < 2 ^ 48 → length (transitions m w) ≤ 150
edge_most m w h =
    let a = ones-le 48 w h in
    let b = ones-le 16 (check_bits w) (check_below w) in
    let c = most m.slow in
    let e = edge_count_law m w h in omega arith
  where
    most : (t : Bool) → cond t 86 81 ≤ 86
    most true = omega arith
    most false = omega arith
