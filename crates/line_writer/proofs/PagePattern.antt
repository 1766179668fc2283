-- The four kinds of positions of a page, and the mask of its delimiter.
use Rattle.std.specs.Prelude.{if◌then◌else◌}
use Rattle.std.proofs.Common.{◌≡◌, ℕ, zero, suc, ◌+◌, ◌-◌, ◌*◌, ◌/◌, ◌%◌, ◌^◌, ◌<◌, ◌≤◌, Bool, true, false, eqb, List, length, get_or, sym, refl, ap, ◌∙◌, arith, eqb-true}
use mathlib.Core.Bool.{beq}
use Rattle.page_word.specs.Word.{odd, among}
use Rattle.page_word.proofs.ComputedTest.{every_below, at_each, beq_equal}
use Rattle.page_check_bits.specs.CheckBits.{check_bits}
use Rattle.line_mode.specs.declared.modes.LineMode.{LineMode}
use Rattle.line_page.specs.Pattern.{is_bit, always, never, has, delimiter_of}
use Rattle.line_page.proofs.Positions.{start_of, by_delimiter, at_odd, at_even, at_none}
use Rattle.line_page.proofs.Positions as positions
use Rattle.line_writer.specs.Transitions.{positions_to, has_transition, sent_bits}
use Rattle.line_writer.proofs.SentBits.{data_bit, check_bit}

-- Before the i-th position for a bit stand i others: computed.
counted : every_below 64 (λ (i : ℕ). eqb (length (positions_to is_bit (27 + 2 * i))) i) ≡ true
unfolding positions_to is_bit
counted = refl

bits_before : (n : ℕ) → 26 ≤ n → n < 154 → n % 2 ≡ 1 → length (positions_to is_bit n) ≡ (n - 27) / 2
bits_before n h l o =
    ap (λ (k : ℕ). length (positions_to is_bit k)) (let e : n ≡ 27 + 2 * ((n - 27) / 2) = omega arith in e)
    ∙ eqb-true (length (positions_to is_bit (27 + 2 * ((n - 27) / 2)))) ((n - 27) / 2)
    (at_each 64 (λ (i : ℕ). eqb (length (positions_to is_bit (27 + 2 * i))) i) counted ((n - 27) / 2) (omega arith))

module _ (m : LineMode) (bits : List Bool) where
  pub in_delimiter : (p : ℕ) → p ≤ 26 → has_transition m bits p ≡ among p (delimiter_of m)
  unfolding has_transition
  in_delimiter zero h = by_delimiter (λ k. false ≡ among 0 (delimiter_of k)) (λ s t q. refl) (λ s t q. refl) m
  in_delimiter (suc n) h = rw (positions.in_delimiter m (suc n) h) (by (among (suc n) (delimiter_of m)))
    where
      by : (t : Bool) → has (if t then always else never) (get_or bits (length (positions_to is_bit n)) false) ≡ t
      by true = refl
      by false = refl

  pub at_clock : (p : ℕ) → 26 < p → p ≤ 157 → p % 2 ≡ 1 → has_transition m bits p ≡ true
  unfolding has_transition
  at_clock zero h l o = absurd (omega arith)
  at_clock (suc n) h l o = rw (at_odd m (suc n) h l o)

  pub at_bit : (p : ℕ) → 26 < p → p ≤ 154 → (p % 2 ≡ 1 → ⊥) → has_transition m bits p ≡ get_or bits ((p - 28) / 2) false
  unfolding has_transition
  at_bit zero h l e = absurd (omega arith)
  at_bit (suc n) h l e =
      rw (at_even m (suc n) h l (omega arith))
      (ap (λ (i : ℕ). get_or bits i false) (bits_before n (omega arith) (omega arith) (omega arith) ∙ (let e : (n - 27) / 2 ≡ (suc n - 28) / 2 = omega arith in e)))

  pub at_156 : (p : ℕ) → 154 < p → p ≤ 157 → (p % 2 ≡ 1 → ⊥) → has_transition m bits p ≡ false
  unfolding has_transition
  at_156 zero h l e = absurd (omega arith)
  at_156 (suc n) h l e = rw (at_none m (suc n) h (λ q. e (ap (λ (x : ℕ). x % 2) q)) (λ q. e (ap (λ (x : ℕ). x % 2) q)))

-- The mask agrees with the delimiter's list at each of its positions: computed.
abbrev alike : LineMode → ℕ → Bool
alike m p = beq (odd (start_of m / 2 ^ p)) (among p (delimiter_of m))

computed : (m : LineMode) → every_below 27 (alike m) ≡ true
computed = by_delimiter (λ m. every_below 27 (alike m) ≡ true) (λ s t q. refl) (λ s t q. refl)

-- So a page has its delimiter's transitions where the mask of its mode has a one.
pub at_start : (m : LineMode) (bits : List Bool) (p : ℕ) → p ≤ 26 → has_transition m bits p ≡ odd (start_of m / 2 ^ p)
at_start m bits p h =
    in_delimiter m bits p h ∙ sym (beq_equal (odd (start_of m / 2 ^ p)) (among p (delimiter_of m)) (at_each 27 (alike m) (computed m) p (omega arith)))

module _ (m : LineMode) (w p : ℕ) where
  -- At an even position up to 122 stands a bit of the word,
  pub at_data : 26 < p → p ≤ 122 → (p % 2 ≡ 1 → ⊥) → has_transition m (sent_bits w) p ≡ odd (w / 2 ^ ((p - 28) / 2))
  at_data h l e = at_bit m (sent_bits w) p h (omega arith) e ∙ data_bit w ((p - 28) / 2) (omega arith)

  -- and from 124 on one of the check bits.
  pub at_check : 122 < p → p ≤ 154 → (p % 2 ≡ 1 → ⊥) → has_transition m (sent_bits w) p ≡ odd (check_bits w / 2 ^ ((154 - p) / 2))
  at_check h l e =
      at_bit m (sent_bits w) p (omega arith) l e
      ∙ ap (λ (j : ℕ). get_or (sent_bits w) j false) (let i : (p - 28) / 2 ≡ 48 + (p - 124) / 2 = omega arith in i)
      ∙ check_bit w ((p - 124) / 2) (omega arith)
      ∙ ap (λ (j : ℕ). odd (check_bits w / 2 ^ j)) (let i : 15 - (p - 124) / 2 ≡ (154 - p) / 2 = omega arith in i)
