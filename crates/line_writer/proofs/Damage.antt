-- No small damage to a page makes another page of it. Two pages of one mode have the same transitions but at the even positions 28-154, where their
-- sent bits stand, and these lie apart by the strength of the check bits (page, proofs/Strength).
use Rattle.std.proofs.Common.{◌≡◌, ℕ, zero, suc, ◌+◌, ◌-◌, ◌*◌, ◌/◌, ◌%◌, ◌^◌, ◌<◌, ◌≤◌, Bool, true, false, cond, ◌&&◌, ◌||◌, eqb, ltb, List, [], ◌∷◌, ◌++◌, sym, refl, ap, ◌∙◌, subst, ap₂, zero-add, arith, ltb-false, ltb-true, ne_eqb, eqb-true}
use mathlib.Core.Bool.{xor, and-true, and-false, or-false, or_assoc}
use lib.ListN.{get_or-eq_default}
use borrow.Author.Tests.{eqb-false}
use Rattle.polynomials.proofs.BinaryNumbers.{bit}
use Rattle.polynomials.proofs.BinarySums.{xor_self}
use Rattle.page_check_bits.proofs.Strength.{differing, AgreeOutside, Apart, bit_at, strength}
use Rattle.page_word.specs.Word.{among}
use Rattle.line_mode.specs.declared.modes.LineMode.{LineMode}
use Rattle.line_page.specs.Pattern.{delimiter_of}
use Rattle.line_page.proofs.Positions.{by_delimiter}
use Rattle.line_writer.specs.Transitions.{has_transition, positions_to, transitions, sent_bits}
use Rattle.line_writer.proofs.PagePattern.{in_delimiter, at_clock, at_bit, at_156}
use Rattle.line_writer.proofs.SentBits.{sent_length}

-- A list of transitions as a pattern: whether it has one at a position.
abbrev pub has_at : List ℕ → ℕ → Bool
has_at l p = among p l

-- In how many positions, up to 157, two lists of transitions differ: how many transitions were lost or added to make the one of the other.
abbrev pub changed : List ℕ → List ℕ → ℕ
changed l r = differing 158 (has_at l) (has_at r)

-- A list is the transitions of no page of this mode but, perhaps, of w's.
abbrev pub NoOther : LineMode → ℕ → List ℕ → Type 0
NoOther m w l = (v : ℕ) → v < 2 ^ 48 → l ≡ transitions m v → v ≡ w

-- What has become of a page's transitions is no other page: where up to three positions have changed, where an odd number of them has,
-- and where none has but some of 32 neighbouring positions, which hold sixteen bits.
pub record Damage (m : LineMode) (w : ℕ) (l : List ℕ) : Type 0 where
  pub few : changed (transitions m w) l ≤ 3 → NoOther m w l
  pub odd : changed (transitions m w) l % 2 ≡ 1 → NoOther m w l
  pub near : (start : ℕ) → AgreeOutside start 32 (has_at (transitions m w)) (has_at l) → NoOther m w l

-- In the list of the positions where a test holds are just those from 1 on where it holds.
among_append : (p : ℕ) (l r : List ℕ) → among p (l ++ r) ≡ (among p l || among p r)
among_append p [] r = refl
among_append p (q ∷ l) r = ap (λ (t : Bool). eqb p q || t) (among_append p l r) ∙ sym (or_assoc (eqb p q) (among p l) (among p r))

module _ (test : ℕ → Bool) where
  among_more : (n p : ℕ) → among p (positions_to test (suc n)) ≡ (among p (positions_to test n) || (test (suc n) && eqb p (suc n)))
  unfolding positions_to
  among_more n p = by (test (suc n))
    where
      by : (t : Bool) → among p (cond t (positions_to test n ++ (suc n ∷ [])) (positions_to test n)) ≡ (among p (positions_to test n) || (t && eqb p (suc n)))
      by true = among_append p (positions_to test n) (suc n ∷ []) ∙ ap (λ (t : Bool). among p (positions_to test n) || t) (or-false (eqb p (suc n)))
      by false = sym (or-false (among p (positions_to test n)))

  -- The last position does not count for another.
  among_before : (n p : ℕ) → (p ≡ suc n → ⊥) → among p (positions_to test (suc n)) ≡ among p (positions_to test n)
  among_before n p h =
      among_more n p
      ∙ ap (λ (t : Bool). among p (positions_to test n) || (test (suc n) && t)) (ne_eqb p (suc n) h)
      ∙ ap (λ (t : Bool). among p (positions_to test n) || t) (and-false (test (suc n)))
      ∙ or-false (among p (positions_to test n))

  beyond : (n p : ℕ) → n < p → among p (positions_to test n) ≡ false
  unfolding positions_to
  beyond zero p h = refl
  beyond (suc n) p h = among_before n p (λ e. omega arith) ∙ beyond n p (omega arith)

  none_at_zero : (n : ℕ) → among 0 (positions_to test n) ≡ false
  unfolding positions_to
  none_at_zero zero = refl
  none_at_zero (suc n) = among_before n 0 (λ e. omega arith) ∙ none_at_zero n

  within : (n p : ℕ) → 0 < p → p ≤ n → among p (positions_to test n) ≡ test p
  within zero p h l = absurd (omega arith)
  within (suc n) p h l = by (within n p h) (eqb p (suc n)) refl
    where
      by : (p ≤ n → among p (positions_to test n) ≡ test p) → (t : Bool) → eqb p (suc n) ≡ t → among p (positions_to test (suc n)) ≡ test p
      by earlier true e =
          let s = eqb-true p (suc n) e in
          among_more n p
          ∙ ap₂ (λ (a t : Bool). a || (test (suc n) && t)) (beyond n p (omega arith)) e
          ∙ and-true (test (suc n))
          ∙ ap test (sym s)
      by earlier false e = let o = eqb-false p (suc n) e in among_before n p o ∙ earlier (omega arith)

-- A page at its positions: the delimiter, the clocks and the end are the same in all pages of a mode, and at 28 + 2·k stands bit k.
module _ (m : LineMode) (w : ℕ) where
  at_position : (p : ℕ) → 0 < p → p ≤ 157 → has_at (transitions m w) p ≡ has_transition m (sent_bits w) p
  unfolding transitions
  at_position p h l = within (has_transition m (sent_bits w)) 157 p h l

  at_start : (p : ℕ) → p ≤ 26 → has_at (transitions m w) p ≡ among p (delimiter_of m)
  unfolding transitions
  at_start zero h = none_at_zero (has_transition m (sent_bits w)) 157 ∙ sym (by_delimiter (λ n. among 0 (delimiter_of n) ≡ false) (λ s t q. refl) (λ s t q. refl) m)
  at_start (suc p) h = at_position (suc p) (omega arith) (omega arith) ∙ in_delimiter m (sent_bits w) (suc p) h

  at_odd : (p : ℕ) → 26 < p → p ≤ 157 → p % 2 ≡ 1 → has_at (transitions m w) p ≡ true
  at_odd p h l o = at_position p (omega arith) l ∙ at_clock m (sent_bits w) p h l o

  at_last_even : has_at (transitions m w) 156 ≡ false
  at_last_even = at_position 156 (omega arith) (omega arith) ∙ at_156 m (sent_bits w) 156 (omega arith) (omega arith) (λ o. omega arith)

  at_place : (k : ℕ) → k < 64 → has_at (transitions m w) (28 + 2 * k) ≡ bit_at (sent_bits w) k
  at_place k h =
      at_position (28 + 2 * k) (omega arith) (omega arith)
      ∙ at_bit m (sent_bits w) (28 + 2 * k) (omega arith) (omega arith) (λ o. omega arith)
      ∙ ap (bit_at (sent_bits w)) (let e : (28 + 2 * k - 28) / 2 ≡ k = omega arith in e)

-- Where two patterns agree nothing is counted.
module _ (f g : ℕ → Bool) where
  one_same : (n : ℕ) → f n ≡ g n → differing (suc n) f g ≡ differing n f g
  unfolding differing
  one_same n e = ap (λ (b : Bool). bit (xor b (g n)) + differing n f g) e ∙ ap (λ (b : Bool). bit b + differing n f g) (xor_self (g n)) ∙ zero-add (differing n f g)

  all_same : (n : ℕ) → ((k : ℕ) → k < n → f k ≡ g k) → differing n f g ≡ 0
  unfolding differing
  all_same zero h = refl
  all_same (suc n) h = one_same n (h n (omega arith)) ∙ all_same n (λ k l. h k (omega arith))

-- Two pages of one mode.
module _ (m : LineMode) (w v : ℕ) where
  abbrev one : ℕ → Bool
  one = has_at (transitions m w)

  abbrev two : ℕ → Bool
  two = has_at (transitions m v)

  same_start : (p : ℕ) → p < 27 → one p ≡ two p
  same_start p h = at_start m w p (omega arith) ∙ sym (at_start m v p (omega arith))

  same_odd : (p : ℕ) → 26 < p → p ≤ 157 → p % 2 ≡ 1 → one p ≡ two p
  same_odd p h l o = at_odd m w p h l o ∙ sym (at_odd m v p h l o)

  pairs : (k : ℕ) → k ≤ 64 → differing (27 + 2 * k) one two ≡ differing k (bit_at (sent_bits w)) (bit_at (sent_bits v))
  unfolding differing
  pairs zero h = all_same one two 27 same_start
  pairs (suc k) h =
      ap (λ (n : ℕ). differing n one two) (let e : 27 + 2 * suc k ≡ suc (28 + 2 * k) = omega arith in e)
      ∙ ap₂ (λ (a b : Bool). bit (xor a b) + differing (28 + 2 * k) one two) (at_place m w k h) (at_place m v k h)
      ∙ ap (λ (n : ℕ). bit (xor (bit_at (sent_bits w) k) (bit_at (sent_bits v) k)) + n) (clock ∙ pairs k (omega arith))
    where
      clock : differing (28 + 2 * k) one two ≡ differing (27 + 2 * k) one two
      clock =
          ap (λ (n : ℕ). differing n one two) (let e : 28 + 2 * k ≡ suc (27 + 2 * k) = omega arith in e)
          ∙ one_same one two (27 + 2 * k) (same_odd (27 + 2 * k) (omega arith) (omega arith) (omega arith))

  -- Two pages differ in as many positions as their sent bits in places.
  counted : differing 158 one two ≡ differing 64 (bit_at (sent_bits w)) (bit_at (sent_bits v))
  counted =
      one_same one two 157 (same_odd 157 (omega arith) (omega arith) refl)
      ∙ one_same one two 156 (at_last_even m w ∙ sym (at_last_even m v))
      ∙ one_same one two 155 (same_odd 155 (omega arith) (omega arith) refl)
      ∙ pairs 64 (omega arith)

  -- Positions among 32 neighbouring ones hold bits among sixteen neighbouring ones.
  agreed : (start : ℕ) → AgreeOutside start 32 one two → AgreeOutside ((start - 27) / 2) 16 (bit_at (sent_bits w)) (bit_at (sent_bits v))
  agreed start h k i = by (ltb k 64) refl
    where
      by : (t : Bool) → ltb k 64 ≡ t → bit_at (sent_bits w) k ≡ bit_at (sent_bits v) k
      by true e =
          let l = ltb-true k 64 e in
          sym (at_place m w k l) ∙ h (28 + 2 * k) (λ a b. i (omega arith) (omega arith)) ∙ at_place m v k l
      by false e =
          let l = ltb-false k 64 e in
          get_or-eq_default (sent_bits w) false (omega (arith, sent_length w))
          ∙ sym (get_or-eq_default (sent_bits v) false (omega (arith, sent_length v)))

-- So the pages of two different words are apart, as their sent bits are.
module _ (w v : ℕ) (fits : w < 2 ^ 48) (fits' : v < 2 ^ 48) (other : w ≡ v → ⊥) where
  pub bits_apart : Apart 64 16 (bit_at (sent_bits w)) (bit_at (sent_bits v))
  unfolding sent_bits
  bits_apart = strength.words w v fits fits' other

  pub pages_apart : (m : LineMode) → Apart 158 32 (has_at (transitions m w)) (has_at (transitions m v))
  pages_apart m =
      record {
        four = omega (arith, counted m w v, bits_apart.four);
        even = ap (λ (n : ℕ). n % 2) (counted m w v) ∙ bits_apart.even;
        spread = λ start h. bits_apart.spread ((start - 27) / 2) (agreed m w v start h);
      }

-- What is not apart from a page is no other page.
not_apart : (m : LineMode) (w : ℕ) (l : List ℕ) → w < 2 ^ 48 → (Apart 158 32 (has_at (transitions m w)) (has_at l) → ⊥) → NoOther m w l
not_apart m w l fits h v fits' e = by (eqb v w) refl
  where
    by : (t : Bool) → eqb v w ≡ t → v ≡ w
    by true s = eqb-true v w s
    by false s =
        absurd (h (subst (λ (r : List ℕ). Apart 158 32 (has_at (transitions m w)) (has_at r)) (sym e)
        (pages_apart w v fits fits' (λ o. eqb-false v w s (sym o)) m)))

pub damage : (m : LineMode) (w : ℕ) (l : List ℕ) → w < 2 ^ 48 → Damage m w l
damage m w l fits =
    record {
      few = λ h. not_apart m w l fits (λ a. omega (arith, a.four));
      odd = λ h. not_apart m w l fits (λ a. omega (arith, a.even));
      near = λ start h. not_apart m w l fits (λ a. a.spread start h);
    }
