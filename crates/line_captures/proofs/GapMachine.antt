-- The pattern of a page without the clock: a machine that takes one count of positions after the other. It asks of each count what the
-- pattern asks, and gathers the bits. Shown here: the counts that lead it from position 1 to the end at 157 are the delimiter's gaps, then
-- one or two gaps for each of 64 bits, then two positions; no other counts do. The delimiter and the 64 pairs of positions are computed
-- tests; the rest is induction over the bits.
use mathlib.Core.Path.{◌≡◌, refl, sym, ap, ◌∙◌, subst}
use mathlib.Core.Logic.{◌⊎◌, inl, inr, ⊎_elim}
use mathlib.Core.Bool.{Bool, true, false, cond, not, ◌&&◌, ◌||◌, beq}
use mathlib.Core.List.{List, [], ◌∷◌, ◌++◌}
use Prim.Native.Nat.{ℕ, zero, suc, ◌+◌, ◌-◌, ◌*◌, ◌/◌, ◌^◌, ◌<◌, ◌≤◌}
use native.Mathlib.Omega.{arith}
use lib.Dec.{eqb, leb}
use lib.ListN.{length}
use borrow.Author.Tests.{eqb-true, leb-true, le-leb, not-true}
use Rattle.page_word.proofs.ComputedTest.{every_below, at_each, beq_equal, and_left, and_right}
use Rattle.line_mode.specs.declared.modes.LineMode.{LineMode}
use Rattle.line_page.specs.Pattern.{delimiter_of, is_clock, is_bit, stands_at}
use Rattle.line_page.proofs.Positions.{by_delimiter}
use Rattle.line_reader.specs.Pattern.{asks}
use Rattle.line_reader.specs.Reading.{with_bit}
use Rattle.line_captures.specs.ReadingBack.{gaps}

-- Whether counts of one to four positions lead from position p to the end, each as the pattern asks.
abbrev pub passes : LineMode → ℕ → List ℕ → Bool
passes mode p [] = eqb p 157
passes mode p (k ∷ ks) = leb 1 k && (leb k 4 && (asks mode p k && passes mode (p + k) ks))

-- The bits that they bring, onto those that were there.
abbrev pub bits_after : ℕ → ℕ → List ℕ → ℕ
bits_after p bits [] = bits
bits_after p bits (k ∷ ks) = bits_after (p + k) (with_bit p k bits) ks

-- What it is that a count passes, and the two ways between that and the test.
pub record Passed (mode : LineMode) (p k : ℕ) (ks : List ℕ) : Type 0 where
  pub least : 1 ≤ k
  pub most : k ≤ 4
  pub asked : asks mode p k ≡ true
  pub on : passes mode (p + k) ks ≡ true

pub passed : (mode : LineMode) (p k : ℕ) (ks : List ℕ) → passes mode p (k ∷ ks) ≡ true → Passed mode p k ks
passed mode p k ks h =
    let a = and_right (leb 1 k) (leb k 4 && (asks mode p k && passes mode (p + k) ks)) h in
    let b = and_right (leb k 4) (asks mode p k && passes mode (p + k) ks) a in
    record {
      least = leb-true 1 k (and_left (leb 1 k) (leb k 4 && (asks mode p k && passes mode (p + k) ks)) h);
      most = leb-true k 4 (and_left (leb k 4) (asks mode p k && passes mode (p + k) ks) a);
      asked = and_left (asks mode p k) (passes mode (p + k) ks) b;
      on = and_right (asks mode p k) (passes mode (p + k) ks) b;
    }

pub pass : (mode : LineMode) (p k : ℕ) (ks : List ℕ) → Passed mode p k ks → passes mode p (k ∷ ks) ≡ true
pass mode p k ks h = rw (le-leb 1 k h.least, le-leb k 4 h.most, h.asked) h.on

-- The delimiter's gaps, the last to the first clock at 27.
abbrev pub delimiter_gaps : LineMode → List ℕ
delimiter_gaps mode = gaps ◌-◌ (delimiter_of mode ++ (27 ∷ []))

-- The gaps from a clock on: "after a clock, two positions is a zero, one is a one"; in the end two, from 155 to 157.
abbrev pub data_gaps : List Bool → List ℕ
data_gaps [] = 2 ∷ []
data_gaps (true ∷ bits) = 1 ∷ 1 ∷ data_gaps bits
data_gaps (false ∷ bits) = 2 ∷ data_gaps bits

-- The gaps of a page with these bits.
abbrev pub gaps_of : LineMode → List Bool → List ℕ
gaps_of mode bits = delimiter_gaps mode ++ data_gaps bits

-- The register after it has taken bits, one after the other.
abbrev pub pushed : ℕ → List Bool → ℕ
pushed register [] = register
pushed register (b ∷ bits) = pushed (register / 2 + cond b (2 ^ 63) 0) bits

-- The delimiter's gaps lead from 1 to 27, and bring no bits.
through_delimiter : (mode : LineMode) (ks : List ℕ) → passes mode 1 (delimiter_gaps mode ++ ks) ≡ passes mode 27 ks
unfolding asks stands_at is_clock is_bit
through_delimiter mode ks =
    by_delimiter (λ n. passes n 1 (delimiter_gaps n ++ ks) ≡ passes n 27 ks) (λ s t q. refl) (λ s t q. refl) mode

delimiter_bits : (mode : LineMode) (ks : List ℕ) (bits : ℕ) → bits_after 1 bits (delimiter_gaps mode ++ ks) ≡ bits_after 27 bits ks
unfolding is_clock
delimiter_bits mode ks bits =
    by_delimiter (λ n. bits_after 1 bits (delimiter_gaps n ++ ks) ≡ bits_after 27 bits ks) (λ s t q. refl) (λ s t q. refl) mode

-- No other counts lead through the delimiter: computed at each position and each count from 1 to 4.
abbrev only_count : LineMode → ℕ → ℕ → ℕ → Bool
only_count mode p gap k = not (asks mode p (suc k)) || eqb (suc k) gap

abbrev forced : LineMode → ℕ → List ℕ → Bool
forced mode p [] = true
forced mode p (gap ∷ rest) = not (eqb p 157) && (every_below 4 (only_count mode p gap) && forced mode (p + gap) rest)

delimiter_forced : (mode : LineMode) → forced mode 1 (delimiter_gaps mode) ≡ true
unfolding asks stands_at is_clock is_bit
delimiter_forced = by_delimiter (λ n. forced n 1 (delimiter_gaps n) ≡ true) (λ s t q. refl) (λ s t q. refl)

-- A count that passes where one alone does is that one.
only_count_law : (mode : LineMode) (p gap k : ℕ) → every_below 4 (only_count mode p gap) ≡ true → 1 ≤ k → k ≤ 4 → asks mode p k ≡ true → k ≡ gap
only_count_law mode p gap zero h l u a = absurd (omega arith)
only_count_law mode p gap (suc k) h l u a = by (asks mode p (suc k)) a (at_each 4 (only_count mode p gap) h k u)
  where
    by : (t : Bool) → t ≡ true → (not t || eqb (suc k) gap) ≡ true → suc k ≡ gap
    by true e f = eqb-true (suc k) gap f
    by false e f = cc e

-- Counts that begin with given ones, and go on from a position.
record Continues (mode : LineMode) (first ks : List ℕ) (at : ℕ) : Type 0 where
  rest : List ℕ
  whole : ks ≡ first ++ rest
  on : passes mode at rest ≡ true

-- Where counts lead from p.
abbrev sum_from : ℕ → List ℕ → ℕ
sum_from p [] = p
sum_from p (k ∷ ks) = sum_from (p + k) ks

-- Counts that lead to the end begin with those that are forced.
through_forced : (mode : LineMode) (p : ℕ) (first ks : List ℕ) → forced mode p first ≡ true → passes mode p ks ≡ true → Continues mode first ks (sum_from p first)
through_forced mode p [] ks f h = record { rest = ks; whole = refl; on = h }
through_forced mode p (gap ∷ first) [] f h =
    absurd (let e = not-true (eqb p 157) (and_left (not (eqb p 157)) (every_below 4 (only_count mode p gap) && forced mode (p + gap) first) f) in
    let z : ◌≡◌ {A = ℕ} 0 1 = cc in omega arith)
through_forced mode p (gap ∷ first) (k ∷ ks) f h =
    let c = passed mode p k ks h in
    let g = and_right (not (eqb p 157)) (every_below 4 (only_count mode p gap) && forced mode (p + gap) first) f in
    let alone = and_left (every_below 4 (only_count mode p gap)) (forced mode (p + gap) first) g in
    let e = only_count_law mode p gap k alone c.least c.most c.asked in
    let later = and_right (every_below 4 (only_count mode p gap)) (forced mode (p + gap) first) g in
    let b = through_forced mode (p + gap) first ks later (rw e at c.on) in
    record { rest = b.rest; whole = ap (λ (n : ℕ). n ∷ ks) e ∙ ap (λ (r : List ℕ). gap ∷ r) b.whole; on = b.on }

-- Two tests that are found to agree at each number below n do; and two of two numbers, the second below 4.
same_below : (n : ℕ) (f g : ℕ → Bool) → every_below n (λ k. beq (f k) (g k)) ≡ true → (k : ℕ) → k < n → f k ≡ g k
same_below n f g h k l = beq_equal (f k) (g k) (at_each n (λ k. beq (f k) (g k)) h k l)

same_at_each : (n : ℕ) (f g : ℕ → ℕ → Bool) → every_below n (λ i. every_below 4 (λ k. beq (f i k) (g i k))) ≡ true
    → (i k : ℕ) → i < n → k < 4 → f i k ≡ g i k
same_at_each n f g h i k l c = same_below 4 (f i) (g i) (at_each n (λ i. every_below 4 (λ k. beq (f i k) (g i k))) h i l) k c

-- A clock at 27 + 2i and the position of its bit: from either, an edge may come at each position up to the next clock, and at none beyond.
asks_clock : (mode : LineMode) (i k : ℕ) → i < 64 → k < 4 → asks mode (27 + 2 * i) (suc k) ≡ leb (suc k) 2
unfolding asks stands_at is_clock is_bit
asks_clock mode = same_at_each 64 (λ i k. asks mode (27 + 2 * i) (suc k)) (λ i k. leb (suc k) 2) refl

asks_bit : (mode : LineMode) (i k : ℕ) → i < 64 → k < 4 → asks mode (27 + 2 * i + 1) (suc k) ≡ leb (suc k) 1
unfolding asks stands_at is_clock is_bit
asks_bit mode = same_at_each 64 (λ i k. asks mode (27 + 2 * i + 1) (suc k)) (λ i k. leb (suc k) 1) refl

-- At 155 two positions, at 157 none.
asks_end : (mode : LineMode) (k : ℕ) → k < 4 → asks mode 155 (suc k) ≡ eqb (suc k) 2
unfolding asks stands_at is_clock is_bit
asks_end mode = same_below 4 (λ k. asks mode 155 (suc k)) (λ k. eqb (suc k) 2) refl

asks_past : (mode : LineMode) (k : ℕ) → k < 4 → asks mode 157 (suc k) ≡ false
unfolding asks stands_at is_clock is_bit
asks_past mode = same_below 4 (λ k. asks mode 157 (suc k)) (λ k. false) refl

-- A bit is taken at the clocks, and at no other position from the first of them on.
clock_at : (i : ℕ) → i < 64 → is_clock (27 + 2 * i) ≡ true
unfolding is_clock
clock_at = same_below 64 (λ i. is_clock (27 + 2 * i)) (λ i. true) refl

no_clock_at : (i : ℕ) → i < 64 → is_clock (27 + 2 * i + 1) ≡ false
unfolding is_clock
no_clock_at = same_below 64 (λ i. is_clock (27 + 2 * i + 1)) (λ i. false) refl

no_clock_at_end : is_clock 155 ≡ false
unfolding is_clock
no_clock_at_end = refl

-- The next clock, behind a zero and behind a one.
after_zero : (i : ℕ) → 27 + 2 * suc i ≡ 27 + 2 * i + 2
after_zero i = omega arith

after_one : (i : ℕ) → 27 + 2 * suc i ≡ 27 + 2 * i + 1 + 1
after_one i = omega arith

-- The gaps of bits lead from the clock before the first to the end,
data_passes : (mode : LineMode) (i : ℕ) (bits : List Bool) → i + length bits ≡ 64 → passes mode (27 + 2 * i) (data_gaps bits) ≡ true
data_passes mode i [] h =
    let e : 27 + 2 * i ≡ 155 = omega arith in
    rw e (pass mode 155 2 [] (record { least = omega arith; most = omega arith; asked = asks_end mode 1 (omega arith); on = refl }))
data_passes mode i (true ∷ bits) h =
    let a = asks_clock mode i 0 (omega arith) (omega arith) in
    let b = asks_bit mode i 0 (omega arith) (omega arith) in
    rw (a, b) (rw (after_one i) at (data_passes mode (suc i) bits (omega arith)))
data_passes mode i (false ∷ bits) h =
    let a = asks_clock mode i 1 (omega arith) (omega arith) in
    rw a (rw (after_zero i) at (data_passes mode (suc i) bits (omega arith)))

-- and bring these bits.
data_bits : (i register : ℕ) (bits : List Bool) → i + length bits ≡ 64 → bits_after (27 + 2 * i) register (data_gaps bits) ≡ pushed register bits
data_bits i register [] h = let e : 27 + 2 * i ≡ 155 = omega arith in rw (e, no_clock_at_end)
data_bits i register (true ∷ bits) h =
    ap (λ (r : ℕ). bits_after (27 + 2 * i + 1 + 1) r (data_gaps bits)) (rw (clock_at i (omega arith), no_clock_at i (omega arith)))
    ∙ ap (λ (p : ℕ). bits_after p (register / 2 + 2 ^ 63) (data_gaps bits)) (sym (after_one i))
    ∙ data_bits (suc i) (register / 2 + 2 ^ 63) bits (omega arith)
data_bits i register (false ∷ bits) h =
    ap (λ (r : ℕ). bits_after (27 + 2 * i + 2) r (data_gaps bits)) (rw (clock_at i (omega arith)))
    ∙ ap (λ (p : ℕ). bits_after p (register / 2 + 0) (data_gaps bits)) (sym (after_zero i))
    ∙ data_bits (suc i) (register / 2 + 0) bits (omega arith)

-- No other counts do. From a clock on they are one or two,
clock_counts : (mode : LineMode) (i k : ℕ) (ks : List ℕ) → i < 64 → Passed mode (27 + 2 * i) k ks → (k ≡ 1) ⊎ (k ≡ 2)
clock_counts mode i zero ks l h = absurd (omega arith)
clock_counts mode i (suc zero) ks l h = inl refl
clock_counts mode i (suc (suc zero)) ks l h = inr refl
clock_counts mode i (suc (suc (suc k))) ks l h =
    absurd (let m = leb-true (suc (suc (suc k))) 2 (sym (asks_clock mode i (suc (suc k)) l (omega arith)) ∙ h.asked) in omega arith)

-- from a bit's position on one,
bit_count : (mode : LineMode) (i k : ℕ) (ks : List ℕ) → i < 64 → Passed mode (27 + 2 * i + 1) k ks → k ≡ 1
bit_count mode i zero ks l h = absurd (omega arith)
bit_count mode i (suc k) ks l h = let m = leb-true (suc k) 1 (sym (asks_bit mode i k l (omega arith)) ∙ h.asked) in omega arith

-- from 157 on none,
pub none_past : (mode : LineMode) (ks : List ℕ) → passes mode 157 ks ≡ true → ks ≡ []
none_past mode [] h = refl
none_past mode (zero ∷ ks) h = absurd (let c = passed mode 157 zero ks h in omega arith)
none_past mode (suc k ∷ ks) h =
    absurd (let c = passed mode 157 (suc k) ks h in let z : ◌≡◌ {A = ℕ} 0 1 = cc (asks_past mode k (omega arith), c.asked) in omega arith)

-- from 155 on two and then none.
end_only : (mode : LineMode) (ks : List ℕ) → passes mode 155 ks ≡ true → ks ≡ 2 ∷ []
end_only mode [] h = cc h
end_only mode (zero ∷ ks) h = absurd (let c = passed mode 155 zero ks h in omega arith)
end_only mode (suc k ∷ ks) h =
    let c = passed mode 155 (suc k) ks h in
    let e = eqb-true (suc k) 2 (sym (asks_end mode k (omega arith)) ∙ c.asked) in
    let r = none_past mode ks (rw e at c.on) in cc

-- Counts that are the gaps of n bits.
pub record Spell (n : ℕ) (gapsFor : List Bool → List ℕ) (ks : List ℕ) : Type 0 where
  pub bits : List Bool
  pub long : length bits ≡ n
  pub whole : ks ≡ gapsFor bits

-- One bit more in front.
zero_first : (n : ℕ) (ks : List ℕ) → Spell n data_gaps ks → Spell (suc n) data_gaps (2 ∷ ks)
zero_first n ks b = record { bits = false ∷ b.bits; long = ap suc b.long; whole = ap (λ (r : List ℕ). 2 ∷ r) b.whole }

one_first : (n : ℕ) (ks : List ℕ) → Spell n data_gaps ks → Spell (suc n) data_gaps (1 ∷ 1 ∷ ks)
one_first n ks b = record { bits = true ∷ b.bits; long = ap suc b.long; whole = ap (λ (r : List ℕ). 1 ∷ 1 ∷ r) b.whole }

-- What leads from a clock to the end are the gaps of as many bits as are left.
data_only : (mode : LineMode) (n i : ℕ) (ks : List ℕ) → i + n ≡ 64 → passes mode (27 + 2 * i) ks ≡ true → Spell n data_gaps ks
data_only mode zero i ks l h =
    let e : 27 + 2 * i ≡ 155 = omega arith in
    record { bits = []; long = refl; whole = end_only mode ks (rw e at h) }
data_only mode (suc n) i [] l h = absurd (let e = eqb-true (27 + 2 * i) 157 h in omega arith)
data_only mode (suc n) i (k ∷ []) l h = absurd (short (clock_counts mode i k [] (omega arith) (passed mode (27 + 2 * i) k [] h)))
  where
    end : 27 + 2 * i + k ≡ 157
    end = eqb-true (27 + 2 * i + k) 157 (passed mode (27 + 2 * i) k [] h).on

    short : (k ≡ 1) ⊎ (k ≡ 2) → ⊥
    short (inl e) = let f = end in omega arith
    short (inr e) = let f = end in omega arith
data_only mode (suc n) i (k ∷ j ∷ ks) l h =
    ⊎_elim (one (data_only mode n (suc i) ks (omega arith))) (two (data_only mode n (suc i) (j ∷ ks) (omega arith)))
    (clock_counts mode i k (j ∷ ks) (omega arith) first)
  where
    first : Passed mode (27 + 2 * i) k (j ∷ ks)
    first = passed mode (27 + 2 * i) k (j ∷ ks) h

    one : (passes mode (27 + 2 * suc i) ks ≡ true → Spell n data_gaps ks) → k ≡ 1 → Spell (suc n) data_gaps (k ∷ j ∷ ks)
    one later e =
        let c = passed mode (27 + 2 * i + 1) j ks (subst (λ (x : ℕ). passes mode (27 + 2 * i + x) (j ∷ ks) ≡ true) e first.on) in
        let d = bit_count mode i j ks (omega arith) c in
        let next : 27 + 2 * i + 1 + j ≡ 27 + 2 * suc i = omega arith in
        rw (e, d) (one_first n ks (later (subst (λ (x : ℕ). passes mode x ks ≡ true) next c.on)))

    two : (passes mode (27 + 2 * suc i) (j ∷ ks) ≡ true → Spell n data_gaps (j ∷ ks)) → k ≡ 2 → Spell (suc n) data_gaps (k ∷ j ∷ ks)
    two later e =
        let next : 27 + 2 * i + k ≡ 27 + 2 * suc i = omega arith in
        rw e (zero_first n (j ∷ ks) (later (subst (λ (x : ℕ). passes mode x (j ∷ ks) ≡ true) next first.on)))

-- A page's gaps lead from 1 to the end and bring its 64 bits,
pub page_passes : (mode : LineMode) (bits : List Bool) → length bits ≡ 64 → passes mode 1 (gaps_of mode bits) ≡ true
page_passes mode bits h = through_delimiter mode (data_gaps bits) ∙ data_passes mode 0 bits (omega arith)

pub page_bits : (mode : LineMode) (bits : List Bool) → length bits ≡ 64 → bits_after 1 0 (gaps_of mode bits) ≡ pushed 0 bits
page_bits mode bits h = delimiter_bits mode (data_gaps bits) 0 ∙ data_bits 0 0 bits (omega arith)

-- and whatever leads from 1 to the end are the gaps of a page.
pub only_pages : (mode : LineMode) (ks : List ℕ) → passes mode 1 ks ≡ true → Spell 64 (gaps_of mode) ks
only_pages mode ks h =
    let b = through_forced mode 1 (delimiter_gaps mode) ks (delimiter_forced mode) h in
    let d = data_only mode 64 0 b.rest (omega arith) (rw (ends mode) at b.on) in
    record { bits = d.bits; long = d.long; whole = b.whole ∙ ap (λ (r : List ℕ). delimiter_gaps mode ++ r) d.whole }
  where
    ends : (n : LineMode) → sum_from 1 (delimiter_gaps n) ≡ 27
    ends = by_delimiter (λ n. sum_from 1 (delimiter_gaps n) ≡ 27) (λ s t q. refl) (λ s t q. refl)
