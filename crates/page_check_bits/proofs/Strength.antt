-- How much damage the check bits tell: the sent bits of two different words differ in an even number of places, in four at
-- least, and not only within sixteen neighbouring places. What two of them add up to is a multiple of the divisor. A multiple has an even number
-- of ones; no multiple within 64 coefficients has just two, which is computed for each distance of the two; and none but zero lies within
-- sixteen coefficients, at whatever power.
use mathlib.Core.Path.{◌≡◌, refl, sym, ap, ap₂, ◌∙◌}
use mathlib.Core.Bool.{Bool, true, false, not, xor, false≢true}
use mathlib.Core.List.{List, [], ◌∷◌, ◌++◌}
use Prim.Native.Nat.{ℕ, zero, suc, ◌+◌, ◌%◌, ◌^◌, ◌≤◌, ◌<◌}
use native.Mathlib.Omega.{arith}
use lib.Dec.{eqb}
use lib.ListN.{length, take, drop, get_or, length-append, length-take, take-append-drop}
use lib.Seq.{append_snoc, take-suc, take_all, take_at, get_or-take, get_or-drop, drop-drop}
use Rattle.page_word.specs.Word.{bits_of}
use Rattle.page_word.proofs.ComputedTest.{every_below, at_each}
use Rattle.polynomials.specs.Polynomials.{plus}
use Rattle.polynomials.specs.Binary.{binary}
use Rattle.polynomials.proofs.Sums.{plus_length, plus_at}
use Rattle.polynomials.proofs.BinarySums.{xor_self, binary_sums}
use Rattle.polynomials.proofs.BinaryNumbers.{bit, trues, trues_append}
use Rattle.page_check_bits.specs.CheckBits.{remainder, check_list}
use Rattle.page_check_bits.proofs.WordBits.{sum_of, word_of_bits}
use Rattle.page_check_bits.proofs.Remainders.{zeros, multiple, quotient, quotient_length, remainder_length, divisible}
use Rattle.page_check_bits.proofs.Multiples.{multiple_plus, multiple_even, none_left, without_start, without_end, short_zeros}

-- A pattern says at each place whether there is a one. In how many of the first n places two patterns differ:
unfoldable pub differing : ℕ → (ℕ → Bool) → (ℕ → Bool) → ℕ
differing zero f g = 0
differing (suc n) f g = bit (xor (f n) (g n)) + differing n f g

-- Two patterns agree at each place, but perhaps not at some of `width` neighbouring places from `start` on.
abbrev pub AgreeOutside : ℕ → ℕ → (ℕ → Bool) → (ℕ → Bool) → Type 0
AgreeOutside start width f g = (k : ℕ) → (start ≤ k → k < start + width → ⊥) → f k ≡ g k

-- Two patterns that no small damage turns into one another: of the first n places they differ in four at least and in an even number, and
-- they do not differ only within `width` neighbouring places.
pub record Apart (n width : ℕ) (f g : ℕ → Bool) : Type 0 where
  pub four : 4 ≤ differing n f g
  pub even : differing n f g % 2 ≡ 0
  pub spread : (start : ℕ) → AgreeOutside start width f g → ⊥

-- A message as it is sent, its remainder behind it.
abbrev pub sent : List Bool → List Bool
sent m = m ++ remainder m

-- A list of bits as a pattern.
abbrev pub bit_at : List Bool → ℕ → Bool
bit_at l k = get_or l k false

-- The places where two lists differ are the ones of their sum.
differing_ones : (k : ℕ) (p q : List Bool) → length p ≡ length q → k ≤ length q → differing k (bit_at p) (bit_at q) ≡ trues (take k (plus binary p q))
unfolding differing
differing_ones zero p q h l = refl
differing_ones (suc k) p q h l = let before = differing_ones k p q h (omega arith) in omega (arith, last)
  where
    last : trues (take (suc k) (plus binary p q)) ≡ trues (take k (plus binary p q)) + (bit (xor (bit_at p k) (bit_at q k)) + 0)
    last =
        ap trues (take-suc (plus binary p q) k false (omega (arith, plus_length binary p q (omega arith))))
        ∙ trues_append (take k (plus binary p q)) (bit_at (plus binary p q) k ∷ [])
        ∙ ap (λ (b : Bool). trues (take k (plus binary p q)) + (bit b + 0)) (plus_at binary_sums p q k h)

-- Lists whose sum has no ones are the same.
no_difference : (p q : List Bool) → length p ≡ length q → trues (plus binary p q) ≡ 0 → p ≡ q
unfolding xor
no_difference [] [] h e = refl
no_difference [] (b ∷ q) h e = absurd (omega arith)
no_difference (a ∷ p) [] h e = absurd (omega arith)
no_difference (true ∷ p) (true ∷ q) h e = ap (λ (l : List Bool). true ∷ l) (no_difference p q (omega arith) (omega arith))
no_difference (true ∷ p) (false ∷ q) h e = absurd (omega arith)
no_difference (false ∷ p) (true ∷ q) h e = absurd (omega arith)
no_difference (false ∷ p) (false ∷ q) h e = ap (λ (l : List Bool). false ∷ l) (no_difference p q (omega arith) (omega arith))

-- A list without ones is a list of zeros, and one without a one at any place has none.
no_ones : (l : List Bool) → trues l ≡ 0 → l ≡ zeros (length l)
no_ones [] e = refl
no_ones (true ∷ l) e = absurd (omega arith)
no_ones (false ∷ l) e = ap (λ (r : List Bool). false ∷ r) (no_ones l (omega arith))

none_set : (l : List Bool) → ((k : ℕ) → k < length l → bit_at l k ≡ false) → trues l ≡ 0
none_set [] h = refl
none_set (b ∷ l) h = let rest = none_set l (λ k i. h (suc k) (omega arith)) in let first = ap bit (h 0 (omega arith)) in omega arith

-- The first one of a list: zeros before it, and one less behind it.
record FirstOne (l : List Bool) (n : ℕ) : Type 0 where
  before : ℕ
  rest : List Bool
  parts : l ≡ zeros before ++ (true ∷ rest)
  long : before + length rest < length l
  less : trues rest ≡ n

first_one : (l : List Bool) (n : ℕ) → trues l ≡ suc n → FirstOne l n
first_one [] n e = absurd (omega arith)
first_one (true ∷ l) n e = record { before = 0; rest = l; parts = refl; long = omega arith; less = omega arith }
first_one (false ∷ l) n e =
    let found = first_one l n (omega arith) in
    record {
      before = suc found.before;
      rest = found.rest;
      parts = ap (λ (r : List Bool). false ∷ r) found.parts;
      long = omega (arith, found.long);
      less = found.less;
    }

-- Two ones with b zeros between them.
abbrev pair : ℕ → List Bool
pair b = true ∷ (zeros b ++ (true ∷ []))

-- They leave a remainder, however far apart within 64 places: computed.
abbrev leaves : ℕ → Bool
leaves b = not (eqb (trues (remainder (pair b))) 0)

pairs_leave : every_below 63 leaves ≡ true
unfolding remainder xor
pairs_leave = refl

pair_leaves : (b : ℕ) → b < 63 → remainder (pair b) ≡ zeros 16 → ⊥
pair_leaves b h e = false≢true (sym (ap (λ (l : List Bool). not (eqb (trues l) 0)) e) ∙ at_each 63 leaves pairs_leave b h)

-- So a list of up to 64 with just two ones leaves a remainder.
not_pair : (a b : ℕ) (r : List Bool) → b < 63 → trues r ≡ 0 → remainder (zeros a ++ (true ∷ (zeros b ++ (true ∷ r)))) ≡ zeros 16 → ⊥
not_pair a b r h t e =
    pair_leaves b h
    (without_end (pair b) (length r)
    (ap (λ (l : List Bool). remainder (true ∷ l)) spelled ∙ sym (without_start a (true ∷ (zeros b ++ (true ∷ r)))) ∙ e))
  where
    spelled : (zeros b ++ (true ∷ [])) ++ zeros (length r) ≡ zeros b ++ (true ∷ r)
    spelled = append_snoc (zeros b) true (zeros (length r)) ∙ ap (λ (l : List Bool). zeros b ++ (true ∷ l)) (sym (no_ones r t))

not_two : (d : List Bool) → length d ≤ 64 → remainder d ≡ zeros 16 → trues d ≡ 2 → ⊥
not_two d h e t =
    let one = first_one d 1 t in
    let two = first_one one.rest 0 one.less in
    not_pair one.before two.before two.rest (omega (arith, one.long, two.long)) two.less
    (ap (λ (l : List Bool). remainder (zeros one.before ++ (true ∷ l))) (sym two.parts) ∙ ap remainder (sym one.parts) ∙ e)

-- A list that leaves no remainder and has ones only within sixteen neighbouring places has none.
not_near : (d : List Bool) (start : ℕ) → remainder d ≡ zeros 16
    → ((k : ℕ) → (start ≤ k → k < start + 16 → ⊥) → bit_at d k ≡ false) → trues d ≡ 0
not_near d start e h = ap trues (sym whole) ∙ trues_append front (burst ++ back) ∙ omega (arith, trues_append burst back, front_none, back_none, short_zeros burst short alone)
  where
    front : List Bool
    front = take start d

    burst : List Bool
    burst = take 16 (drop start d)

    back : List Bool
    back = drop 16 (drop start d)

    whole : take start d ++ (take 16 (drop start d) ++ drop 16 (drop start d)) ≡ d
    whole = ap (λ (l : List Bool). take start d ++ l) (take-append-drop 16 (drop start d)) ∙ take-append-drop start d

    short : length (take 16 (drop start d)) ≤ 16
    short = omega (arith, length-take 16 (drop start d))

    front_none : trues (take start d) ≡ 0
    front_none = none_set (take start d) (λ k i. let l = length-take start d in get_or-take start d k false (omega arith) ∙ h k (λ a b. omega arith))

    back_none : trues (drop 16 (drop start d)) ≡ 0
    back_none = none_set (drop 16 (drop start d)) (λ k i.
        ap (λ (l : List Bool). bit_at l k) (drop-drop 16 start d) ∙ get_or-drop (start + 16) d k false ∙ h (start + 16 + k) (λ a b. omega arith))

    alone : remainder (take 16 (drop start d)) ≡ zeros 16
    alone =
        without_end burst (length back)
        (sym (without_start (length front) (burst ++ zeros (length back)))
        ∙ ap₂ (λ (l r : List Bool). remainder (l ++ (burst ++ r))) (sym (no_ones front front_none)) (sym (no_ones back back_none))
        ∙ ap remainder whole
        ∙ e)

-- What two sent messages add up to is a multiple of the divisor.
abbrev factor : List Bool → List Bool
factor m = quotient (length m) (m ++ zeros 16)

factor_length : (m : List Bool) → length (factor m) ≡ length m
factor_length m = quotient_length (length m) (m ++ zeros 16) (length-append m (zeros 16))

sum_multiple : (m n : List Bool) → length m ≡ length n → plus binary (sent m) (sent n) ≡ multiple (plus binary (factor m) (factor n))
sum_multiple m n h =
    ap₂ (plus binary) (sym (divisible m)) (sym (divisible n))
    ∙ sym (multiple_plus (factor m) (factor n) (factor_length m ∙ h ∙ sym (factor_length n)))

sent_64 : (m : List Bool) → length m ≡ 48 → length (sent m) ≡ 64
sent_64 m h = length-append m (remainder m) ∙ ap₂ ◌+◌ h (remainder_length m)

-- Two different messages of 48 bits, and what they add up to when sent.
module _ (m n : List Bool) (long : length m ≡ 48) (long' : length n ≡ 48) (other : m ≡ n → ⊥) where
  abbrev sum : List Bool
  sum = plus binary (sent m) (sent n)

  as_long : length (sent m) ≡ length (sent n)
  as_long = sent_64 m long ∙ sym (sent_64 n long')

  sum_64 : length sum ≡ 64
  sum_64 = plus_length binary (sent m) (sent n) (omega (arith, as_long)) ∙ sent_64 n long'

  sum_is_multiple : sum ≡ multiple (plus binary (factor m) (factor n))
  sum_is_multiple = sum_multiple m n (long ∙ sym long')

  counted : differing 64 (bit_at (sent m)) (bit_at (sent n)) ≡ trues sum
  counted =
      differing_ones 64 (sent m) (sent n) as_long (omega (arith, sent_64 n long'))
      ∙ ap trues (take_all 64 sum (omega (arith, sum_64)))

  sum_even : trues sum % 2 ≡ 0
  sum_even = ap (λ (l : List Bool). trues l % 2) sum_is_multiple ∙ multiple_even (plus binary (factor m) (factor n))

  sum_leaves_none : remainder sum ≡ zeros 16
  sum_leaves_none = ap remainder sum_is_multiple ∙ none_left (plus binary (factor m) (factor n))

  sum_some : trues sum ≡ 0 → ⊥
  sum_some e =
      other (sym (take_at m (remainder m) 48 long)
      ∙ ap (take 48) (no_difference (sent m) (sent n) as_long e)
      ∙ take_at n (remainder n) 48 long')

  -- Where the two agree the sum has a zero.
  zero_at : (k : ℕ) → bit_at (sent m) k ≡ bit_at (sent n) k → bit_at sum k ≡ false
  zero_at k e = plus_at binary_sums (sent m) (sent n) k as_long ∙ ap (λ (b : Bool). xor b (bit_at (sent n) k)) e ∙ xor_self (bit_at (sent n) k)

  sent_apart : Apart 64 16 (bit_at (sent m)) (bit_at (sent n))
  sent_apart =
      record {
        four = let two = not_two sum (omega (arith, sum_64)) sum_leaves_none in let none = sum_some in omega (arith, counted, sum_even);
        even = ap (λ (k : ℕ). k % 2) counted ∙ sum_even;
        spread = λ start h. sum_some (not_near sum start sum_leaves_none (λ k i. zero_at k (h k i)));
      }

pub record Strength : Type 0 where
  -- Two different messages of 48 bits, each with its remainder behind it, are apart;
  pub messages : (m n : List Bool) → length m ≡ 48 → length n ≡ 48 → (m ≡ n → ⊥) → Apart 64 16 (bit_at (sent m)) (bit_at (sent n))
  -- so two different words, each with its check bits behind it, are.
  pub words : (w v : ℕ) → w < 2 ^ 48 → v < 2 ^ 48 → (w ≡ v → ⊥)
      → Apart 64 16 (bit_at (bits_of 48 w ++ check_list w)) (bit_at (bits_of 48 v ++ check_list v))
  -- Four is the most that can be said: 0 and 2^47 differ in just four places.
  pub reached : differing 64 (bit_at (bits_of 48 0 ++ check_list 0)) (bit_at (bits_of 48 (2 ^ 47) ++ check_list (2 ^ 47))) ≡ 4

pub strength : Strength
unfolding differing check_list remainder xor
strength =
    record {
      messages = sent_apart;
      words = λ w v h h' other. sent_apart (bits_of 48 w) (bits_of 48 v) refl refl (λ e. other (sym (word_of_bits w h) ∙ ap sum_of e ∙ word_of_bits v h'));
      reached = refl;
    }
