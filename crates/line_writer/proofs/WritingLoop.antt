-- The writing loop: after each position, the readings of the transitions passed stand at the head of the list.
use Rattle.std.proofs.Common.{◌≡◌, ℕ, zero, suc, ◌+◌, ◌-◌, ◌*◌, ◌%◌, ◌^◌, ◌<◌, ◌≤◌, Bool, true, false, List, [], ◌∷◌, ◌++◌, map, length, get_or, drop, set, sym, refl, ap, ◌∙◌, subst, ap₂, append_assoc, le_refl, add-zero, add-suc, suc-mul, zero-mul, add-one, arith, length-append, length-drop, drop-cons}
use mathlib.Core.List.{map-append}
use lib.ListN.{length-map}
use lib.Seq.{set_at}
use Rattle.line_mode.specs.declared.modes.LineMode.{LineMode}
use Rattle.line_writer.specs.Transitions.{has_transition, sent_bits, positions_to, transitions, reading_at, readings, edge_count}
use Rattle.line_writer.proofs.EdgeCount.{count_more}
use Rattle.polynomials.proofs.BinaryNumbers.{bit}

pub more_yes : (test : ℕ → Bool) (n : ℕ) → test (suc n) ≡ true → positions_to test (suc n) ≡ positions_to test n ++ (suc n ∷ [])
unfolding positions_to
more_yes test n h = rw h

pub more_no : (test : ℕ → Bool) (n : ℕ) → test (suc n) ≡ false → positions_to test (suc n) ≡ positions_to test n
unfolding positions_to
more_no test n h = rw h

-- Later positions only add.
pub count_grows : (test : ℕ → Bool) (n k : ℕ) → length (positions_to test n) ≤ length (positions_to test (n + k))
count_grows test n zero = subst (λ (k : ℕ). length (positions_to test n) ≤ length (positions_to test k)) (sym (add-zero n)) (le_refl (length (positions_to test n)))
count_grows test n (suc k) =
    let h = count_grows test n k in
    let e : length (positions_to test (n + suc k)) ≡ length (positions_to test (n + k)) + bit (test (suc (n + k)))
    = ap (λ (k : ℕ). length (positions_to test k)) (add-suc n k) ∙ count_more test (n + k) in omega arith

count_to_end : (test : ℕ → Bool) (n : ℕ) → n ≤ 157 → length (positions_to test n) ≤ length (positions_to test 157)
count_to_end test n h =
    subst (λ (k : ℕ). length (positions_to test n) ≤ length (positions_to test k)) (let e : n + (157 - n) ≡ 157 = omega arith in e)
    (count_grows test n (157 - n))

-- What holds whenever the loop's test is reached: so many positions are passed.
pub record Writing (m : LineMode) (word first : ℕ) (before list : List ℕ) (clock count passed : ℕ) : Type 0 where
  pub most : passed ≤ 157
  pub time : clock ≡ (first + passed * m.spacing) % 2 ^ 32
  pub number : count ≡ length (positions_to (has_transition m (sent_bits word)) passed)
  pub contents : list ≡ map (reading_at m.spacing first) (positions_to (has_transition m (sent_bits word)) passed) ++ drop count before

pub start : (m : LineMode) (word first : ℕ) (before : List ℕ) → first < 2 ^ 32 → Writing m word first before before first 0 0
unfolding positions_to
start m word first before h =
    record { most = omega arith; time = sym (ap (λ (x : ℕ). (first + x) % 2 ^ 32) (zero-mul m.spacing) ∙ omega arith); number = refl; contents = refl }

-- The list keeps its length.
pub same_long : (m : LineMode) (word first : ℕ) (before list : List ℕ) (clock count passed : ℕ)
    → Writing m word first before list clock count passed
    → length (positions_to (has_transition m (sent_bits word)) 157) ≤ length before → length list ≡ length before
same_long m word first before list clock count passed g enough =
    let grows = count_to_end (has_transition m (sent_bits word)) passed g.most in
    let n = g.number in
    let head = map (reading_at m.spacing first) (positions_to (has_transition m (sent_bits word)) passed) in
    let l : length (map (reading_at m.spacing first) (positions_to (has_transition m (sent_bits word)) passed)) ≡ count
    = length-map (positions_to (has_transition m (sent_bits word)) passed) (reading_at m.spacing first) ∙ sym n in
    let all = ap length g.contents ∙ length-append (map (reading_at m.spacing first) (positions_to (has_transition m (sent_bits word)) passed)) (drop count before) in
    let d = length-drop count before in omega arith

module _ (m : LineMode) (word first : ℕ) (before list : List ℕ) (clock count passed : ℕ)
    (g : Writing m word first before list clock count passed) (h : passed < 157)
  where
    test : ℕ → Bool
    test = has_transition m (sent_bits word)

    reading : ℕ → ℕ
    reading = reading_at m.spacing first

    head : List ℕ
    head = map reading (positions_to test passed)

    head_length : length head ≡ count
    unfolding head test reading
    head_length = length-map (positions_to test passed) reading ∙ sym g.number

    time_more : (clock + m.spacing) % 2 ^ 32 ≡ (first + (passed + 1) * m.spacing) % 2 ^ 32
    time_more =
        ap (λ (x : ℕ). (x + m.spacing) % 2 ^ 32) g.time
        ∙ (let e : ((first + passed * m.spacing) % 2 ^ 32 + m.spacing) % 2 ^ 32 ≡ (first + (passed * m.spacing + m.spacing)) % 2 ^ 32 = omega arith in e)
        ∙ ap (λ (x : ℕ). (first + x) % 2 ^ 32) (sym (suc-mul passed m.spacing) ∙ ap (λ (n : ℕ). n * m.spacing) (sym (add-one passed)))

    -- The next position's reading is the clock.
    now_reading : reading (suc passed) ≡ clock
    unfolding reading
    now_reading = sym g.time

    -- A transition that is not yet written has an entry to go to.
    pub room : has_transition m (sent_bits word) (passed + 1) ≡ true → length (positions_to (has_transition m (sent_bits word)) 157) ≤ length before
        → count < length before
    unfolding test
    room there enough =
        let more : length (positions_to test (suc passed)) ≡ length (positions_to test passed) + 1
        = count_more test passed ∙ ap (λ (t : Bool). length (positions_to test passed) + bit t) (ap test (sym (add-one passed)) ∙ there) in
        let grows = count_to_end test (suc passed) h in
        let n = g.number in omega arith

    pub turn_yes : has_transition m (sent_bits word) (passed + 1) ≡ true → count < length before
        → Writing m word first before (set list count clock) ((clock + m.spacing) % 2 ^ 32) (count + 1) (passed + 1)
    unfolding test reading head
    turn_yes there fits =
        record { most = omega arith; time = time_more; number = number_more; contents = contents_more }
      where
        one_more : positions_to test (passed + 1) ≡ positions_to test passed ++ (suc passed ∷ [])
        one_more = ap (positions_to test) (add-one passed) ∙ more_yes test passed (ap test (sym (add-one passed)) ∙ there)

        number_more : count + 1 ≡ length (positions_to test (passed + 1))
        number_more = ap (λ (n : ℕ). n + 1) g.number ∙ sym (ap length one_more ∙ length-append (positions_to test passed) (suc passed ∷ []))

        contents_more : set list count clock ≡ map reading (positions_to test (passed + 1)) ++ drop (count + 1) before
        contents_more =
            ap (λ (l : List ℕ). set l count clock) (g.contents ∙ ap (λ (l : List ℕ). head ++ l) (drop-cons before count 0 fits))
            ∙ set_at head (get_or before count 0) (drop (suc count) before) clock count head_length
            ∙ ap₂ (λ (r k : ℕ). head ++ (r ∷ drop k before)) (sym now_reading) (sym (add-one count))
            ∙ sym (append_assoc head (reading (suc passed) ∷ []) (drop (count + 1) before))
            ∙ ap (λ (l : List ℕ). l ++ drop (count + 1) before) (sym (map-append reading (positions_to test passed) (suc passed ∷ [])) ∙ ap (map reading) (sym one_more))

    pub turn_no : has_transition m (sent_bits word) (passed + 1) ≡ false
        → Writing m word first before list ((clock + m.spacing) % 2 ^ 32) count (passed + 1)
    unfolding test reading head
    turn_no none =
        record { most = omega arith; time = time_more; number = g.number ∙ ap length (sym same); contents = g.contents ∙ ap (λ (l : List ℕ). map reading l ++ drop count before) (sym same) }
      where
        same : positions_to test (passed + 1) ≡ positions_to test passed
        same = ap (positions_to test) (add-one passed) ∙ more_no test passed (ap test (sym (add-one passed)) ∙ none)

-- After 157 positions the page is written.
pub finish : (m : LineMode) (word first : ℕ) (before list : List ℕ) (clock count passed : ℕ)
    → Writing m word first before list clock count passed → 157 ≤ passed
    → list ≡ readings m word first ++ drop (edge_count m word) before
unfolding readings edge_count transitions
finish m word first before list clock count passed g h =
    g.contents
    ∙ ap₂ (λ (n k : ℕ). map (reading_at m.spacing first) (positions_to (has_transition m (sent_bits word)) n) ++ drop k before) all
    (g.number ∙ ap (λ (n : ℕ). length (positions_to (has_transition m (sent_bits word)) n)) all)
  where
    all : passed ≡ 157
    all = let l = g.most in omega arith
