-- The loop of a run: after each event its answer stands at the head of the list, and the record means the device after these events.
use mathlib.Core.Path.{◌≡◌, refl, sym, ap, ap₂, ◌∙◌, subst}
use borrow.Author.Tests.{le-leb, lt-leb}
use mathlib.Core.List.{List, [], ◌∷◌, ◌++◌, map, append_assoc, append-nil}
use Prim.Native.Nat.{ℕ, suc, ◌+◌, ◌*◌, ◌/◌, ◌<◌, ◌≤◌}
use native.Mathlib.Numerals.{add-one}
use native.Mathlib.Omega.{arith}
use lib.ListN.{length, get_or, drop, set, length-append, length-drop}
use lib.Seq.{drop-cons, set_at}
use Rattle.answers.specs.Answers.{packed, number, leaving, put_at, kept}
use Rattle.answers.specs.declared.Refusal.TheVariants.{Room}
use Rattle.answers.proofs.PutAtStart.{put_at_start}
use Rattle.port_state.specs.declared.Device.{Device}
use Rattle.port_state.specs.declared.plain_record.PlainRecord.{PlainRecord}
use Rattle.port_state.specs.Memory.{Due, fresh_device}
use Rattle.port_state.specs.PlainRecords.{device_of, record_of}
use Rattle.port_state.proofs.PlainRecordLaws.{comes_back}
use Rattle.port_step.specs.declared.events.Event.{Event}
use Rattle.port_step.specs.Steps.{says_to}
use Rattle.port_step.specs.Runs.{events_of, answers_to, run_of}
use Rattle.port_lent.specs.declared.runs.EventNumbers.{EventNumbers}
use Rattle.port_lent.specs.Lent.{step_on_record, Tells}
use Rattle.port_lent.specs.Quickly.{numbers_at}

-- There are a third as many events as cells.
pub count_events : (cells : List ℕ) → length (events_of cells) ≡ length cells / 3
unfolding events_of
count_events [] = refl
count_events (kind ∷ []) = refl
count_events (kind ∷ clock ∷ []) = refl
count_events (kind ∷ clock ∷ argument ∷ rest) = let h = count_events rest in omega arith

-- Fewer than three cells are no event.
no_event : (cells : List ℕ) → length cells < 3 → events_of cells ≡ []
unfolding events_of
no_event [] h = refl
no_event (kind ∷ []) h = refl
no_event (kind ∷ clock ∷ []) h = refl
no_event (kind ∷ clock ∷ argument ∷ rest) h = absurd (let z : 3 ≤ length (kind ∷ clock ∷ argument ∷ rest) = omega arith in omega arith)

-- The cells from a place on, where three are left.
three_cells : (cells : List ℕ) (place : ℕ) → place + 3 ≤ length cells
    → drop place cells ≡ get_or cells place 0 ∷ (get_or cells (place + 1) 0 ∷ (get_or cells (place + 2) 0 ∷ drop (place + 3) cells))
three_cells cells place h =
    drop-cons cells place 0 (omega arith)
    ∙ ap (λ (l : List ℕ). get_or cells place 0 ∷ l)
    (ap (λ (n : ℕ). drop n cells) (sym (add-one place)) ∙ drop-cons cells (place + 1) 0 (omega arith)
    ∙ ap (λ (l : List ℕ). get_or cells (place + 1) 0 ∷ l)
    (ap (λ (n : ℕ). drop n cells) (let e : suc (place + 1) ≡ place + 2 = omega arith in e) ∙ drop-cons cells (place + 2) 0 (omega arith)
    ∙ ap (λ (n : ℕ). get_or cells (place + 2) 0 ∷ drop n cells) (let e : suc (place + 2) ≡ place + 3 = omega arith in e)))

-- What the answers still to come are.
abbrev pub still_to : List ℕ → Device → ℕ → List ℕ
still_to cells device place = map packed (says_to device (events_of (drop place cells)))

-- What holds whenever the loop's test is reached: so many events are taken.
pub record Running (cells before list : List ℕ) (plain : PlainRecord) (taken : ℕ) : Type 0 where
  pub done : List ℕ
  pub long : length done ≡ taken
  pub most : 3 * taken ≤ length cells
  pub contents : list ≡ done ++ drop taken before
  pub whole : answers_to cells ≡ done ++ still_to cells (device_of plain) (3 * taken)

pub start : (cells before : List ℕ) (plain : PlainRecord) → plain ≡ record_of fresh_device → Running cells before before plain 0
start cells before plain fresh =
    record { done = []; long = refl; most = omega arith; contents = refl; whole = ap (λ (d : Device). map packed (says_to d (events_of cells))) (sym (ap device_of fresh ∙ comes_back fresh_device)) }

-- The list keeps its length.
pub same_long : (cells before list : List ℕ) (plain : PlainRecord) (taken : ℕ) → Running cells before list plain taken
    → length (events_of cells) ≤ length before → length list ≡ length before
same_long cells before list plain taken g enough =
    let n = count_events cells in
    let all = ap length g.contents ∙ length-append g.done (drop taken before) in
    let d = length-drop taken before in
    let l = g.long in
    let m = g.most in omega arith

-- What is due at an event.
abbrev pub due_at : PlainRecord → EventNumbers → Due
due_at plain event = step_on_record event.kind event.clock event.argument plain

module _ (cells before list : List ℕ) (plain : PlainRecord) (taken : ℕ) (g : Running cells before list plain taken) (h : taken < length cells / 3)
  where
    -- What is due at the event that the loop takes next.
    abbrev due_next : Due
    due_next = due_at plain (numbers_at cells (3 * taken))

    pub inside : 3 * taken + 3 ≤ length cells
    inside = omega arith

    next_answers : still_to cells (device_of plain) (3 * taken) ≡ packed due_next.says ∷ still_to cells due_next.device (3 * (taken + 1))
    unfolding events_of says_to
    next_answers =
        ap (λ (l : List ℕ). map packed (says_to (device_of plain) (events_of l))) (three_cells cells (3 * taken) inside)
        ∙ ap (λ (n : ℕ). packed due_next.says ∷ still_to cells due_next.device n) (let e : 3 * taken + 3 ≡ 3 * (taken + 1) = omega arith in e)

    pub turn : (event : EventNumbers) (answer : ℕ) (after : PlainRecord) → event ≡ numbers_at cells (3 * taken) → Tells (record { answer = answer; after = after }) (due_at plain event) → length (events_of cells) ≤ length before
        → Running cells before (set list taken answer) after (taken + 1)
    turn event answer after next came enough =
        record { done = g.done ++ (answer ∷ []); long = longer; most = (let m = g.most in omega arith); contents = contents_more; whole = whole_more }
      where
        told : Tells (record { answer = answer; after = after }) due_next
        told = subst (λ (e : EventNumbers). Tells (record { answer = answer; after = after }) (due_at plain e)) next came

        fits : taken < length before
        fits = let n = count_events cells in omega arith

        longer : length (g.done ++ (answer ∷ [])) ≡ taken + 1
        longer = length-append g.done (answer ∷ []) ∙ ap (λ (n : ℕ). n + 1) g.long

        contents_more : set list taken answer ≡ (g.done ++ (answer ∷ [])) ++ drop (taken + 1) before
        contents_more =
            ap (λ (l : List ℕ). set l taken answer) (g.contents ∙ ap (λ (l : List ℕ). g.done ++ l) (drop-cons before taken 0 fits))
            ∙ set_at g.done (get_or before taken 0) (drop (suc taken) before) answer taken g.long
            ∙ ap (λ (n : ℕ). g.done ++ (answer ∷ drop n before)) (sym (add-one taken))
            ∙ sym (append_assoc g.done (answer ∷ []) (drop (taken + 1) before))

        whole_more : answers_to cells ≡ (g.done ++ (answer ∷ [])) ++ still_to cells (device_of after) (3 * (taken + 1))
        whole_more =
            g.whole
            ∙ ap (λ (l : List ℕ). g.done ++ l) next_answers
            ∙ ap₂ (λ (x : ℕ) (d : Device). g.done ++ (x ∷ still_to cells d (3 * (taken + 1)))) (sym told.answer) (sym told.device)
            ∙ sym (append_assoc g.done (answer ∷ []) (still_to cells (device_of after) (3 * (taken + 1))))

-- After all events the list has all answers.
pub finish : (cells before list : List ℕ) (plain : PlainRecord) (taken : ℕ) → Running cells before list plain taken → length cells / 3 ≤ taken
    → list ≡ put_at 0 (answers_to cells) before
unfolding says_to
finish cells before list plain taken g h =
    g.contents
    ∙ ap₂ (λ (l : List ℕ) (n : ℕ). l ++ drop n before) (sym all_done) (sym g.long ∙ ap length (sym all_done))
    ∙ sym (put_at_start (answers_to cells) before)
  where
    none_left : events_of (drop (3 * taken) cells) ≡ []
    none_left = no_event (drop (3 * taken) cells) (let d = length-drop (3 * taken) cells in omega arith)

    all_done : answers_to cells ≡ g.done
    all_done = g.whole ∙ ap (λ (events : List Event). g.done ++ map packed (says_to (device_of plain) events)) none_left ∙ append-nil g.done

-- Without room the call refuses and the list is kept;
pub too_few : (cells list : List ℕ) → length list < length cells / 3 → run_of cells list ≡ kept Room list
unfolding run_of
too_few cells list h = rw (lt-leb (length (events_of cells)) (length list) (subst (λ (k : ℕ). length list < k) (sym (count_events cells)) h))

-- and with room
pub has_room : (cells list : List ℕ) → length cells / 3 ≤ length list → length (events_of cells) ≤ length list
has_room cells list h = let n = count_events cells in omega arith

-- the answers stand in it.
pub all_answered : (cells list : List ℕ) → length cells / 3 ≤ length list
    → run_of cells list ≡ leaving (number (length cells / 3)) (put_at 0 (answers_to cells) list)
unfolding run_of
all_answered cells list h =
    rw (le-leb (length (events_of cells)) (length list) (has_room cells list h))
    (ap (λ (n : ℕ). leaving (number n) (put_at 0 (answers_to cells) list)) (count_events cells))
