-- The messages in a list of pages are the only ones that join to it, and what is told of them names each page once.
use mathlib.Core.Path.{◌≡◌, refl, sym, ap, ap₂, ◌∙◌}
use mathlib.Core.Bool.{Bool, true, false, cond, not, ◌&&◌}
use mathlib.Core.List.{List, [], ◌∷◌, ◌++◌, map, append_assoc}
use Prim.Native.Nat.{ℕ, suc, ◌+◌, ◌<◌, ◌≤◌}
use native.Mathlib.Nat.{zero-add}
use native.Mathlib.Omega.{arith}
use lib.Dec.{leb, ltb}
use lib.ListN.{length, take, drop, length-append}
use lib.Seq.{take-append_seam, drop-append_seam}
use borrow.Author.Tests.{le-leb, lt-leb, lt-ltb, le-ltb, ltb-true, ltb-false, not-true, not-false}
use Rattle.page_word.proofs.ComputedTest.{and_left, and_right}
use Rattle.page_messages.specs.Messages.{is_message_page, Message, pages_of, joined, all_unformatted, are_messages, IsRun, unformatted_ahead, messages_in}
use Rattle.page_messages.specs.Telling.{told_from, unformatted_first}
use Rattle.page_messages.specs.Covering.{pages_named, times_held, MessageRuns}
use Rattle.page_messages.proofs.Looking.{ahead_unformatted, ahead_and_rest, passed, at_most}
use Rattle.page_messages.proofs.Handing.{three_each}

whole_in : (l : List ℕ) → are_messages (messages_in l) ≡ true
unfolding are_messages messages_in
whole_in [] = refl
whole_in (page ∷ later) = by (is_message_page page) refl (whole_in later)
  where
    by : (t : Bool) → is_message_page page ≡ t → are_messages (messages_in later) ≡ true
        → are_messages (cond t (record { page = page; unformatted = unformatted_ahead later } ∷ messages_in later) (messages_in later)) ≡ true
    by true e h = rw (e, ahead_unformatted later) h
    by false e h = h

joined_in : (l : List ℕ) → joined (messages_in l) ≡ drop (length (unformatted_ahead l)) l
unfolding joined messages_in unformatted_ahead
joined_in [] = refl
joined_in (page ∷ later) = by (is_message_page page) (joined_in later)
  where
    by : (t : Bool) → joined (messages_in later) ≡ drop (length (unformatted_ahead later)) later
        → joined (cond t (record { page = page; unformatted = unformatted_ahead later } ∷ messages_in later) (messages_in later))
        ≡ drop (length (cond t [] (page ∷ unformatted_ahead later))) (page ∷ later)
    by true h = ap (λ (rest : List ℕ). page ∷ (unformatted_ahead later ++ rest)) h ∙ ap (λ (rest : List ℕ). page ∷ rest) (ahead_and_rest later)
    by false h = h

none_stray : (l : List ℕ) → unformatted_first l ≡ false → unformatted_ahead l ≡ []
unfolding unformatted_ahead
none_stray [] h = refl
none_stray (page ∷ later) h = rw (not-false (is_message_page page) h)

is_run : (pages : List ℕ) → unformatted_first pages ≡ false → IsRun pages (messages_in pages)
is_run pages h =
    record { each = whole_in pages; again = joined_in pages ∙ ap (λ (ahead : List ℕ). drop (length ahead) pages) (none_stray pages h) }

-- Unformatted pages before pages with none ahead are just those ahead.
led : (us rest : List ℕ) → all_unformatted us ≡ true → unformatted_ahead rest ≡ [] → unformatted_ahead (us ++ rest) ≡ us
unfolding all_unformatted unformatted_ahead
led [] rest h none = none
led (page ∷ us) rest h none =
    rw (not-true (is_message_page page) (and_left (not (is_message_page page)) (all_unformatted us) h))
    (ap (λ (l : List ℕ). page ∷ l) (led us rest (and_right (not (is_message_page page)) (all_unformatted us) h) none))

-- Of a list of messages: the first is one, and so are the others.
module _ (m : Message) (later : List Message) (whole : are_messages (m ∷ later) ≡ true) where
  first_whole : (is_message_page m.page && all_unformatted m.unformatted) ≡ true
  unfolding are_messages
  first_whole = and_left (is_message_page m.page && all_unformatted m.unformatted) (are_messages later) whole

  later_whole : are_messages later ≡ true
  unfolding are_messages
  later_whole = and_right (is_message_page m.page && all_unformatted m.unformatted) (are_messages later) whole

  page_is_one : is_message_page m.page ≡ true
  page_is_one = and_left (is_message_page m.page) (all_unformatted m.unformatted) first_whole

  others_are_none : all_unformatted m.unformatted ≡ true
  others_are_none = and_right (is_message_page m.page) (all_unformatted m.unformatted) first_whole

-- Messages joined begin with a message page, or are none.
begins : (messages : List Message) → are_messages messages ≡ true → unformatted_first (joined messages) ≡ false
unfolding joined
begins [] h = refl
begins (m ∷ later) h = ap not (page_is_one m later h)

-- Messages that are joined are found again.
found_again : (messages : List Message) → are_messages messages ≡ true → messages_in (joined messages) ≡ messages
unfolding joined messages_in
found_again [] h = refl
found_again (m ∷ later) h =
    rw (page_is_one m later h)
    (ap₂ {C = List Message} (λ (us : List ℕ) (messages : List Message). record { page = m.page; unformatted = us } ∷ messages)
    (led m.unformatted (joined later) (others_are_none m later h) (none_stray (joined later) (begins later (later_whole m later h))))
    (passed m.unformatted (joined later) (others_are_none m later h) ∙ found_again later (later_whole m later h)))

only : (pages : List ℕ) (messages : List Message) → IsRun pages messages → messages ≡ messages_in pages
only pages messages r = sym (found_again messages r.each) ∙ ap messages_in r.again

-- What is told of messages that stand behind other pages names their own pages.
own_pages : (before : List ℕ) (messages : List Message) → map (pages_named (before ++ joined messages)) (told_from (length before) messages) ≡ map pages_of messages
unfolding joined told_from
own_pages before [] = refl
own_pages before (m ∷ later) =
    ap₂ {C = List (List ℕ)} (λ (part : List ℕ) (parts : List (List ℕ)). part ∷ parts)
    (ap (take (1 + length m.unformatted)) (drop-append_seam before (pages_of m ++ joined later))
    ∙ ap (λ (n : ℕ). take n (pages_of m ++ joined later)) (let e : 1 + length m.unformatted ≡ suc (length m.unformatted) = omega arith in e)
    ∙ take-append_seam (pages_of m) (joined later))
    (ap₂ (λ (pages : List ℕ) (n : ℕ). map (pages_named pages) (told_from n later)) (sym (append_assoc before (pages_of m) (joined later))) (sym (length-append before (pages_of m)))
    ∙ own_pages (before ++ pages_of m) later)

-- A place ahead of all messages is held by none of them,
ahead_of_all : (k place : ℕ) (messages : List Message) → k < place → times_held k (told_from place messages) ≡ 0
unfolding times_held told_from
ahead_of_all k place [] h = refl
ahead_of_all k place (m ∷ later) h = rw (lt-leb place k h) (ahead_of_all k (place + suc (length m.unformatted)) later (omega arith))

-- one in them by one, and one past them by none.
held_once : (k place : ℕ) (messages : List Message) → place ≤ k → times_held k (told_from place messages) ≡ cond (ltb k (place + length (joined messages))) 1 0
unfolding times_held told_from joined
held_once k place [] h = rw (le-ltb k (place + 0) (omega arith))
held_once k place (m ∷ later) h =
    by (ltb k next) refl (ahead_of_all k next later) (held_once k next later)
  where
    next : ℕ
    next = place + suc (length m.unformatted)

    one_page_more : place + (1 + length m.unformatted) ≡ place + suc (length m.unformatted)
    one_page_more = omega arith

    both : place + length (pages_of m ++ joined later) ≡ place + suc (length m.unformatted) + length (joined later)
    both = let e = length-append (pages_of m) (joined later) in omega arith

    by : (t : Bool) → ltb k (place + suc (length m.unformatted)) ≡ t
        → (k < place + suc (length m.unformatted) → times_held k (told_from (place + suc (length m.unformatted)) later) ≡ 0)
        → (place + suc (length m.unformatted) ≤ k
        → times_held k (told_from (place + suc (length m.unformatted)) later) ≡ cond (ltb k (place + suc (length m.unformatted) + length (joined later))) 1 0)
        → cond (leb place k && ltb k (place + (1 + length m.unformatted))) (1 + times_held k (told_from (place + suc (length m.unformatted)) later)) (times_held k (told_from (place + suc (length m.unformatted)) later))
        ≡ cond (ltb k (place + length (pages_of m ++ joined later))) 1 0
    by true e ahead further =
        let inside = ltb-true k (place + suc (length m.unformatted)) e in
        let b = both in
        rw (le-leb place k h, one_page_more, e, ahead inside, lt-ltb k (place + length (pages_of m ++ joined later)) (omega arith))
    by false e ahead further =
        rw (le-leb place k h, one_page_more, e, both) (further (ltb-false k (place + suc (length m.unformatted)) e))

pub message_runs : MessageRuns
message_runs =
    record {
      is_run = is_run;
      no_second = λ pages first second r s. only pages first r ∙ sym (only pages second s);
      no_run = λ pages messages r. ap unformatted_first (sym r.again) ∙ begins messages r.each;
      named = λ pages messages r. ap (λ (l : List ℕ). map (pages_named l) (told_from 0 messages)) (sym r.again) ∙ own_pages [] messages;
      once = λ pages messages at r. held_once at 0 messages (omega arith) ∙ ap (λ (n : ℕ). cond (ltb at n) 1 0) (zero-add (length (joined messages)) ∙ ap length r.again);
      three_cells = λ pages. three_each 0 (messages_in pages);
      at_most = at_most;
    }
