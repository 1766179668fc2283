-- The pages from a place on: what one more page brings to the messages, to the unformatted pages ahead and to the test for wide ones.
use mathlib.Core.Path.{◌≡◌, refl, sym, ap, ◌∙◌}
use mathlib.Core.Bool.{Bool, true, false, cond, not, ◌||◌, or-false}
use mathlib.Core.List.{List, [], ◌∷◌, ◌++◌}
use Prim.Native.Nat.{ℕ, ◌+◌, ◌^◌, ◌<◌, ◌≤◌}
use native.Mathlib.Omega.{arith}
use native.Mathlib.Numerals.{add-one}
use lib.Dec.{leb}
use lib.ListN.{length, drop, get_or, drop_of_length-le}
use lib.Seq.{drop-cons}
use Rattle.std.specs.List.{take_while}
use Rattle.std.proofs.lemmas.List.Sums.{take_while-cons}
use borrow.Author.Tests.{not-true}
use Rattle.page_word.proofs.ComputedTest.{and_left, and_right}
use Rattle.page_messages.specs.Messages.{is_message_page, all_unformatted, unformatted_ahead, messages_in}
use Rattle.page_messages.specs.Telling.{any_wide}

-- The pages ahead of the first message page are unformatted,
pub ahead_unformatted : (l : List ℕ) → all_unformatted (unformatted_ahead l) ≡ true
unfolding all_unformatted unformatted_ahead
ahead_unformatted [] = refl
ahead_unformatted (page ∷ later) = by (is_message_page page) refl (ahead_unformatted later)
  where
    by : (t : Bool) → is_message_page page ≡ t → all_unformatted (unformatted_ahead later) ≡ true → all_unformatted (cond t [] (page ∷ unformatted_ahead later)) ≡ true
    by true e h = refl
    by false e h = rw e h

-- and with what follows them they are all pages.
pub ahead_and_rest : (l : List ℕ) → unformatted_ahead l ++ drop (length (unformatted_ahead l)) l ≡ l
unfolding unformatted_ahead
ahead_and_rest [] = refl
ahead_and_rest (page ∷ later) = by (is_message_page page) (ahead_and_rest later)
  where
    by : (t : Bool) → unformatted_ahead later ++ drop (length (unformatted_ahead later)) later ≡ later
        → cond t [] (page ∷ unformatted_ahead later) ++ drop (length (cond t [] (page ∷ unformatted_ahead later))) (page ∷ later) ≡ page ∷ later
    by true h = refl
    by false h = ap (λ (rest : List ℕ). page ∷ rest) h

-- In std's words they are what comes before the first that passes the test.
pub ahead_by_test : (l : List ℕ) → unformatted_ahead l ≡ take_while (λ page. not (is_message_page page)) l
unfolding unformatted_ahead
ahead_by_test [] = refl
ahead_by_test (page ∷ later) = rw take_while-cons (by (is_message_page page) (ahead_by_test later))
  where
    by : (t : Bool) → unformatted_ahead later ≡ take_while (λ page. not (is_message_page page)) later
        → cond t [] (page ∷ unformatted_ahead later) ≡ cond (not t) (page ∷ take_while (λ page. not (is_message_page page)) later) []
    by true h = refl
    by false h = ap (λ (rest : List ℕ). page ∷ rest) h

-- Unformatted pages make no message;
pub passed : (us rest : List ℕ) → all_unformatted us ≡ true → messages_in (us ++ rest) ≡ messages_in rest
unfolding all_unformatted messages_in
passed [] rest h = refl
passed (page ∷ us) rest h =
    rw (not-true (is_message_page page) (and_left (not (is_message_page page)) (all_unformatted us) h))
    (passed us rest (and_right (not (is_message_page page)) (all_unformatted us) h))

-- so those ahead of the first message page make none,
pub skipped : (l : List ℕ) → messages_in (drop (length (unformatted_ahead l)) l) ≡ messages_in l
skipped l = sym (passed (unformatted_ahead l) (drop (length (unformatted_ahead l)) l) (ahead_unformatted l)) ∙ ap messages_in (ahead_and_rest l)

-- and what stands behind them, if anything does, is a message page.
pub ends : (l : List ℕ) → length (unformatted_ahead l) < length l → is_message_page (get_or l (length (unformatted_ahead l)) 0) ≡ true
unfolding unformatted_ahead
ends [] h = absurd (omega arith)
ends (page ∷ later) h = by (is_message_page page) refl (ends later) h
  where
    by : (t : Bool) → is_message_page page ≡ t
        → (length (unformatted_ahead later) < length later → is_message_page (get_or later (length (unformatted_ahead later)) 0) ≡ true)
        → length (cond t [] (page ∷ unformatted_ahead later)) < length (page ∷ later)
        → is_message_page (get_or (page ∷ later) (length (cond t [] (page ∷ unformatted_ahead later))) 0) ≡ true
    by true e further k = e
    by false e further k = further (omega arith)

module _ (l : List ℕ) (at : ℕ) where
  -- At the end there is nothing left.
  pub no_message_left : length l ≤ at → messages_in (drop at l) ≡ []
  unfolding messages_in
  no_message_left h = rw (drop_of_length-le l h)

  pub all_found : (wide : Bool) → (wide || any_wide (drop at l)) ≡ any_wide l → length l ≤ at → wide ≡ any_wide l
  unfolding any_wide
  all_found wide found h = sym (or-false wide) ∙ ap (λ (rest : List ℕ). wide || any_wide rest) (sym (drop_of_length-le l h)) ∙ found

  module _ (inside : at < length l) where
    here : drop at l ≡ get_or l at 0 ∷ drop (at + 1) l
    here = rw (add-one, drop-cons l at 0)

    -- At a message page: one message more.
    pub message_here : is_message_page (get_or l at 0) ≡ true
        → messages_in (drop at l) ≡ record { page = get_or l at 0; unformatted = unformatted_ahead (drop (at + 1) l) } ∷ messages_in (drop (at + 1) l)
    unfolding messages_in
    message_here t = rw (here, t)

    -- At any page: it counts as a message or not,
    pub one_counted : length (messages_in (drop at l)) ≡ cond (is_message_page (get_or l at 0)) 1 0 + length (messages_in (drop (at + 1) l))
    unfolding messages_in
    one_counted = rw here (by (is_message_page (get_or l at 0)))
      where
        by : (t : Bool)
            → length (cond t (record { page = get_or l at 0; unformatted = unformatted_ahead (drop (at + 1) l) } ∷ messages_in (drop (at + 1) l)) (messages_in (drop (at + 1) l)))
            ≡ cond t 1 0 + length (messages_in (drop (at + 1) l))
        by true = omega arith
        by false = omega arith

    -- and is wide or not.
    pub one_wide : any_wide (drop at l) ≡ (leb (2 ^ 48) (get_or l at 0) || any_wide (drop (at + 1) l))
    unfolding any_wide
    one_wide = rw here

-- There are at most as many messages as pages.
pub at_most : (l : List ℕ) → length (messages_in l) ≤ length l
unfolding messages_in
at_most [] = omega arith
at_most (page ∷ later) = by (is_message_page page) (at_most later)
  where
    by : (t : Bool) → length (messages_in later) ≤ length later
        → length (cond t (record { page = page; unformatted = unformatted_ahead later } ∷ messages_in later) (messages_in later)) ≤ length (page ∷ later)
    by true h = omega arith
    by false h = omega arith
