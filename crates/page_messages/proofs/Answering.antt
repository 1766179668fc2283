-- What the call says and leaves, refusal by refusal, over the definitions alone.
use Rattle.std.specs.Prelude.{if◌then◌else◌}
use Rattle.page_messages.proofs.Handing.{three_each}
use Rattle.answers.specs.declared.Refusal.TheVariants.{Room, Wide, Run, Length}
use mathlib.Core.Path.{◌≡◌, refl, sym, ap, ap₂, ◌∙◌}
use mathlib.Core.Bool.{false, not, Bool, true}
use mathlib.Core.List.{List, [], ◌∷◌}
use Prim.Native.Nat.{ℕ, ◌<◌, ◌≤◌, ◌*◌}
use native.Mathlib.Omega.{arith}
use lib.ListN.{length, get_or}
use lib.Seq.{sets, sets-eq}
use borrow.Author.Tests.{le-ltb, lt-ltb}
use Rattle.answers.specs.Answers.{number, leaving, kept}
use Rattle.page_messages.specs.Messages.{is_message_page, messages_in}
use Rattle.page_messages.specs.Telling.{told_from, cells_of, any_wide, unformatted_first, telling_of, messages_of, message_cells}

-- The test of the first page, if there is one.
first_page : (pages : List ℕ) → 0 < length pages → unformatted_first pages ≡ not (is_message_page (get_or pages 0 0))
first_page [] h = absurd (omega arith)
first_page (page ∷ later) h = refl

no_first : (pages : List ℕ) → length pages ≡ 0 → unformatted_first pages ≡ false
no_first [] h = refl
no_first (page ∷ later) h = absurd (omega arith)

-- "An empty run gives an empty list."
empty_told : (pages list : List ℕ) → length pages ≡ 0 → leaving (number 0) list ≡ telling_of pages list
unfolding telling_of messages_in told_from cells_of
empty_told [] list h = rw (le-ltb (length list) 0 (omega arith))
empty_told (page ∷ later) list h = absurd (omega arith)

pub empty_run : (list : List ℕ) → messages_of [] list ≡ leaving (number 0) list
unfolding messages_of any_wide
empty_run list = sym (empty_told [] list refl)

module _ (pages list : List ℕ) where
  -- A run that is told, or has no room.
  module _ (count : ℕ) (counted : count ≡ length (messages_in pages)) where
    long : length (message_cells pages) ≡ 3 * count
    long = three_each 0 (messages_in pages) ∙ ap (λ (n : ℕ). 3 * n) (sym counted)

    pub no_room : length list < 3 * count → telling_of pages list ≡ kept Room list
    unfolding telling_of
    no_room h = rw (lt-ltb (length list) (length (message_cells pages)) (let l = long in omega arith))

    pub told : 3 * count ≤ length list → telling_of pages list ≡ leaving (number count) (sets list 0 (message_cells pages))
    unfolding telling_of
    told h =
        rw (le-ltb (length list) (length (message_cells pages)) (let l = long in omega arith))
        (ap₂ (λ (n : ℕ) (left : List ℕ). leaving (number n) left) (sym counted) (sym (sets-eq (message_cells pages) list 0 (let l = long in omega arith))))

  -- The call: each refusal, the empty run, and a run that begins with a message page.
  pub too_long : 64 < length pages → messages_of pages list ≡ kept Length list
  unfolding messages_of
  too_long h = rw (lt-ltb 64 (length pages) h)

  module _ (short : length pages ≤ 64) where
    pub wide : any_wide pages ≡ true → messages_of pages list ≡ kept Wide list
    unfolding messages_of
    wide w = rw (le-ltb 64 (length pages) short, w)

    module _ (narrow : any_wide pages ≡ false) where
      by_first : (t : Bool) → unformatted_first pages ≡ t → messages_of pages list ≡ (if t then kept Run list else telling_of pages list)
      unfolding messages_of
      by_first t f = rw (le-ltb 64 (length pages) short, narrow, f)

      pub empty : length pages ≡ 0 → messages_of pages list ≡ leaving (number 0) list
      empty n = by_first false (no_first pages n) ∙ sym (empty_told pages list n)

      module _ (some : 0 < length pages) where
        pub stray : is_message_page (get_or pages 0 0) ≡ false → messages_of pages list ≡ kept Run list
        stray t = by_first true (first_page pages some ∙ ap not t)

        pub begun : is_message_page (get_or pages 0 0) ≡ true → messages_of pages list ≡ telling_of pages list
        begun t = by_first false (first_page pages some ∙ ap not t)
