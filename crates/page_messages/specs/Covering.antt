-- 02, request 8: "Joined again they cover the run once."
use Rattle.std.specs.Prelude.{ℕ, ◌+◌, ◌*◌, ◌≤◌, ◌≡◌, Bool, false, ◌&&◌, List, [], ◌∷◌, map, length, take, drop, if◌then◌else◌}
use Rattle.answers.specs.Choices.{◌≤?◌, ◌<?◌}
use Rattle.page_messages.specs.Messages.{Message, pages_of, IsRun, messages_in}
use Rattle.page_messages.specs.Telling.{Told, told_from, message_cells, unformatted_first}

-- The pages that are named by what is told of a message: from its place on, a message page and as many unformatted ones as are told.
abbrev pub pages_named : (pages : List ℕ) (told : Told) → List ℕ
pages_named pages told = take (1 + told.count) (drop told.place pages)

-- Whether the page at a place is one of these,
abbrev pub holds : (at : ℕ) (told : Told) → Bool
holds at told = told.place ≤? at && at <? told.place + (1 + told.count)

-- and of how many messages' pages it is one.
unfoldable pub times_held : (at : ℕ) (told : List Told) → ℕ
times_held at [] = 0
times_held at (t ∷ later) = let others = times_held at later in if holds at t then 1 + others else others

pub record MessageRuns : Type 0 where
  -- Pages that do not have "an unformatted page first" are a run of the messages in them: joined again they are the pages, the first of each is a message page, and all
  -- others are unformatted.
  pub is_run : (pages : List ℕ) → unformatted_first pages ≡ false → IsRun pages (messages_in pages)
  -- They are a run of no others: two lists of such messages that join to the same pages are the same list.
  pub no_second : (pages : List ℕ) (first second : List Message) → IsRun pages first → IsRun pages second → first ≡ second
  -- Pages that have an unformatted page first are no run of any messages.
  pub no_run : (pages : List ℕ) (messages : List Message) → IsRun pages messages → unformatted_first pages ≡ false
  -- What is told of them names the messages' own pages in the run, in order,
  pub named : (pages : List ℕ) (messages : List Message) → IsRun pages messages → map (pages_named pages) (told_from 0 messages) ≡ map pages_of messages
  -- and each page of the run in just one message, and no place past the run.
  pub once : (pages : List ℕ) (messages : List Message) (at : ℕ) → IsRun pages messages
      → times_held at (told_from 0 messages) ≡ (if at <? length pages then 1 else 0)
  -- "three cells a message" (fixed interfaces); and at most as many messages as pages, so that 192 cells have room for those of 64 pages.
  pub three_cells : (pages : List ℕ) → length (message_cells pages) ≡ 3 * length (messages_in pages)
  pub at_most : (pages : List ℕ) → length (messages_in pages) ≤ length pages
