-- 02, request 8: "Wanted: the list of messages, each with its code, first place and number of unformatted pages, in order."
use Rattle.std.specs.Prelude.{ℕ, ◌+◌, Bool, false, not, ◌||◌, List, [], ◌∷◌, length, if◌then◌else◌}
use Rattle.answers.specs.Choices.{◌<?◌}
use Rattle.answers.specs.Answers.{number, Leaves, leaving, put_at, kept}
use Rattle.answers.specs.declared.Refusal.TheVariants.{Room, Wide, Run, Length}
use Rattle.page_word.specs.Word.{is_wide}
use Rattle.page_messages.specs.Messages.{is_message_page, code_of, Message, pages_of, messages_in}

-- What is told of a message: its code, the place of its first page, and the number of its unformatted pages.
pub record Told : Type 0 where
  pub code : ℕ
  pub place : ℕ
  pub count : ℕ

-- What is told of messages, the first of which stands at a place: the next one stands as many places further on as this one has pages.
unfoldable pub told_from : (place : ℕ) (messages : List Message) → List Told
told_from place [] = []
told_from place (m ∷ later) =
    record { code = code_of m.page; place = place; count = length m.unformatted } ∷ told_from (place + length (pages_of m)) later

-- "three cells a message: code, first place (counted from 0), number of unformatted pages" (fixed interfaces)
unfoldable pub cells_of : (told : List Told) → List ℕ
cells_of [] = []
cells_of (t ∷ later) = t.code ∷ t.place ∷ t.count ∷ cells_of later

-- The cells of all messages in a list of pages.
abbrev pub message_cells : (pages : List ℕ) → List ℕ
message_cells pages = cells_of (told_from 0 (messages_in pages))

-- "13 Wide, any page of 2^48 or more"
unfoldable pub any_wide : (pages : List ℕ) → Bool
any_wide [] = false
any_wide (page ∷ later) = is_wide page || any_wide later

-- "24 Run, an unformatted page first"
abbrev pub unformatted_first : (pages : List ℕ) → Bool
unformatted_first [] = false
unformatted_first (page ∷ later) = not (is_message_page page)

-- What is told of a run: the number of its messages, and the cells of these from the list's first cell on; "then 12 if `room` is less than three cells a message; on a refusal
-- nothing is written, and cells past the last message stay as they were" (fixed interfaces).
unfoldable pub telling_of : (pages list : List ℕ) → Leaves
telling_of pages list =
    if length list <? length (message_cells pages) then kept Room list
    else leaving (number (length (messages_in pages))) (put_at 0 (message_cells pages) list)

-- The call. "An empty run gives an empty list. Refusals, in order: 25 Length, over 64; 13 Wide, any page of 2^48 or more; 24 Run, an unformatted page first. Each answers
-- no messages, and the run is only read." (It is lent to be read, as `&[u64]`.)
unfoldable pub messages_of : (pages list : List ℕ) → Leaves
messages_of pages list =
    if 64 <? length pages then kept Length list
    else if any_wide pages then kept Wide list
    else if unformatted_first pages then kept Run list
    else telling_of pages list
