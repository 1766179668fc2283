-- 02, request 8: "The reader of a message hands over to the reader of its unformatted pages, which hands back at the next message." What the
-- first of them leaves to the second to tell. Only the contract of the second cites it, and no public one.
use Rattle.std.specs.Prelude.{ℕ, ◌+◌, List, ◌∷◌, length, drop}
use Rattle.page_messages.specs.Messages.{unformatted_ahead, messages_in}
use Rattle.page_messages.specs.Telling.{told_from, cells_of}

-- The cells that come after the code and the place of the message that stands at a place: the number of its unformatted pages, and the cells of all later messages.
unfoldable pub cells_after : (place : ℕ) (pages : List ℕ) → List ℕ
cells_after place pages =
    let later = drop (place + 1) pages in
    let count = length (unformatted_ahead later) in
    count ∷ cells_of (told_from (place + 1 + count) (messages_in later))
