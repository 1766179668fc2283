-- 02, request 8: "A run of at most 64 heard pages is a message page, the unformatted pages that belong to it, then the next message page, and so on; each message ends
-- where the next begins."
use Rattle.std.specs.Prelude.{ℕ, ◌≡◌, Bool, true, not, ◌&&◌, List, [], ◌∷◌, ◌++◌, if◌then◌else◌}
use Rattle.page_word.specs.Word.{has_bit}
use Rattle.page_word.specs.Fields.{part}

-- 02, request 7, "Layouts": of a message page "D13 one"; "unformatted page D13 zero".
abbrev pub is_message_page : (page : ℕ) → Bool
is_message_page page = has_bit page 13

-- "message page D0-10 code"
abbrev pub code_of : (page : ℕ) → ℕ
code_of page = part 0 11 page

-- A message: "a message page, the unformatted pages that belong to it". That its pages are of these kinds is asked by `are_messages`.
pub record Message : Type 0 where
  pub page : ℕ
  pub unformatted : List ℕ

-- All its pages,
abbrev pub pages_of : (message : Message) → List ℕ
pages_of m = m.page ∷ m.unformatted

-- and those of several messages: "Joined again".
unfoldable pub joined : (messages : List Message) → List ℕ
joined [] = []
joined (m ∷ later) = pages_of m ++ joined later

-- Whether no page of a list is a message page.
unfoldable pub all_unformatted : (pages : List ℕ) → Bool
all_unformatted [] = true
all_unformatted (page ∷ later) = not (is_message_page page) && all_unformatted later

-- Whether each of several messages is "a message page, the unformatted pages that belong to it".
unfoldable pub are_messages : (messages : List Message) → Bool
are_messages [] = true
are_messages (m ∷ later) = (is_message_page m.page && all_unformatted m.unformatted) && are_messages later

-- That pages are a run of these messages. ("at most 64" is asked by the call, in `Telling`.)
pub record IsRun (pages : List ℕ) (messages : List Message) : Type 0 where
  pub each : are_messages messages ≡ true
  pub again : joined messages ≡ pages

-- The unformatted pages that a list begins with: those ahead of its first message page, or all if it has none.
unfoldable pub unformatted_ahead : (pages : List ℕ) → List ℕ
unformatted_ahead [] = []
unformatted_ahead (page ∷ later) = if is_message_page page then [] else page ∷ unformatted_ahead later

-- The messages in a list of pages, "each message ends where the next begins": each message page begins one, and the unformatted pages ahead of the next message page
-- belong to it. Unformatted pages ahead of the first message page belong to none. That pages without such ones are a run of these messages, and of no others, is said
-- in `Covering`.
unfoldable pub messages_in : (pages : List ℕ) → List Message
messages_in [] = []
messages_in (page ∷ later) =
    let others = messages_in later in
    if is_message_page page then record { page = page; unformatted = unformatted_ahead later } ∷ others else others
