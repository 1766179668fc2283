-- 01, "The line": "A capture is a lent list of readings; reading starts at a place in the capture that the caller names, with a fresh reader."
use Rattle.std.specs.Prelude.{ℕ, zero, suc, ◌+◌, Bool, true, false, List, [], ◌∷◌, length, drop, if◌then◌else◌, Option, Some, None, Result, Ok, Err}
use Rattle.answers.specs.Choices.{◌<?◌, ◌=?◌}
use Rattle.answers.specs.Answers.{Said, nothing, refused}
use Rattle.answers.specs.declared.Refusal.{Refusal}
use Rattle.answers.specs.declared.Refusal.TheVariants as refusal
use Rattle.line_mode.specs.declared.modes.LineMode.{LineMode}
use Rattle.line_reader.specs.declared.endings.Broken.TheVariants.{Cut}
use Rattle.line_reader.specs.declared.reader.Reader.{Reader}
use Rattle.line_reader.specs.declared.reader.Reader.TheVariants.{Fresh, Open, Dropping}
use Rattle.line_captures.specs.declared.captures.Attempt.{Attempt}
use Rattle.line_mode.specs.Modes.{mode_of, by_mode}
use Rattle.line_reader.specs.Endings.{said_of_ending, Ending, Heard}
use Rattle.line_reader.specs.Reading.{edge_of}

-- What the read call brings: a refusal, no attempt, or the first one.
abbrev pub ReadOutcome : Type 0
ReadOutcome = Result (Option Attempt) Refusal

-- An attempt: how it ends, and where the next one opens.
abbrev pub attempt : Ending → (next : ℕ) → ReadOutcome
attempt ending next = Ok (Some (record { ending = ending; next = next }))

-- What the read call says. "It answers nothing if the place is the length", and else "the first attempt's outcome"; or a refusal.
abbrev pub said_of_read : ReadOutcome → Said
said_of_read (Err refusal) = refused refusal
said_of_read (Ok None) = nothing
said_of_read (Ok (Some attempt)) = said_of_ending attempt.ending

-- Whether an attempt is open.
abbrev pub is_open : Reader → Bool
is_open Fresh = false
is_open (Open at last bits) = true
is_open (Dropping last) = false

-- "where the next attempt opens, or the length if none does": the place of the first edge that leaves the reader with an open attempt,
-- where the edges of the list stand at the places from `at` on.
unfoldable pub opens_at : (mode : LineMode) (reader : Reader) (edges : List ℕ) (at : ℕ) → ℕ
opens_at mode reader [] at = at
opens_at mode reader (x ∷ rest) at =
    let after = (edge_of mode reader x).reader in
    if is_open after then at
    else opens_at mode after rest (at + 1)

-- An edge of an attempt: the attempt goes on, or it has ended, and `next` is where the next one opens, or the length.
abbrev pub ends_at : Heard → (goes_on : ReadOutcome) (next : ℕ) → ReadOutcome
ends_at None goes_on next = goes_on
ends_at (Some ending) goes_on next = attempt ending next

-- "the first attempt's outcome, the end of the capture counting as quiet": how it ends at the first edge that ends it; at the end of the
-- list, Cut. The next attempt opens at the edge that ends this one, as "that edge opens the next" after Cut, or at a later one, or none does. (The read call
-- asks this of a fresh reader and at least one edge, so an attempt is open at the end of the list.)
unfoldable pub attempt_of : (mode : LineMode) (reader : Reader) (edges : List ℕ) (at : ℕ) → ReadOutcome
attempt_of mode reader [] at = attempt (Err Cut) (opens_at mode reader [] at)
attempt_of mode reader (x ∷ rest) at =
    ends_at (edge_of mode reader x).heard (attempt_of mode (edge_of mode reader x).reader rest (at + 1)) (opens_at mode reader (x ∷ rest) at)

-- The read call in a mode. Row 12 of the refusals, Room: "place past the end";
unfoldable pub read_in : (mode : LineMode) (capture : List ℕ) (place : ℕ) → ReadOutcome
read_in mode capture place =
    if length capture <? place then Err refusal.Room
    else if place =? length capture then Ok None
    else attempt_of mode Fresh (drop place capture) place

-- and by the mode's number. Row 14, Mode: "not 0 or 1".
unfoldable pub read_of : (mode : ℕ) (capture : List ℕ) (place : ℕ) → ReadOutcome
read_of mode capture place = by_mode (mode_of mode) (λ m. read_in m capture place) (Err refusal.Mode)

-- An attempt's ending, and those from the next place on.
abbrev pub onwards : (outcome : ReadOutcome) (from : ℕ → List Ending) → List Ending
onwards (Err refusal) from = []
onwards (Ok None) from = []
onwards (Ok (Some attempt)) from = attempt.ending ∷ from attempt.next

-- How each attempt of a capture ends, in order: the read call goes from place to next place, until it brings no attempt. The first argument
-- bounds the number of calls; each next place is greater than the place, so as many as there are readings suffice.
unfoldable pub attempts_from : (most mode : ℕ) (capture : List ℕ) (place : ℕ) → List Ending
attempts_from zero mode capture place = []
attempts_from (suc most) mode capture place = onwards (read_of mode capture place) (attempts_from most mode capture)

unfoldable pub attempts : (mode : ℕ) (capture : List ℕ) → List Ending
attempts mode capture = attempts_from (length capture) mode capture 0
