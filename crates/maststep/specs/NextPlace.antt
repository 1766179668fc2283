-- What the read call leaves at `*next`: where the next attempt opens; "on 14 and 12 it is left as it was" (fixed interfaces); at the capture's end, the place.
use Rattle.line_captures.specs.Captures.{ReadOutcome}
use Rattle.std.specs.Prelude.{ℕ, Some, None, Ok, Err}

abbrev pub next_left : ReadOutcome → (place old : ℕ) → ℕ
next_left (Err refusal) place old = old
next_left (Ok None) place old = place
next_left (Ok (Some attempt)) place old = attempt.next
