-- A text that grows at the head of some bytes: that it has room for more, and what a piece more makes of it.
use Rattle.std.specs.Prelude.{ℕ, ◌+◌, ◌≤◌, ◌≡◌, List, length}
use Rattle.bench_listing.specs.declared.text.Text.{Text}
use Rattle.bench_listing.specs.Calls.{Puts}

-- That so many bytes are left behind the text.
abbrev pub HasRoom : (text : Text) (more : ℕ) → Type 0
HasRoom text more = text.length + more ≤ length text.bytes.now

-- That these bytes were put behind the text, and belong to it afterwards.
pub record Adds (before : Text) (piece : List ℕ) (after : Text) : Type 0 where
  pub same : after.bytes.ghost_name ≡ before.bytes.ghost_name
  pub puts : Puts before.bytes.now before.length piece after.bytes.now after.length
