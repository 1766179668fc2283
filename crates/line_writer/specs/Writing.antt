-- 01, "The line": "Writing puts a page's readings into a lent list from a named place on, at nominal spacing from a given first reading modulo
-- 2^32; it answers their number. All other entries keep their contents."
use Rattle.std.specs.Prelude.{ℕ, ◌+◌, List, length, if◌then◌else◌}
use Rattle.answers.specs.Choices.{◌<?◌}
use Rattle.answers.specs.Answers.{number, Leaves, leaving, put_at, kept}
use Rattle.answers.specs.declared.Refusal.TheVariants.{Room, Wide, Mode}
use Rattle.page_word.specs.Word.{is_wide}
use Rattle.line_mode.specs.declared.modes.LineMode.{LineMode}
use Rattle.line_mode.specs.Modes.{mode_of, by_mode}
use Rattle.line_writer.specs.Transitions.{readings, edge_count}

-- In a mode: Wide before Room. Row 12 of the refusals, Room: "place past the end; writing: entries from it on fewer than the page's".
unfoldable pub write_in : (mode : LineMode) (list : List ℕ) (place word first : ℕ) → Leaves
write_in mode list place word first =
    if is_wide word then kept Wide list
    else if length list <? place + edge_count mode word then kept Room list
    else leaving (number (edge_count mode word)) (put_at place (readings mode word first) list)

-- The write call. "Order: Mode, Wide, Room."
unfoldable pub write_of : (mode : ℕ) (list : List ℕ) (place word first : ℕ) → Leaves
write_of mode list place word first = by_mode (mode_of mode) (λ m. write_in m list place word first) (kept Mode list)
