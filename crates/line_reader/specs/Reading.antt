-- 01, "The line": "Reading goes edge by edge."
use Rattle.line_reader.specs.Endings.{Ending, Heard}
use Rattle.std.specs.Prelude.{ℕ, ◌+◌, ◌/◌, ◌%◌, ◌^◌, List, [], ◌∷◌, if◌then◌else◌, Some, None, Ok, Err}
use Rattle.answers.specs.Choices.{◌=?◌}
use Rattle.page_check_bits.specs.CheckBits.{agrees}
use Rattle.line_mode.specs.declared.modes.LineMode.{LineMode}
use Rattle.line_mode.specs.declared.modes.Judgement.{Judgement}
use Rattle.line_mode.specs.declared.modes.Judgement.TheVariants.{Positions, Quiet, Unfit}
use Rattle.line_reader.specs.declared.endings.Broken.TheVariants.{Gap, Cut, Check}
use Rattle.line_reader.specs.declared.reader.Reader.{Reader}
use Rattle.line_reader.specs.declared.reader.Reader.TheVariants.{Fresh, Open, Dropping}
use Rattle.line_reader.specs.declared.reader.Step.{Step}
use Rattle.line_mode.specs.Clock.{time_between}
use Rattle.line_mode.specs.Gaps.{judgement_of}
use Rattle.line_page.specs.Pattern.{is_clock}
use Rattle.line_reader.specs.Pattern.{asks}

-- What an edge brings: what is heard of it, and the reader afterwards.
abbrev pub step : Heard → Reader → Step
step heard reader = record { heard = heard; reader = reader }

-- The reader after an edge that opens an attempt: it stands at position 1, and no bits have come.
abbrev pub opening : (reading : ℕ) → Reader
opening reading = Open 1 reading 0

-- The bits that have come, in a number of 64 bits: a new one enters at the top and moves the others one down, so that after 64 the first
-- that came is the lowest, and nothing is left of what the number held before. "after a clock, two positions is a zero, one is a one"
abbrev pub with_bit : (at k bits : ℕ) → ℕ
with_bit at k bits = if is_clock at then bits / 2 + (if k =? 1 then 2 ^ 63 else 0) else bits

-- "good if the check bits agree, else Check"
abbrev pub page_end : (bits : ℕ) → Ending
page_end bits = if agrees bits then Ok (bits % 2 ^ 48) else (Err Check)

-- A gap that the pattern asked for: the edge stands at its position. "The edge at 157 ends it".
unfoldable pub arrives : (at bits reading : ℕ) → Step
arrives at bits reading =
    if at =? 157 then step (Some (page_end bits)) (Dropping reading)
    else step None (Open at reading bits)

-- A further edge, by its gap. "A quiet gap in an attempt ends it (Cut), and that edge opens the next. Any other wrong gap ends it (Gap)."
unfoldable pub goes_on : (mode : LineMode) (at bits reading : ℕ) → Judgement → Step
goes_on mode at bits reading Quiet = step (Some (Err Cut)) (opening reading)
goes_on mode at bits reading Unfit = step (Some (Err Gap)) (Dropping reading)
goes_on mode at bits reading (Positions k) =
    if asks mode at k then arrives (at + k) (with_bit at k bits) reading
    else step (Some (Err Gap)) (Dropping reading)

-- "After Gap, Check or a good page, edges are dropped without an answer until one follows a quiet gap; it opens an attempt."
unfoldable pub drops_on : (reading : ℕ) → Judgement → Step
drops_on reading Quiet = step None (opening reading)
drops_on reading Unfit = step None (Dropping reading)
drops_on reading (Positions k) = step None (Dropping reading)

-- What an edge brings to a reader. "A fresh reader takes the next edge as position 1 and opens an attempt."
unfoldable pub edge_of : (mode : LineMode) (reader : Reader) (reading : ℕ) → Step
edge_of mode Fresh reading = step None (opening reading)
edge_of mode (Open at last bits) reading = goes_on mode at bits reading (judgement_of mode (time_between reading last))
edge_of mode (Dropping last) reading = drops_on reading (judgement_of mode (time_between reading last))

-- "Reading goes edge by edge." What is heard at each edge of a list,
abbrev pub heard_along : (mode : LineMode) (reader : Reader) (readings : List ℕ) → List Heard
heard_along mode reader [] = []
heard_along mode reader (x ∷ rest) = (edge_of mode reader x).heard ∷ heard_along mode (edge_of mode reader x).reader rest

-- and the reader after all of them.
abbrev pub reader_after : (mode : LineMode) (reader : Reader) (readings : List ℕ) → Reader
reader_after mode reader [] = reader
reader_after mode reader (x ∷ rest) = reader_after mode (edge_of mode reader x).reader rest
