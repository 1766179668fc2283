-- The customer's demand 2, for the line. 01, "What the promises have to say": "pages within the windows must be read". They are read as themselves,
-- and nothing else is read as a page.
use Rattle.std.specs.Prelude.{ℕ, ◌+◌, ◌-◌, ◌^◌, ◌<◌, ◌≤◌, ◌≡◌, Bool, true, length, drop, if◌then◌else◌, Some, None, Ok, Err}
use mathlib.Core.List.{List, [], ◌∷◌, ◌++◌, Forall₂}
use Rattle.answers.specs.Choices.{◌≤?◌}
use Rattle.answers.specs.Answers.{number, page_read}
use Rattle.line_mode.specs.declared.modes.LineMode.{LineMode}
use Rattle.line_mode.specs.Clock.{time_between}
use Rattle.line_mode.specs.Gaps.{within}
use Rattle.line_writer.specs.Transitions.{transitions, readings, edge_count}
use Rattle.line_writer.specs.Writing.{write_of}
use Rattle.line_reader.specs.declared.endings.Broken.TheVariants.{Cut}
use Rattle.line_reader.specs.declared.reader.Reader.{Reader}
use Rattle.line_reader.specs.declared.reader.Reader.TheVariants.{Fresh}
use Rattle.line_reader.specs.Endings.{said_of_heard, Ending, Heard}
use Rattle.line_reader.specs.Reading.{edge_of, heard_along, reader_after}
use Rattle.line_captures.specs.Captures.{said_of_read, is_open, read_of, attempts_from, attempt}

-- What lies between each entry of a list and the one before it: between those behind x,
abbrev pub gaps_after : (between : ℕ → ℕ → ℕ) (x : ℕ) (behind : List ℕ) → List ℕ
gaps_after between x [] = []
gaps_after between x (y ∷ behind) = between y x ∷ gaps_after between y behind

-- and between all.
abbrev pub gaps : (between : ℕ → ℕ → ℕ) → List ℕ → List ℕ
gaps between [] = []
gaps between (x ∷ behind) = gaps_after between x behind

-- Edges that carry a word: one for each transition of its page, and between neighbours, k positions apart, a gap that "lies within k·spacing ±
-- tolerance, ends included". The first edge may stand at any reading. (`Forall₂` says that two lists are as long as each other, and that this holds of
-- each entry of the one and the entry at its place in the other.)
abbrev pub Carries : LineMode → (word : ℕ) (edges : List ℕ) → Type 0
Carries m w edges = Forall₂ (λ k gap. within m k gap ≡ true) (gaps ◌-◌ (transitions m w)) (gaps time_between edges)

-- The first of two at every edge but the last, and there the second.
abbrev pub only_last : {A : Type 0} (before : A) (edges : List ℕ) (last : A) → List A
only_last before [] last = []
only_last before (x ∷ []) last = last ∷ []
only_last before (x ∷ y ∷ edges) last = before ∷ only_last before (y ∷ edges) last

-- Where an attempt may open: at the first edge of all, and at one that "follows a quiet gap", by the edges before it and its own reading.
abbrev pub opens_after : LineMode → (before : List ℕ) (x : ℕ) → Bool
opens_after m [] x = true
opens_after m (last ∷ []) x = m.quiet ≤? time_between x last
opens_after m (y ∷ z ∷ before) x = opens_after m (z ∷ before) x

-- Edges that end with some that carry a word, from one on where an attempt may open,
pub record EndsWith (m : LineMode) (w : ℕ) (edges : List ℕ) : Type 0 where
  pub before : List ℕ
  pub first : ℕ
  pub later : List ℕ
  pub whole : edges ≡ before ++ (first ∷ later)
  pub opened : opens_after m before first ≡ true
  pub word : w < 2 ^ 48
  pub carried : Carries m w (first ∷ later)

-- and edges that begin with some that carry a word.
pub record BeginsWith (m : LineMode) (w : ℕ) (edges : List ℕ) : Type 0 where
  pub page : List ℕ
  pub behind : List ℕ
  pub whole : edges ≡ page ++ behind
  pub word : w < 2 ^ 48
  pub carried : Carries m w page

-- How attempts ended, of what was heard edge by edge,
abbrev pub endings : List Heard → List Ending
endings [] = []
endings (None ∷ rest) = endings rest
endings (Some ending ∷ rest) = ending ∷ endings rest

-- and "the end of the capture counting as quiet": a Cut, if an attempt is open there.
abbrev pub ends_open : Reader → List Ending
ends_open reader = if is_open reader then (Err Cut) ∷ [] else []

-- What holds of a mode's number and the mode that it names.
pub record ReadingBack (mode : ℕ) (m : LineMode) : Type 0 where
  -- A page at nominal spacing lies within the windows, from any first reading on.
  pub nominal : (w first : ℕ) → Carries m w (readings m w first)
  -- Every word's page, each gap in its window, is read by a fresh reader: nothing is heard until its last edge, and there the word.
  pub fresh : (w : ℕ) (edges : List ℕ) → w < 2 ^ 48 → Carries m w edges → heard_along m Fresh edges ≡ only_last None edges (Some (Ok w))
  -- So it is after any other edges, if quiet lies between. "A quiet gap in an attempt ends it (Cut), and that edge opens the next"; with no attempt open,
  -- edges are dropped "until one follows a quiet gap; it opens an attempt".
  pub after_quiet : (past : List ℕ) (last x w : ℕ) (edges : List ℕ) → m.quiet ≤ time_between x last → w < 2 ^ 48 → Carries m w (x ∷ edges)
      → let reader = reader_after m Fresh (past ++ (last ∷ [])) in
      heard_along m reader (x ∷ edges) ≡ (if is_open reader then Some (Err Cut) else None) ∷ only_last None edges (Some (Ok w))
  -- No edges carry two words.
  pub one_word : (v w : ℕ) (edges : List ℕ) → v < 2 ^ 48 → w < 2 ^ 48 → Carries m v edges → Carries m w edges → v ≡ w
  -- Nothing else is read as a page: where a reader says a word, after whatever edges since it was fresh, the last edges carry it, and the
  -- first of these was the first of all or followed a quiet gap. "edges are dropped without an answer until one follows a quiet gap"
  pub nothing_else : (past : List ℕ) (x w : ℕ) → said_of_heard (edge_of m (reader_after m Fresh past) x).heard ≡ page_read w → EndsWith m w (past ++ (x ∷ []))
  -- The read call answers the page that stands at its place, whatever stands behind it,
  pub read : (capture : List ℕ) (place w : ℕ) → BeginsWith m w (drop place capture) → said_of_read (read_of mode capture place) ≡ page_read w
  -- and a page that it answers stands there.
  pub read_only : (capture : List ℕ) (place w : ℕ) → said_of_read (read_of mode capture place) ≡ page_read w → BeginsWith m w (drop place capture)
  -- What is written, at any place of any list with room for it and from any first reading on, is read back from that place.
  pub written : (list : List ℕ) (place w first : ℕ) → w < 2 ^ 48 → place + edge_count m w ≤ length list
      → ((write_of mode list place w first).says ≡ number (edge_count m w)) × (said_of_read (read_of mode (write_of mode list place w first).list place) ≡ page_read w)
  -- Reading goes forward and stays in the capture: inside it there is an attempt, and its next place,
  pub forward : (capture : List ℕ) (place : ℕ) → place < length capture
      → (ending : Ending) × (next : ℕ) × (read_of mode capture place ≡ attempt ending next) × (place < next) × (next ≤ length capture)
  -- and so ends: as many calls as there are edges left, each at the next place of the one before, tell each attempt once and in order, as a reader
  -- tells them edge by edge.
  pub each_once : (capture : List ℕ) (place more : ℕ) → length capture ≤ place + more
      → attempts_from more mode capture place ≡ endings (heard_along m Fresh (drop place capture)) ++ ends_open (reader_after m Fresh (drop place capture))
