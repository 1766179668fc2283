-- Reading back, beyond what ReadingBack says: the reader after a page, where the next attempt opens, how many edges a page has, and that a shift of the
-- clock is not seen; in one record, for the numbers of any mode whose windows lie apart, and so for 01's two modes.
use Rattle.std.specs.Prelude.{Some, Ok, Err}
use mathlib.Core.Path.{◌≡◌, sym, ap, ◌∙◌}
use mathlib.Core.List.{List, [], ◌∷◌, ◌++◌, append-nil}
use Prim.Native.Nat.{ℕ, ◌+◌, ◌*◌, ◌%◌, ◌^◌, ◌<◌, ◌≤◌}
use lib.ListN.{length, drop}
use Rattle.answers.specs.Answers.{put_at}
use Rattle.line_mode.specs.declared.modes.LineMode.{LineMode}
use Rattle.line_reader.specs.declared.endings.Broken.TheVariants.{Cut}
use Rattle.line_reader.specs.declared.reader.Step.{Step}
use Rattle.line_reader.specs.declared.reader.Reader.{Reader}
use Rattle.line_reader.specs.declared.reader.Reader.TheVariants.{Fresh, Open, Dropping}
use Rattle.line_mode.specs.Clock.{time_between}
use Rattle.line_mode.specs.Modes.{hsm_mode, lsm_mode}
use Rattle.line_writer.specs.Transitions.{reading_at, readings, edge_count}
use Rattle.line_reader.specs.Reading.{step, edge_of, reader_after}
use Rattle.line_reader.proofs.ClockShift.{later, edge_later}
use Rattle.line_mode.proofs.Windows.{Apart, hsm_apart, lsm_apart}
use Rattle.line_captures.specs.Captures.{opens_at, attempt_of, read_in, attempt}
use Rattle.line_captures.specs.ReadingBack.{Carries}
use Rattle.line_captures.proofs.EdgeRuns.{last_of}
use Rattle.line_captures.proofs.ReadBack.{as_many, opened_reads, fresh_reads, dropping_opens, open_opens}
use Rattle.line_captures.proofs.ReadCaptures.{page_answer}
use Rattle.line_captures.proofs.WriteThenRead.{written_read, placed_read}
use Rattle.line_captures.proofs.CaptureShift.{all_later, attempt_later}

pub record ReadsBack (m : LineMode) : Type 0 where
  -- After a page, edges are dropped.
  pub left : (w : ℕ) (edges : List ℕ) → w < 2 ^ 48 → Carries m w edges → reader_after m Fresh edges ≡ Dropping (last_of 0 edges)
  -- So they are where edges were dropped before it, and quiet lay between.
  pub quiet_left : (w last x : ℕ) (edges : List ℕ) → w < 2 ^ 48 → m.quiet ≤ time_between x last → Carries m w (x ∷ edges)
      → reader_after m (Dropping last) (x ∷ edges) ≡ Dropping (last_of x edges)
  -- An edge that follows quiet ends an open attempt, and opens the next.
  pub cut : (at last bits x : ℕ) → m.quiet ≤ time_between x last → edge_of m (Open at last bits) x ≡ step (Some (Err Cut)) (Open 1 x 0)
  -- Where a capture begins with a page, the next attempt is the next that opens behind it;
  pub captured : (w at : ℕ) (edges rest : List ℕ) → w < 2 ^ 48 → Carries m w edges
      → attempt_of m Fresh (edges ++ rest) at ≡ attempt (Ok w) (opens_at m (Dropping (last_of 0 edges)) rest (at + length edges))
  -- and if nothing follows, there is no next attempt.
  pub alone : (w at : ℕ) (edges : List ℕ) → w < 2 ^ 48 → Carries m w edges → attempt_of m Fresh edges at ≡ attempt (Ok w) (at + length edges)
  -- Edges that carry a word are as many as its page's transitions.
  pub as_many : (w : ℕ) (edges : List ℕ) → Carries m w edges → length edges ≡ edge_count m w
  -- Behind a page that is written, from any first reading, the next attempt is the next that opens, if four spacings are less than the clock's round;
  pub written : (w first at : ℕ) (rest : List ℕ) → w < 2 ^ 48 → 4 * m.spacing < 2 ^ 32
      → attempt_of m Fresh (readings m w first ++ rest) at
      ≡ attempt (Ok w) (opens_at m (Dropping (reading_at m.spacing first 157)) rest (at + edge_count m w))
  -- and so it is by the read call at the place where the write call put it, if there was room.
  pub placed_back : (list : List ℕ) (place w first : ℕ) → w < 2 ^ 48 → 4 * m.spacing < 2 ^ 32 → place + edge_count m w ≤ length list
      → read_in m (put_at place (readings m w first) list) place
      ≡ attempt (Ok w) (opens_at m (Dropping (reading_at m.spacing first 157)) (drop (place + edge_count m w) list) (place + edge_count m w))
  -- A shift of all readings modulo 2^32 is not seen: the same is heard, and the reader is shifted.
  pub shifted : (δ : ℕ) (r : Reader) (x : ℕ) → edge_of m (later δ r) ((x + δ) % 2 ^ 32) ≡ step (edge_of m r x).heard (later δ (edge_of m r x).reader)
  -- So a capture is answered alike, at whatever reading the clock stood.
  pub captures_shifted : (δ at : ℕ) (capture : List ℕ) → attempt_of m Fresh (all_later δ capture) at ≡ attempt_of m Fresh capture at

-- A capture that is a page and no more.
only_page : (m : LineMode) → Apart m → (w at : ℕ) (edges : List ℕ) → w < 2 ^ 48 → Carries m w edges
    → attempt_of m Fresh edges at ≡ attempt (Ok w) (at + length edges)
unfolding opens_at
only_page m apart w at edges word carried =
    ap (λ (l : List ℕ). attempt_of m Fresh l at) (sym (append-nil edges))
    ∙ page_answer m Fresh w (last_of 0 edges) at edges [] (fresh_reads m apart w word edges carried)

-- All of it holds for any numbers with windows apart,
pub reads_back : (m : LineMode) → Apart m → ReadsBack m
reads_back m apart =
    record {
      left = λ w edges word carried. (fresh_reads m apart w word edges carried).left;
      quiet_left = λ w last x edges word q carried.
          ap (λ (s : Step). reader_after m s.reader edges) (dropping_opens m apart last x q) ∙ (opened_reads m apart w word x edges carried).left;
      cut = λ at last bits x q. open_opens m apart last x q at bits;
      captured = λ w at edges rest word carried. page_answer m Fresh w (last_of 0 edges) at edges rest (fresh_reads m apart w word edges carried);
      alone = λ w at edges word carried. only_page m apart w at edges word carried;
      as_many = λ w edges carried. as_many m w edges carried;
      written = λ w first at rest word clock. written_read m apart clock w first word at rest;
      placed_back = λ list place w first word clock room. placed_read m apart clock w first word list place room;
      shifted = λ δ r x. edge_later m δ r x;
      captures_shifted = λ δ at capture. attempt_later m δ Fresh capture at;
    }

-- and so in 01's two modes.
pub hsm_reads_back : ReadsBack hsm_mode
hsm_reads_back = reads_back hsm_mode hsm_apart

pub lsm_reads_back : ReadsBack lsm_mode
lsm_reads_back = reads_back lsm_mode lsm_apart
