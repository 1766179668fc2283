-- Pages are read back, and nothing else is read as a page: ReadingBack holds over any numbers whose windows lie apart, and so in 01's two modes.
use Rattle.answers.specs.declared.Refusal.TheVariants as refusal
use Rattle.line_reader.specs.Endings.{Heard}
use Rattle.std.specs.Prelude.{Option, Some, None, Ok, Err}
use mathlib.Core.Path.{◌≡◌, refl, sym, ap, ◌∙◌, subst}
use mathlib.Core.Bool.{Bool, true, false, cond}
use mathlib.Core.List.{List, [], ◌∷◌, ◌++◌}
use Prim.Native.Nat.{ℕ, zero, suc, ◌+◌, ◌-◌, ◌*◌, ◌^◌, ◌<◌, ◌≤◌}
use native.Mathlib.Omega.{arith}
use lib.Dec.{eqb, ltb}
use lib.ListN.{length, drop, length-append, length-drop}
use borrow.Author.Tests.{le-leb, lt-leb, le-ltb, ne_eqb}
use Rattle.answers.specs.Answers.{number, page_read, kept}
use Rattle.answers.specs.declared.Refusal.TheVariants.{Mode}
use Rattle.line_mode.specs.declared.modes.LineMode.{LineMode}
use Rattle.line_reader.specs.declared.endings.Broken.TheVariants.{Cut}
use Rattle.line_reader.specs.declared.reader.Step.{Step}
use Rattle.line_reader.specs.declared.reader.Reader.{Reader}
use Rattle.line_reader.specs.declared.reader.Reader.TheVariants.{Fresh, Open}
use Rattle.line_mode.specs.Clock.{time_between}
use Rattle.line_mode.specs.Modes.{hsm_mode, lsm_mode, mode_of, by_mode}
use Rattle.line_mode.proofs.Windows.{Apart, hsm_apart, lsm_apart}
use Rattle.line_writer.specs.Transitions.{edge_count}
use Rattle.line_writer.specs.Writing.{write_in, write_of}
use Rattle.line_writer.proofs.WrittenList.{has_edges}
use Rattle.line_reader.specs.Reading.{step, edge_of, heard_along, reader_after}
use Rattle.line_captures.specs.Captures.{said_of_read, is_open, attempt_of, read_in, attempt}
use Rattle.line_captures.specs.ReadingBack.{Carries, only_last, BeginsWith, ReadingBack}
use Rattle.line_captures.proofs.SaysPage.{heard_page, read_page}
use Rattle.line_captures.proofs.EdgeRuns.{last_of, after_silence, at_last}
use Rattle.line_captures.proofs.ReadBack.{as_many, opened_reads, fresh_reads}
use Rattle.line_captures.proofs.ReadCaptures.{page_answer, answered_carried}
use Rattle.line_captures.proofs.SinceOpened.{starts_at, after_append, LastAt, held, dropped, last_at, page_heard}
use Rattle.line_captures.proofs.PageEdges.{starting}
use Rattle.line_captures.proofs.WriteThenRead.{written_carries, write_then_read}
use Rattle.line_captures.proofs.Walk.{walk_step, read_known, attempts_told}

-- Two that are heard after as much silence are equal.
same_last : (n : ℕ) (s t : Heard) → after_silence n s ≡ after_silence n t → s ≡ t
same_last zero s t h = cc h
same_last (suc n) s t h = same_last n s t (cc h)

-- An edge that follows quiet may open an attempt.
quiet_starts : (m : LineMode) (r : Reader) (last x : ℕ) → LastAt last r → m.quiet ≤ time_between x last → starts_at m r x ≡ true
quiet_starts m r last x (held at bits) q = le-leb m.quiet (time_between x last) q
quiet_starts m r last x dropped q = le-leb m.quiet (time_between x last) q

-- The read call in a mode: inside the capture it is the first attempt from the place on.
inside : (m : LineMode) (capture : List ℕ) (place : ℕ) → place < length capture → read_in m capture place ≡ attempt_of m Fresh (drop place capture) place
unfolding read_in
inside m capture place h = rw (le-ltb (length capture) place (omega arith), ne_eqb place (length capture) (λ e. omega arith))

module _ (m : LineMode) (apart : Apart m) (capture : List ℕ) (place w : ℕ) where
  -- Where a page stands at the place it answers that page;
  read_back : BeginsWith m w (drop place capture) → said_of_read (read_in m capture place) ≡ page_read w
  read_back b =
      ap said_of_read
      (inside m capture place (omega (arith, length-drop place capture, ap length b.whole, length-append b.page b.behind, as_many m w b.page b.carried, has_edges m capture place w 0 b.word))
      ∙ ap (λ (l : List ℕ). attempt_of m Fresh l place) b.whole
      ∙ page_answer m Fresh w (last_of 0 b.page) place b.page b.behind (fresh_reads m apart w b.word b.page b.carried))

  -- and where it answers a page, that page stands at the place.
  read_only : said_of_read (read_in m capture place) ≡ page_read w → BeginsWith m w (drop place capture)
  unfolding read_in
  read_only h = let a = read_page (read_in m capture place) w h in by (ltb (length capture) place) (eqb place (length capture)) a.next a.told
    where
      by : (t u : Bool) (next : ℕ) → cond t (Err refusal.Room) (cond u (Ok None) (attempt_of m Fresh (drop place capture) place)) ≡ attempt (Ok w) next
          → BeginsWith m w (drop place capture)
      by true u next h = cc h
      by false true next h = cc h
      by false false next h = answered_carried m w (drop place capture) place next h

-- The write call by a mode's number, where there is room.
write_known : (mode : ℕ) (m : LineMode) (list : List ℕ) (place w first : ℕ) → mode_of mode ≡ Some m → w < 2 ^ 48 → place + edge_count m w ≤ length list
    → (write_of mode list place w first).says ≡ number (edge_count m w)
unfolding write_of write_in
write_known mode m list place w first known word room =
    ap (λ (f : Option LineMode). (by_mode f (λ n. write_in n list place w first) (kept Mode list)).says) known
    ∙ rw (lt-leb (2 ^ 48) w word, le-ltb (length list) (place + edge_count m w) room)

-- Over any numbers whose windows lie apart, four spacings being less than the clock's round, and any number that names them.
pub reading_back : (mode : ℕ) (m : LineMode) → mode_of mode ≡ Some m → Apart m → 4 * m.spacing < 2 ^ 32 → ReadingBack mode m
reading_back mode m known apart clock =
    record {
      nominal = λ w first. written_carries m first clock w;
      fresh = λ w edges word carried. at_last m Fresh edges (Some (Ok w)) (fresh_reads m apart w word edges carried).told;
      after_quiet = λ past last x w edges q word carried.
          after (reader_after m Fresh (past ++ (last ∷ []))) x w edges
          (starting m apart (reader_after m Fresh (past ++ (last ∷ []))) x
          (quiet_starts m (reader_after m Fresh (past ++ (last ∷ []))) last x
          (subst (LastAt last) (sym (after_append m Fresh past (last ∷ []))) (last_at m (reader_after m Fresh past) last)) q)) word carried;
      one_word = λ v w edges below word first second.
          let same = same_last (length edges - 1) (Some (Ok v)) (Some (Ok w))
          (sym (fresh_reads m apart v below edges first).told ∙ (fresh_reads m apart w word edges second).told) in cc same;
      nothing_else = λ past x w h. page_heard m past x w (heard_page (edge_of m (reader_after m Fresh past) x).heard w h);
      read = λ capture place w b. ap said_of_read (read_known mode m capture place known) ∙ read_back m apart capture place w b;
      read_only = λ capture place w h. read_only m apart capture place w (ap said_of_read (sym (read_known mode m capture place known)) ∙ h);
      written = λ list place w first word room.
          let says = write_known mode m list place w first known word room in (says, write_then_read mode list place w first (edge_count m w) says);
      forward = λ capture place h.
          let g = (walk_step m capture place h).goes in (g.ending, g.next, read_known mode m capture place known ∙ g.told, g.forward, g.inside);
      each_once = λ capture place more enough. attempts_told mode m known capture more place enough;
    }
  where
    after : (r : Reader) (x w : ℕ) (edges : List ℕ) → edge_of m r x ≡ step (cond (is_open r) (Some (Err Cut)) None) (Open 1 x 0) → w < 2 ^ 48 → Carries m w (x ∷ edges)
        → heard_along m r (x ∷ edges) ≡ cond (is_open r) (Some (Err Cut)) None ∷ only_last None edges (Some (Ok w))
    after r x w edges e word carried =
        ap (λ (b : Step). b.heard ∷ heard_along m b.reader edges) e
        ∙ ap (λ (l : List Heard). cond (is_open r) (Some (Err Cut)) None ∷ l) (at_last m (Open 1 x 0) edges (Some (Ok w)) (opened_reads m apart w word x edges carried).told)

pub high_speed_back : ReadingBack 0 hsm_mode
unfolding mode_of
high_speed_back = reading_back 0 hsm_mode refl hsm_apart (omega arith)

pub low_speed_back : ReadingBack 1 lsm_mode
unfolding mode_of
low_speed_back = reading_back 1 lsm_mode refl lsm_apart (omega arith)
