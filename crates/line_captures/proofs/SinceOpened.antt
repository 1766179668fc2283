-- Whatever edges came before: where a reader that was fresh once hears a page, the edges since the one that opened the attempt carry it.
-- Edge by edge, a reader either holds no attempt, or the edges since it opened one were all answered Nothing.
use Rattle.line_reader.specs.Endings.{Heard}
use Rattle.std.specs.Prelude.{Some, None, Ok}
use mathlib.Core.Path.{◌≡◌, refl, sym, ap, ap₂, ◌∙◌, subst}
use mathlib.Core.Bool.{Bool, true, false}
use mathlib.Core.List.{List, [], ◌∷◌, ◌++◌, append_assoc, append-nil}
use Prim.Native.Nat.{ℕ, ◌+◌}
use native.Mathlib.Omega.{arith}
use lib.Dec.{leb}
use lib.ListN.{length, replicate, length-append, replicate-append-replicate}
use Rattle.line_mode.specs.declared.modes.LineMode.{LineMode}
use Rattle.line_mode.specs.declared.modes.Judgement.{Judgement}
use Rattle.line_mode.specs.declared.modes.Judgement.TheVariants.{Positions, Quiet, Unfit}
use Rattle.line_reader.specs.declared.reader.Step.{Step}
use Rattle.line_reader.specs.declared.reader.Reader.{Reader}
use Rattle.line_reader.specs.declared.reader.Reader.TheVariants.{Fresh, Open, Dropping}
use Rattle.line_mode.specs.Clock.{time_between}
use Rattle.line_mode.specs.Gaps.{judgement_of}
use Rattle.line_reader.specs.Reading.{drops_on, goes_on, edge_of, heard_along, reader_after}
use Rattle.line_captures.specs.Captures.{is_open}
use Rattle.line_captures.specs.ReadingBack.{opens_after, EndsWith}
use Rattle.line_captures.proofs.EdgeRuns.{Carried}
use Rattle.line_mode.proofs.Windows.{judged_quiet}
use Rattle.line_captures.proofs.OnlyPages.{Edge, cut, wrong, passing, ending, edge_cases, only_carried}
use Rattle.line_captures.proofs.ReadCaptures.{shut_silent}

-- Edges, and then more.
heard_append : (m : LineMode) (r : Reader) (a b : List ℕ) → heard_along m r (a ++ b) ≡ heard_along m r a ++ heard_along m (reader_after m r a) b
heard_append m r [] b = refl
heard_append m r (x ∷ a) b = ap (λ (l : List Heard). (edge_of m r x).heard ∷ l) (heard_append m (edge_of m r x).reader a b)

pub after_append : (m : LineMode) (r : Reader) (a b : List ℕ) → reader_after m r (a ++ b) ≡ reader_after m (reader_after m r a) b
after_append m r [] b = refl
after_append m r (x ∷ a) b = after_append m (edge_of m r x).reader a b

-- Whether an edge is the first of all to a reader, or came at the quiet limit or more after the one before.
abbrev pub starts_at : LineMode → Reader → ℕ → Bool
starts_at m Fresh x = true
starts_at m (Open at last bits) x = leb m.quiet (time_between x last)
starts_at m (Dropping last) x = leb m.quiet (time_between x last)

-- What an edge does to a reader: it opens an attempt, which only such an edge does; or leaves none open; or the attempt goes on without an answer.
data Turn (m : LineMode) (r : Reader) (x : ℕ) : Type 0 where
  opens : starts_at m r x ≡ true → (edge_of m r x).reader ≡ Open 1 x 0 → Turn m r x
  shuts : is_open (edge_of m r x).reader ≡ false → Turn m r x
  goes : is_open r ≡ true → (edge_of m r x).heard ≡ None → Turn m r x

-- Each edge does one of these.
turn : (m : LineMode) (r : Reader) (x : ℕ) → Turn m r x
unfolding edge_of drops_on
turn m Fresh x = opens refl refl
turn m (Dropping last) x = by (judgement_of m (time_between x last)) refl
  where
    by : (j : Judgement) → judgement_of m (time_between x last) ≡ j → Turn m (Dropping last) x
    by Quiet e = opens (judged_quiet m (time_between x last) e) (rw e)
    by Unfit e = shuts (rw e)
    by (Positions k) e = shuts (rw e)
turn m (Open at last bits) x = by (edge_cases m at bits x (judgement_of m (time_between x last)))
  where
    by : Edge m at bits x (judgement_of m (time_between x last)) → Turn m (Open at last bits) x
    by (cut q e) = opens (judged_quiet m (time_between x last) q) (ap (λ (b : Step). b.reader) e)
    by (wrong other no_page e) = shuts (ap (λ (b : Step). is_open b.reader) e)
    by (passing k j a e) = goes refl (ap (λ (b : Step). b.heard) e)
    by (ending k j a end g e) = shuts (ap (λ (b : Step). is_open b.reader) e)

-- The edge that opened an attempt, the first of all or after quiet, and those since, all answered Nothing.
pub record Opened (m : LineMode) (past : List ℕ) : Type 0 where
  pub before : List ℕ
  pub first : ℕ
  pub since : List ℕ
  pub whole : past ≡ before ++ (first ∷ since)
  pub starts : starts_at m (reader_after m Fresh before) first ≡ true
  pub opened : reader_after m Fresh (before ++ (first ∷ [])) ≡ Open 1 first 0
  pub silent : heard_along m (Open 1 first 0) since ≡ replicate (length since) None

-- What a reader holds after edges: no attempt, or one.
data Holds (m : LineMode) (past : List ℕ) : Type 0 where
  none : is_open (reader_after m Fresh past) ≡ false → Holds m past
  attempt : Opened m past → Holds m past

-- The reader since an attempt opened.
since_opened : (m : LineMode) (past : List ℕ) (o : Opened m past) → reader_after m Fresh past ≡ reader_after m (Open 1 o.first 0) o.since
since_opened m past o =
    ap (reader_after m Fresh) (o.whole ∙ sym (append_assoc o.before (o.first ∷ []) o.since))
    ∙ after_append m Fresh (o.before ++ (o.first ∷ [])) o.since
    ∙ ap (λ (r : Reader). reader_after m r o.since) o.opened

-- It does so after one edge more,
holds_more : (m : LineMode) (past : List ℕ) (x : ℕ) → Holds m past → Turn m (reader_after m Fresh past) x → Holds m (past ++ (x ∷ []))
holds_more m past x h (opens s e) =
    attempt (record { before = past; first = x; since = []; whole = refl; starts = s; opened = after_append m Fresh past (x ∷ []) ∙ e; silent = refl })
holds_more m past x h (shuts e) = none (ap is_open (after_append m Fresh past (x ∷ [])) ∙ e)
holds_more m past x (none n) (goes o e) = absurd (let z : ◌≡◌ {A = ℕ} 0 1 = cc in omega arith)
holds_more m past x (attempt p) (goes o e) =
    attempt
    (record {
      before = p.before;
      first = p.first;
      since = p.since ++ (x ∷ []);
      whole = ap (λ (l : List ℕ). l ++ (x ∷ [])) p.whole ∙ append_assoc p.before (p.first ∷ p.since) (x ∷ []);
      starts = p.starts;
      opened = p.opened;
      silent =
          heard_append m (Open 1 p.first 0) p.since (x ∷ [])
          ∙ ap₂ (λ (l : List Heard) (s : Heard). l ++ (s ∷ [])) p.silent (ap (λ (r : Reader). (edge_of m r x).heard) (sym (since_opened m past p)) ∙ e)
          ∙ replicate-append-replicate (length p.since) 1 None ∙ ap (λ (n : ℕ). replicate n None) (sym (length-append p.since (x ∷ [])));
    })

-- and after any.
holds_on : (m : LineMode) (past more : List ℕ) → Holds m past → Holds m (past ++ more)
holds_on m past [] h = rw (append-nil past) h
holds_on m past (x ∷ more) h =
    subst (Holds m) (append_assoc past (x ∷ []) more) (holds_on m (past ++ (x ∷ [])) more (holds_more m past x h (turn m (reader_after m Fresh past) x)))

-- A reader whose last edge was at x.
pub data LastAt (x : ℕ) : Reader → Type 0 where
  held : (at bits : ℕ) → LastAt x (Open at x bits)
  dropped : LastAt x (Dropping x)

-- So it is after an edge at x.
pub last_at : (m : LineMode) (r : Reader) (x : ℕ) → LastAt x (edge_of m r x).reader
unfolding edge_of drops_on
last_at m Fresh x = held 1 0
last_at m (Dropping last) x = by (judgement_of m (time_between x last))
  where
    by : (j : Judgement) → LastAt x (drops_on x j).reader
    by Quiet = held 1 0
    by Unfit = dropped
    by (Positions k) = dropped
last_at m (Open at last bits) x = by (edge_cases m at bits x (judgement_of m (time_between x last)))
  where
    by : Edge m at bits x (judgement_of m (time_between x last)) → LastAt x (goes_on m at bits x (judgement_of m (time_between x last))).reader
    by (cut q e) = rw e (held 1 0)
    by (wrong other no_page e) = rw e dropped
    by (passing k j a e) = rw e (held (at + k) _)
    by (ending k j a end g e) = rw e dropped

-- What tells where an attempt may open is the last edge before.
opens_after_law : (m : LineMode) (r : Reader) (y x : ℕ) (before : List ℕ) → starts_at m (reader_after m r (y ∷ before)) x ≡ opens_after m (y ∷ before) x
opens_after_law m r y x [] = by (edge_of m r y).reader (last_at m r y)
  where
    by : (s : Reader) → LastAt y s → starts_at m s x ≡ leb m.quiet (time_between x y)
    by s (held at bits) = refl
    by s dropped = refl
opens_after_law m r y x (z ∷ before) = opens_after_law m (edge_of m r y).reader z x before

pub starts_opens : (m : LineMode) (before : List ℕ) (x : ℕ) → starts_at m (reader_after m Fresh before) x ≡ opens_after m before x
starts_opens m [] x = refl
starts_opens m (y ∷ before) x = opens_after_law m Fresh y x before

-- A page heard after any edges: the edges since the one that opened the attempt, and this one, carry its word.
pub record HeardSince (m : LineMode) (w : ℕ) (past : List ℕ) (x : ℕ) : Type 0 where
  pub attempt : Opened m past
  pub carried : Carried m w (attempt.first ∷ (attempt.since ++ (x ∷ [])))

pub heard_since : (m : LineMode) (past : List ℕ) (x w : ℕ) → (edge_of m (reader_after m Fresh past) x).heard ≡ Some (Ok w) → HeardSince m w past x
heard_since m past x w h = by (holds_on m [] past (none refl))
  where
    by : Holds m past → HeardSince m w past x
    by (none n) = absurd (let e = shut_silent m (reader_after m Fresh past) x n in let z : ◌≡◌ {A = ℕ} 0 1 = cc in omega arith)
    by (attempt o) =
        record {
          attempt = o;
          carried =
              only_carried m (length o.since) w o.first (o.since ++ (x ∷ []))
              (heard_append m (Open 1 o.first 0) o.since (x ∷ [])
              ∙ ap₂ (λ (l : List Heard) (s : Heard). l ++ (s ∷ [])) o.silent (ap (λ (r : Reader). (edge_of m r x).heard) (sym (since_opened m past o)) ∙ h));
        }

pub page_heard : (m : LineMode) (past : List ℕ) (x w : ℕ) → (edge_of m (reader_after m Fresh past) x).heard ≡ Some (Ok w) → EndsWith m w (past ++ (x ∷ []))
page_heard m past x w h =
    let s = heard_since m past x w h in
    let o = s.attempt in
    record {
      before = o.before;
      first = o.first;
      later = o.since ++ (x ∷ []);
      whole = ap (λ (l : List ℕ). l ++ (x ∷ [])) o.whole ∙ append_assoc o.before (o.first ∷ o.since) (x ∷ []);
      opened = sym (starts_opens m o.before o.first) ∙ o.starts;
      word = s.carried.word;
      carried = s.carried.carried;
    }
