-- What is written is read back. The readings of a page at nominal spacing have gaps of so many spacings each, which lie in their windows; so the
-- theorem of ReadBack holds of them, also where they stand in a list among others.
use Rattle.answers.specs.declared.Refusal.TheVariants as refusal
use Rattle.std.specs.Prelude.{if◌then◌else◌, Option, Some, None, Ok, Err}
use mathlib.Core.Path.{◌≡◌, refl, sym, ap, ap₂, ◌∙◌, subst}
use mathlib.Core.Bool.{Bool, true, false}
use mathlib.Core.List.{List, [], ◌∷◌, ◌++◌, map, map-append, Forall₂}
use Prim.Native.Nat.{ℕ, zero, suc, ◌+◌, ◌-◌, ◌*◌, ◌%◌, ◌^◌, ◌<◌, ◌≤◌}
use native.Mathlib.Nat.{add-mul, mul-le-mul_right}
use native.Mathlib.Omega.{arith}
use lib.Dec.{eqb, ltb}
use lib.ListN.{length, take, drop, length-append}
use lib.Seq.{drop_at, length-take-le}
use borrow.Author.Tests.{le-ltb, ne_eqb, leb-false, ltb-false}
use Rattle.page_word.specs.Word.{is_wide}
use Rattle.answers.specs.Answers.{Said, number, page_read, Leaves, leaving, put_at, kept}
use Rattle.answers.specs.declared.Refusal.TheVariants.{Room, Wide, Mode}
use Rattle.line_mode.specs.declared.modes.LineMode.{LineMode}
use Rattle.line_reader.specs.declared.reader.Reader.TheVariants.{Fresh, Dropping}
use Rattle.line_mode.specs.Modes.{hsm_mode, lsm_mode, mode_of, by_mode}
use Rattle.line_mode.specs.Clock.{time_between}
use Rattle.line_page.specs.Pattern.{delimiter_of, hsm_delimiter, lsm_delimiter}
use Rattle.line_page.proofs.Positions.{by_delimiter}
use Rattle.line_writer.specs.Transitions.{transitions, sent_bits, has_transition, positions_to, reading_at, readings, edge_count}
use Rattle.line_writer.specs.Writing.{write_in, write_of}
use Rattle.line_captures.specs.Captures.{said_of_read, opens_at, attempt_of, read_in, read_of, attempt}
use Rattle.line_mode.proofs.Windows.{Apart, Near, hsm_apart, lsm_apart}
use Rattle.line_writer.proofs.SentBits.{sent_length}
use Rattle.line_writer.proofs.PagePattern.{at_clock}
use Rattle.line_writer.proofs.WritingLoop.{more_yes}
use Rattle.line_writer.proofs.WrittenList.{count_written, page_put, has_edges}
use Rattle.line_captures.specs.ReadingBack.{gaps_after, gaps, Carries}
use Rattle.line_captures.proofs.EdgeRuns.{last_of, all_inside}
use Rattle.line_captures.proofs.GapMachine.{passes, passed, page_passes}
use Rattle.line_captures.proofs.SentGaps.{after_clock, transitions_listed, transition_gaps}
use Rattle.line_captures.proofs.ReadBack.{fresh_reads}
use Rattle.line_captures.proofs.ReadCaptures.{page_answer}
use Rattle.line_reader.proofs.ClockShift.{time_of_distance}

module _ (m : LineMode) (first : ℕ) (clock : 4 * m.spacing < 2 ^ 32) where
  -- The readings of positions.
  abbrev times : List ℕ → List ℕ
  times ps = map (reading_at m.spacing first) ps

  -- The time between the readings of two positions is so many spacings,
  nominal : (p q : ℕ) → 1 ≤ p → 1 ≤ q - p → q - p ≤ 4
      → time_between (reading_at m.spacing first q) (reading_at m.spacing first p) ≡ (q - p) * m.spacing
  nominal zero q h l u = absurd (omega arith)
  nominal (suc p) zero h l u = absurd (omega arith)
  nominal (suc p) (suc q) h l u =
      ap (λ (n : ℕ). time_between (n % 2 ^ 32) (reading_at m.spacing first (suc p))) sum
      ∙ time_of_distance (first + p * m.spacing) ((suc q - suc p) * m.spacing) (let b = mul-le-mul_right m.spacing u in omega arith)
    where
      sum : first + q * m.spacing ≡ first + p * m.spacing + (suc q - suc p) * m.spacing
      sum =
          ap (λ (n : ℕ). first + n * m.spacing) (let e : q ≡ p + (suc q - suc p) = omega arith in e)
          ∙ ap (λ (n : ℕ). first + n) (add-mul p (suc q - suc p) m.spacing) ∙ omega arith

  -- and these lie in their window.
  at_nominal : (k gap : ℕ) → gap ≡ k * m.spacing → Near m k gap
  at_nominal k gap e = record { least = omega arith; most = omega arith }

  -- So with the readings of positions whose gaps pass.
  positions_near : (mode : LineMode) (at p : ℕ) (ps : List ℕ) → 1 ≤ p → passes mode at (gaps_after ◌-◌ p ps) ≡ true
      → Forall₂ (Near m) (gaps_after ◌-◌ p ps) (gaps time_between (times (p ∷ ps)))
  positions_near mode at p [] h through = Forall₂.nil
  positions_near mode at p (q ∷ ps) h through =
      let c = passed mode at (q - p) (gaps_after ◌-◌ q ps) through in
      Forall₂.cons
      (at_nominal (q - p) (time_between (reading_at m.spacing first q) (reading_at m.spacing first p)) (nominal p q h c.least c.most))
      (positions_near mode (at + (q - p)) q ps (let a = c.least in omega arith) c.on)

  -- A page's transitions begin at 1;
  listed_near : (mode : LineMode) (rest : List ℕ) → passes mode 1 (gaps ◌-◌ (delimiter_of mode ++ rest)) ≡ true
      → Forall₂ (Near m) (gaps ◌-◌ (delimiter_of mode ++ rest)) (gaps time_between (times (delimiter_of mode ++ rest)))
  listed_near mode rest =
      by_delimiter
      (λ n. passes n 1 (gaps ◌-◌ (delimiter_of n ++ rest)) ≡ true
      → Forall₂ (Near m) (gaps ◌-◌ (delimiter_of n ++ rest)) (gaps time_between (times (delimiter_of n ++ rest))))
      (λ s t q. positions_near (record { spacing = s; tolerance = t; quiet = q; slow = true }) 1 1 (drop 1 (lsm_delimiter ++ rest)) (omega arith))
      (λ s t q. positions_near (record { spacing = s; tolerance = t; quiet = q; slow = false }) 1 1 (drop 1 (hsm_delimiter ++ rest)) (omega arith))
      mode

  -- so the readings that are written carry the word.
  pub written_carries : (w : ℕ) → Carries m w (readings m w first)
  unfolding readings
  written_carries w =
      all_inside m (gaps ◌-◌ (transitions m w)) (gaps time_between (times (transitions m w)))
      (subst (λ (ps : List ℕ). Forall₂ (Near m) (gaps ◌-◌ ps) (gaps time_between (times ps))) (sym (transitions_listed m w))
      (listed_near m (27 ∷ after_clock 27 (sent_bits w))
      (ap (λ (ps : List ℕ). passes m 1 (gaps ◌-◌ ps)) (sym (transitions_listed m w))
      ∙ ap (passes m 1) (transition_gaps m w) ∙ page_passes m (sent_bits w) (sent_length w))))

-- The last of a list with one more at its end.
last_appended : (x y : ℕ) (l : List ℕ) → last_of x (l ++ (y ∷ [])) ≡ y
last_appended x y [] = refl
last_appended x y (z ∷ l) = last_appended z y l

-- The last reading is that of position 157.
pub last_written : (m : LineMode) (w first : ℕ) → last_of 0 (readings m w first) ≡ reading_at m.spacing first 157
unfolding readings transitions
last_written m w first =
    ap (λ (ps : List ℕ). last_of 0 (map (reading_at m.spacing first) ps))
    (more_yes (has_transition m (sent_bits w)) 156 (at_clock m (sent_bits w) 157 (omega arith) (omega arith) refl))
    ∙ ap (last_of 0) (map-append (reading_at m.spacing first) (positions_to (has_transition m (sent_bits w)) 156) (157 ∷ []))
    ∙ last_appended 0 (reading_at m.spacing first 157) (map (reading_at m.spacing first) (positions_to (has_transition m (sent_bits w)) 156))

module _ (m : LineMode) (apart : Apart m) (clock : 4 * m.spacing < 2 ^ 32) (w first : ℕ) (word : w < 2 ^ 48) where
  -- A written page is read, whatever follows it,
  pub written_read : (at : ℕ) (rest : List ℕ)
      → attempt_of m Fresh (readings m w first ++ rest) at
      ≡ attempt (Ok w) (opens_at m (Dropping (reading_at m.spacing first 157)) rest (at + edge_count m w))
  written_read at rest =
      page_answer m Fresh w (last_of 0 (readings m w first)) at (readings m w first) rest
      (fresh_reads m apart w word (readings m w first) (written_carries m first clock w))
      ∙ ap₂ (λ (x n : ℕ). attempt (Ok w) (opens_at m (Dropping x) rest (at + n))) (last_written m w first) (count_written m w first)

  -- and so it is by the read call at the place where the write call put it.
  pub placed_read : (list : List ℕ) (place : ℕ) → place + edge_count m w ≤ length list
      → read_in m (put_at place (readings m w first) list) place
      ≡ attempt (Ok w) (opens_at m (Dropping (reading_at m.spacing first 157)) (drop (place + edge_count m w) list) (place + edge_count m w))
  unfolding read_in
  placed_read list place room =
      let some = has_edges m list place w first word in
      let head = length-take-le place list (omega arith) in
      let tail = length-append (readings m w first) (drop (place + edge_count m w) list) in
      let count = count_written m w first in
      let all = length-append (take place list) (readings m w first ++ drop (place + edge_count m w) list) in
      ap (λ (l : List ℕ). read_in m l place) (page_put m list place w first)
      ∙ rw (
        le-ltb (length (take place list ++ (readings m w first ++ drop (place + edge_count m w) list))) place (omega arith),
        ne_eqb place (length (take place list ++ (readings m w first ++ drop (place + edge_count m w) list))) (λ e. omega arith),
      )
      (ap (λ (l : List ℕ). attempt_of m Fresh l place) (drop_at (take place list) (readings m w first ++ drop (place + edge_count m w) list) place head)
      ∙ written_read place (drop (place + edge_count m w) list))

-- The two calls, in a mode's numbers: where the write call answers a number, the read call from the same place on answers the page.
in_mode : (m : LineMode) → Apart m → 4 * m.spacing < 2 ^ 32 → (list : List ℕ) (place w first n : ℕ)
    → (write_in m list place w first).says ≡ number n → said_of_read (read_in m (write_in m list place w first).list place) ≡ page_read w
unfolding write_in
in_mode m apart clock list place w first n h = by (is_wide w) refl (ltb (length list) (place + edge_count m w)) refl h
  where
    write : (t s : Bool) → Leaves
    write t s = if t then kept Wide list else if s then kept Room list else leaving (number (edge_count m w)) (put_at place (readings m w first) list)

    by : (t : Bool) → is_wide w ≡ t → (s : Bool) → ltb (length list) (place + edge_count m w) ≡ s
        → (write t s).says ≡ number n → said_of_read (read_in m (write t s).list place) ≡ page_read w
    by true e s f h = absurd (let k = ap (λ (a : Said). a.kind) h in omega arith)
    by false e true f h = absurd (let k = ap (λ (a : Said). a.kind) h in omega arith)
    by false e false f h =
        ap said_of_read (placed_read m apart clock w first (leb-false (2 ^ 48) w e) list place (ltb-false (length list) (place + edge_count m w) f))

-- The two calls, for every mode's number: a page that was written is read back from where it was written.
pub write_then_read : (mode : ℕ) (list : List ℕ) (place w first n : ℕ)
    → (write_of mode list place w first).says ≡ number n → said_of_read (read_of mode (write_of mode list place w first).list place) ≡ page_read w
unfolding write_of read_of mode_of
write_then_read mode list place w first n h = by (eqb mode 0) (eqb mode 1) h
  where
    named : (a b : Bool) → Option LineMode
    named a b = if a then Some hsm_mode else if b then Some lsm_mode else None

    write : (a b : Bool) → Leaves
    write a b = by_mode (named a b) (λ m. write_in m list place w first) (kept Mode list)

    by : (a b : Bool) → (write a b).says ≡ number n → said_of_read (by_mode (named a b) (λ m. read_in m (write a b).list place) (Err refusal.Mode)) ≡ page_read w
    by true b h = in_mode hsm_mode hsm_apart (omega arith) list place w first n h
    by false true h = in_mode lsm_mode lsm_apart (omega arith) list place w first n h
    by false false h = absurd (let k = ap (λ (a : Said). a.kind) h in omega arith)
