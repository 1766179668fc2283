-- A page sent is read back as itself: edges whose gaps lie in the windows of the page's gaps are answered nothing until the last, and there the
-- page's word. The windows turn gaps into counts; the counts go through the machine of GapMachine; its register is the word and its check
-- bits, by ReadBits.
use Rattle.line_reader.specs.Endings.{Heard}
use Rattle.std.specs.Prelude.{Some, None, Ok, Err}
use mathlib.Core.Path.{◌≡◌, refl, sym, ap, ◌∙◌, subst}
use mathlib.Core.Bool.{true, cond}
use mathlib.Core.List.Forall₂
use mathlib.Core.List.{List, [], ◌∷◌, map, Forall₂}
use Prim.Native.Nat.{ℕ, suc, ◌+◌, ◌-◌, ◌%◌, ◌^◌, ◌<◌, ◌≤◌}
use native.Mathlib.Omega.{arith}
use lib.ListN.{length}
use borrow.Author.Tests.{eqb-true, ne_eqb, eq-eqb}
use Rattle.page_check_bits.specs.CheckBits.{agrees}
use Rattle.line_mode.specs.declared.modes.LineMode.{LineMode}
use Rattle.line_mode.specs.declared.modes.Judgement.TheVariants.{Positions}
use Rattle.line_reader.specs.declared.endings.Broken.TheVariants.{Cut, Check}
use Rattle.line_reader.specs.declared.reader.Step.{Step}
use Rattle.line_reader.specs.declared.reader.Reader.{Reader}
use Rattle.line_reader.specs.declared.reader.Reader.TheVariants.{Fresh, Open, Dropping}
use Rattle.line_mode.specs.Clock.{time_between}
use Rattle.line_mode.specs.Gaps.{judgement_of}
use Rattle.line_writer.specs.Transitions.{sent_bits, transitions, edge_count}
use Rattle.line_reader.specs.Pattern.{asks}
use Rattle.line_reader.specs.Reading.{step, with_bit, arrives, goes_on, drops_on, edge_of, heard_along, reader_after}
use Rattle.line_mode.proofs.Windows.{Apart, counts_quiet}
use Rattle.line_writer.proofs.SentBits.{sent_length}
use Rattle.line_captures.proofs.JudgedGaps.{all_judged}
use Rattle.line_captures.specs.ReadingBack.{gaps_after, gaps, Carries}
use Rattle.line_captures.proofs.EdgeRuns.{last_of, after_silence, HeardLast, InWindow, all_near}
use Rattle.line_captures.proofs.GapMachine.{passes, bits_after, Passed, passed, none_past, gaps_of, page_passes, page_bits}
use Rattle.line_captures.proofs.SentGaps.{transition_gaps}
use Rattle.line_captures.proofs.ReadBits.{pushed_all, sent_agrees, sent_word}

-- A page's first edge opens an attempt: after a fresh reader,
pub fresh_opens : (m : LineMode) (reading : ℕ) → edge_of m Fresh reading ≡ step None (Open 1 reading 0)
unfolding edge_of
fresh_opens m reading = refl

module _ (m : LineMode) (apart : Apart m) (last reading : ℕ) (quiet : m.quiet ≤ time_between reading last) where
  -- and after quiet, where edges were dropped,
  pub dropping_opens : edge_of m (Dropping last) reading ≡ step None (Open 1 reading 0)
  unfolding edge_of drops_on
  dropping_opens = rw (counts_quiet m apart (time_between reading last) quiet)

  -- or where an attempt was open, which is Cut.
  pub open_opens : (at bits : ℕ) → edge_of m (Open at last bits) reading ≡ step (Some (Err Cut)) (Open 1 reading 0)
  unfolding edge_of goes_on
  open_opens at bits = rw (counts_quiet m apart (time_between reading last) quiet)

-- What is heard of the bits of a page at its last edge.
abbrev verdict : ℕ → Heard
verdict bits = Some (cond (agrees bits) (Ok (bits % 2 ^ 48)) (Err Check))

-- An edge whose gap is a count that the pattern asks for: before 157 it is passed, at 157 it ends the attempt.
module _ (m : LineMode) (p last bits reading k : ℕ) (judged : judgement_of m (time_between reading last) ≡ Positions k)
    (asked : asks m p k ≡ true)
  where
    passes_edge : (p + k ≡ 157 → ⊥) → edge_of m (Open p last bits) reading ≡ step None (Open (p + k) reading (with_bit p k bits))
    unfolding edge_of goes_on arrives
    passes_edge before = rw (judged, asked, ne_eqb (p + k) 157 before)

    ends_edge : p + k ≡ 157 → edge_of m (Open p last bits) reading ≡ step (verdict (with_bit p k bits)) (Dropping reading)
    unfolding edge_of goes_on arrives
    ends_edge end = rw (judged, asked, eq-eqb (p + k) 157 end)

-- One edge,
one_edge : (m : LineMode) (r after : Reader) (x : ℕ) (heard : Heard) → edge_of m r x ≡ step heard after → HeardLast m r (x ∷ []) heard after
one_edge m r after x heard e = record { told = ap (λ (b : Step). b.heard ∷ []) e; left = ap (λ (b : Step). b.reader) e }

-- and one more in front of others.
edge_more : (m : LineMode) (r next after : Reader) (x y : ℕ) (rest : List ℕ) (heard : Heard) → edge_of m r x ≡ step None next
    → HeardLast m next (y ∷ rest) heard after → HeardLast m r (x ∷ y ∷ rest) heard after
edge_more m r next after x y rest heard e h =
    record {
      told =
          ap (λ (b : Step). b.heard ∷ heard_along m b.reader (y ∷ rest)) e ∙ ap (λ (l : List Heard). None ∷ l) h.told
          ∙ ap (λ (n : ℕ). after_silence n heard) (let f : suc (suc (length rest) - 1) ≡ suc (suc (length rest)) - 1 = omega arith in f);
      left = ap (λ (b : Step). reader_after m b.reader (y ∷ rest)) e ∙ h.left;
    }

-- Counts that lead to 157 are read to the end.
counts_read : (m : LineMode) (p x bits : ℕ) (ks edges : List ℕ) → map (judgement_of m) (gaps_after time_between x edges) ≡ map Positions ks
    → passes m p ks ≡ true → (p ≡ 157 → ⊥) → HeardLast m (Open p x bits) edges (verdict (bits_after p bits ks)) (Dropping (last_of x edges))
counts_read m p x bits [] edges j h n = absurd (n (eqb-true p 157 h))
counts_read m p x bits (k ∷ ks) [] j h n = cc j
counts_read m p x bits (k ∷ []) (y ∷ []) j h n =
    let c = passed m p k [] h in
    one_edge m (Open p x bits) (Dropping y) y (verdict (with_bit p k bits)) (ends_edge m p x bits y k (cc j) c.asked (eqb-true (p + k) 157 c.on))
counts_read m p x bits (k ∷ []) (y ∷ z ∷ edges) j h n = cc j
counts_read m p x bits (k ∷ i ∷ ks) (y ∷ []) j h n = cc j
counts_read m p x bits (k ∷ i ∷ ks) (y ∷ z ∷ edges) j h n =
    let c = passed m p k (i ∷ ks) h in
    edge_more m (Open p x bits) (Open (p + k) y (with_bit p k bits)) (Dropping (last_of z edges)) y z edges (verdict (bits_after p bits (k ∷ i ∷ ks)))
    (passes_edge m p x bits y k (cc j) c.asked (before c))
    (counts_read m (p + k) y (with_bit p k bits) (i ∷ ks) (z ∷ edges) (cc j) c.on (before c))
  where
    before : Passed m p k (i ∷ ks) → p + k ≡ 157 → ⊥
    before c e = let f = none_past m (i ∷ ks) (rw e at c.on) in let z : ◌≡◌ {A = ℕ} 0 1 = cc f in omega arith

-- A page has more than one edge.
more_than_one : (m : LineMode) (w : ℕ) → Carries m w [] → ⊥
more_than_one m w near =
    let e = sym (transition_gaps m w) ∙ Forall₂.eq-nil_left near in
    let h : passes m 1 [] ≡ true = rw e at (page_passes m (sent_bits w) (sent_length w)) in
    let z : ◌≡◌ {A = ℕ} 0 1 = cc h in omega arith

-- A list has a gap for each entry but the first,
gaps_length : (between : ℕ → ℕ → ℕ) (x : ℕ) (rest : List ℕ) → length (gaps_after between x rest) ≡ length rest
gaps_length between x [] = refl
gaps_length between x (y ∷ rest) = ap suc (gaps_length between y rest)

-- gaps that are near others are as many,
near_length : (m : LineMode) (ks times : List ℕ) → Forall₂ (InWindow m) ks times → length ks ≡ length times
near_length m ks times Forall₂.nil = refl
near_length m ks times (Forall₂.cons {l₁ = later} {l₂ = rest} near further) = ap suc (near_length m later rest further)

-- and so lists of more than one entry whose gaps are near are as long;
same_length : (m : LineMode) (ps edges : List ℕ) → (Forall₂ (InWindow m) (gaps ◌-◌ ps) [] → ⊥) → Forall₂ (InWindow m) (gaps ◌-◌ ps) (gaps time_between edges)
    → length edges ≡ length ps
same_length m [] edges some near = absurd (some Forall₂.nil)
same_length m (p ∷ ps) [] some near = absurd (some near)
same_length m (p ∷ ps) (x ∷ rest) some near =
    ap suc (sym (gaps_length time_between x rest) ∙ sym (near_length m (gaps_after ◌-◌ p ps) (gaps_after time_between x rest) near) ∙ gaps_length ◌-◌ p ps)

-- edges sent for a word are as many as its page's transitions.
pub as_many : (m : LineMode) (w : ℕ) (edges : List ℕ) → Carries m w edges → length edges ≡ edge_count m w
unfolding edge_count
as_many m w edges near = same_length m (transitions m w) edges (more_than_one m w) near

-- The bits of a page are found good, and are its word.
page_verdict : (mode : LineMode) (w : ℕ) → w < 2 ^ 48 → verdict (bits_after 1 0 (gaps_of mode (sent_bits w))) ≡ Some (Ok w)
page_verdict mode w h =
    ap verdict (page_bits mode (sent_bits w) (sent_length w) ∙ pushed_all (sent_bits w) (sent_length w))
    ∙ rw (sent_agrees w, sent_word w h)

module _ (m : LineMode) (apart : Apart m) (w : ℕ) (word : w < 2 ^ 48) where
  -- An attempt that is open at its first edge reads the rest of the page,
  pub opened_reads : (x : ℕ) (edges : List ℕ) → Carries m w (x ∷ edges) → HeardLast m (Open 1 x 0) edges (Some (Ok w)) (Dropping (last_of x edges))
  opened_reads x edges near =
      subst (λ (s : Heard). HeardLast m (Open 1 x 0) edges s (Dropping (last_of x edges))) (page_verdict m w word)
      (counts_read m 1 x 0 (gaps_of m (sent_bits w)) edges
      (all_judged m 1 (gaps_of m (sent_bits w)) (gaps_after time_between x edges) apart through
      (all_near m (gaps_of m (sent_bits w)) (gaps_after time_between x edges) (rw (transition_gaps m w) at near)))
      through (λ e. omega arith))
    where
      through : passes m 1 (gaps_of m (sent_bits w)) ≡ true
      through = page_passes m (sent_bits w) (sent_length w)

  -- and a fresh reader the whole page.
  pub fresh_reads : (edges : List ℕ) → Carries m w edges → HeardLast m Fresh edges (Some (Ok w)) (Dropping (last_of 0 edges))
  fresh_reads [] near = absurd (more_than_one m w near)
  fresh_reads (x ∷ []) near = absurd (more_than_one m w near)
  fresh_reads (x ∷ y ∷ edges) near =
      edge_more m Fresh (Open 1 x 0) (Dropping (last_of y edges)) x y edges (Some (Ok w)) (fresh_opens m x) (opened_reads x (y ∷ edges) near)
