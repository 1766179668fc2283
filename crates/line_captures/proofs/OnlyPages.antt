-- Nothing else is read as a page: if an attempt says nothing at each edge until one where it says a page, then its gaps lie in the windows of
-- that page's gaps, with one edge for each transition. Every edge of such an attempt was a count that the pattern asked for; so the counts
-- led from 1 to 157, and by GapMachine they are the gaps of 64 bits; and as these agree, by ReadBits they are those sent for the word.
use Rattle.line_reader.specs.Endings.{Ending, Heard}
use Rattle.std.specs.Prelude.{Some, None, Ok, Err}
use mathlib.Core.Path.{◌≡◌, refl, sym, ap, ap₂, ◌∙◌}
use mathlib.Core.Bool.{Bool, true, false}
use mathlib.Core.List.{List, [], ◌∷◌, map}
use Prim.Native.Nat.{ℕ, zero, suc, ◌+◌, ◌-◌, ◌%◌, ◌^◌}
use native.Mathlib.Nat.{mod-lt}
use native.Mathlib.Omega.{arith}
use lib.Dec.{eqb}
use lib.Pow.{pow_pos}
use borrow.Author.Tests.{eqb-true, eq-eqb}
use Rattle.page_check_bits.specs.CheckBits.{agrees}
use Rattle.page_check_bits.proofs.WordBits.{sum_of}
use Rattle.line_mode.specs.declared.modes.LineMode.{LineMode}
use Rattle.line_mode.specs.declared.modes.Judgement.{Judgement}
use Rattle.line_mode.specs.declared.modes.Judgement.TheVariants.{Positions, Quiet, Unfit}
use Rattle.line_reader.specs.declared.endings.Broken.TheVariants.{Gap, Cut, Check}
use Rattle.line_reader.specs.declared.reader.Step.{Step}
use Rattle.line_reader.specs.declared.reader.Reader.{Reader}
use Rattle.line_reader.specs.declared.reader.Reader.TheVariants.{Open, Dropping}
use Rattle.line_mode.specs.Clock.{time_between}
use Rattle.line_mode.specs.Gaps.{judgement_of}
use Rattle.line_writer.specs.Transitions.{sent_bits, transitions}
use Rattle.line_reader.specs.Pattern.{asks}
use Rattle.line_reader.specs.Reading.{step, with_bit, arrives, goes_on, edge_of, heard_along}
use Rattle.line_captures.specs.ReadingBack.{gaps_after, gaps}
use Rattle.line_captures.proofs.JudgedGaps as judged
use Rattle.line_captures.proofs.EdgeRuns.{after_silence, Carried, all_inside}
use Rattle.line_captures.proofs.GapMachine.{passes, bits_after, pass, gaps_of, page_bits, only_pages}
use Rattle.line_captures.proofs.SentGaps.{transition_gaps}
use Rattle.line_captures.proofs.ReadBits.{pushed_all, agreeing}

-- What an edge of an open attempt brings: Cut and a new attempt, where its gap is quiet; another refusal; or its gap is a count that the pattern asks for, and it is
-- passed, or ends a page.
module _ (mode : LineMode) (p bits reading : ℕ) where
  pub data Edge (j : Judgement) : Type 0 where
    cut : j ≡ Quiet → goes_on mode p bits reading j ≡ step (Some (Err Cut)) (Open 1 reading 0) → Edge j
    wrong : (ending : Ending) → ((w : ℕ) → ending ≡ Ok w → ⊥) → goes_on mode p bits reading j ≡ step (Some ending) (Dropping reading) → Edge j
    passing : (k : ℕ) → j ≡ Positions k → asks mode p k ≡ true
        → goes_on mode p bits reading j ≡ step None (Open (p + k) reading (with_bit p k bits)) → Edge j
    ending : (k : ℕ) → j ≡ Positions k → asks mode p k ≡ true → p + k ≡ 157 → agrees (with_bit p k bits) ≡ true
        → goes_on mode p bits reading j ≡ step (Some (Ok (with_bit p k bits % 2 ^ 48))) (Dropping reading) → Edge j

  gap_no_page : (w : ℕ) → (Err Gap) ≡ Ok w → ⊥
  gap_no_page w h = let z : ◌≡◌ {A = ℕ} 0 1 = cc h in omega arith

  check_no_page : (w : ℕ) → (Err Check) ≡ Ok w → ⊥
  check_no_page w h = let z : ◌≡◌ {A = ℕ} 0 1 = cc h in omega arith

  pub edge_cases : (j : Judgement) → Edge j
  unfolding goes_on arrives
  edge_cases Quiet = cut refl refl
  edge_cases Unfit = wrong (Err Gap) gap_no_page refl
  edge_cases (Positions k) = by (asks mode p k) refl (eqb (p + k) 157) refl (agrees (with_bit p k bits)) refl
    where
      by : (a : Bool) → asks mode p k ≡ a → (e : Bool) → eqb (p + k) 157 ≡ e → (g : Bool) → agrees (with_bit p k bits) ≡ g → Edge (Positions k)
      by false a e f g h = wrong (Err Gap) gap_no_page (rw a)
      by true a false f g h = passing k refl a (rw (a, f))
      by true a true f false h = wrong (Err Check) check_no_page (rw (a, f, h))
      by true a true f true h = ending k refl a (eqb-true (p + k) 157 f) h (rw (a, f, h))

-- Where it is known what is brought, just that is heard.
brought : {b c : Step} {s : Heard} → b ≡ c → b.heard ≡ s → c.heard ≡ s
brought e h = ap (λ (x : Step). x.heard) (sym e) ∙ h

-- The counts of an attempt that ends in a page.
record Walk (m : LineMode) (p x bits w : ℕ) (edges : List ℕ) : Type 0 where
  counts : List ℕ
  judged : map (judgement_of m) (gaps_after time_between x edges) ≡ map Positions counts
  through : passes m p counts ≡ true
  agreed : agrees (bits_after p bits counts) ≡ true
  word : w ≡ bits_after p bits counts % 2 ^ 48

module _ (m : LineMode) (p x bits w y : ℕ) where
  -- The edge that says the page,
  last_edge : Edge m p bits y (judgement_of m (time_between y x)) → (goes_on m p bits y (judgement_of m (time_between y x))).heard ≡ Some (Ok w)
      → Walk m p x bits w (y ∷ [])
  last_edge (cut q e) h = absurd (let f = brought e h in let z : ◌≡◌ {A = ℕ} 0 1 = cc in omega arith)
  last_edge (wrong other none e) h = absurd (none w (let f = brought e h in cc f))
  last_edge (passing k j a e) h = absurd (let f = brought e h in let z : ◌≡◌ {A = ℕ} 0 1 = cc in omega arith)
  last_edge (ending k j a end g e) h =
      let c = judged.judged_counted m (time_between y x) k j in
      record {
        counts = k ∷ [];
        judged = ap (λ (i : Judgement). i ∷ []) j;
        through = pass m p k [] (record { least = c.least; most = c.most; asked = a; on = eq-eqb (p + k) 157 end });
        agreed = g;
        word = let f = brought e h in cc f;
      }

  -- and one before it, that says nothing.
  edge_before : (edges : List ℕ) → Edge m p bits y (judgement_of m (time_between y x))
      → ((k : ℕ) → (goes_on m p bits y (judgement_of m (time_between y x))).reader ≡ Open (p + k) y (with_bit p k bits)
      → Walk m (p + k) y (with_bit p k bits) w edges)
      → (goes_on m p bits y (judgement_of m (time_between y x))).heard ≡ None → Walk m p x bits w (y ∷ edges)
  edge_before edges (cut q e) later h = absurd (let f = brought e h in let z : ◌≡◌ {A = ℕ} 0 1 = cc in omega arith)
  edge_before edges (wrong other none e) later h = absurd (let f = brought e h in let z : ◌≡◌ {A = ℕ} 0 1 = cc in omega arith)
  edge_before edges (ending k j a end g e) later h = absurd (let f = brought e h in let z : ◌≡◌ {A = ℕ} 0 1 = cc in omega arith)
  edge_before edges (passing k j a e) later h =
      let c = judged.judged_counted m (time_between y x) k j in
      let r = later k (ap (λ (b : Step). b.reader) e) in
      record {
        counts = k ∷ r.counts;
        judged = ap₂ (λ (i : Judgement) (l : List Judgement). i ∷ l) j r.judged;
        through = pass m p k r.counts (record { least = c.least; most = c.most; asked = a; on = r.through });
        agreed = r.agreed;
        word = r.word;
      }

-- Every edge of an attempt that says nothing until it says a page is a count that the pattern asks for.
walked : (m : LineMode) (n p x bits w : ℕ) (edges : List ℕ) → heard_along m (Open p x bits) edges ≡ after_silence n (Some (Ok w)) → Walk m p x bits w edges
unfolding edge_of
walked m zero p x bits w [] h = cc h
walked m (suc n) p x bits w [] h = cc h
walked m zero p x bits w (y ∷ []) h = last_edge m p x bits w y (edge_cases m p bits y (judgement_of m (time_between y x))) (cc h)
walked m zero p x bits w (y ∷ z ∷ edges) h = cc h
walked m (suc n) p x bits w (y ∷ edges) h =
    edge_before m p x bits w y edges (edge_cases m p bits y (judgement_of m (time_between y x)))
    (λ k e. walked m n (p + k) y (with_bit p k bits) w edges (ap (λ (r : Reader). heard_along m r edges) (sym e) ∙ cc h)) (cc h)

-- So an attempt that is read as a page was sent.
pub only_carried : (m : LineMode) (n w x : ℕ) (edges : List ℕ) → heard_along m (Open 1 x 0) edges ≡ after_silence n (Some (Ok w)) → Carried m w (x ∷ edges)
only_carried m n w x edges h =
    let walk = walked m n 1 x 0 w edges h in
    let page = only_pages m walk.counts walk.through in
    let register : bits_after 1 0 walk.counts ≡ sum_of page.bits
    = ap (bits_after 1 0) page.whole ∙ page_bits m page.bits page.long ∙ pushed_all page.bits page.long in
    let is_word : w ≡ sum_of page.bits % 2 ^ 48 = walk.word ∙ ap (λ (r : ℕ). r % 2 ^ 48) register in
    let sent : page.bits ≡ sent_bits w
    = agreeing page.bits page.long (ap agrees (sym register) ∙ walk.agreed) ∙ ap sent_bits (sym is_word) in
    let counts : walk.counts ≡ gaps ◌-◌ (transitions m w)
    = page.whole ∙ ap (gaps_of m) sent ∙ sym (transition_gaps m w) in
    record {
      word = rw is_word (mod-lt (sum_of page.bits) (pow_pos 48));
      carried =
          all_inside m (gaps ◌-◌ (transitions m w)) (gaps_after time_between x edges)
          (judged.all_near m (gaps ◌-◌ (transitions m w)) (gaps_after time_between x edges) (walk.judged ∙ ap (map Positions) counts));
    }
