-- Ticks, pages sent and link reports: a device and its twin say the same and stay twins. Each test on a timer comes out the same, since the time
-- between two readings is the same if both are later by δ.
use Prim.Native.Nat.{ℕ, ◌+◌}
use mathlib.Core.Path.{◌≡◌, refl, ap, ap₂, ◌∙◌}
use mathlib.Core.Bool.{Bool, cond, not, ◌&&◌, ◌||◌}
use mathlib.Core.List.{List}
use lib.Dec.{leb, ltb}
use Rattle.answers.specs.Answers.{nothing, refused, page_ordered}
use Rattle.answers.specs.declared.Refusal.TheVariants.{Turn}
use Rattle.page_resolve.specs.Resolving.{resolution_of, said_of}
use Rattle.line_reader.specs.declared.reader.Reader.{Reader}
use Rattle.line_reader.specs.declared.reader.Reader.TheVariants.{Fresh, Open, Dropping}
use Rattle.line_reader.proofs.ClockShift.{later, time_shifted}
use Rattle.port_state.specs.declared.State.{State}
use Rattle.port_state.specs.declared.State.TheVariants.{Off, Break, Ability, Ack, Complete, CheckLink, Up}
use Rattle.port_state.specs.declared.Flags.{Flags}
use Rattle.port_state.specs.declared.Link.{Link}
use Rattle.port_state.specs.declared.Device.{Device}
use Rattle.page_word.specs.NextPages.{sets_next_page}
use Rattle.port_state.specs.Changes.{with_state}
use Rattle.port_state.specs.Rounds.{is_base, own_in_round, held_in_round}
use Rattle.port_timing.specs.declared.profile.Profile.{Profile}
use Rattle.port_timing.specs.Ticks.{acknowledging, run_out, inhibit_of, holds_back, may_order, orders, is_lost, talks, tick_in, tick_due}
use Rattle.port_timing.specs.Sending.{next_or_null, decided, counted, sent_in, sent_due, has_rate, report_in, report_due}
use Rattle.port_state.proofs.ClockAhead.{link_in, twin}
use Rattle.promises.proofs.Twins.{Twins, Alike, twins_if, alike_if, twins_by, alike_by, kept, saying_same}
use Rattle.promises.specs.TwoPasts.{shifted}

module _ (δ : ℕ) (g : Flags) (reading : ℕ) where
  -- A timer has run out at both or at neither.
  run_out_later : (number start : ℕ) → run_out number (shifted δ start) (shifted δ reading) ≡ run_out number start reading
  run_out_later number start = ap (leb number) (time_shifted δ reading start)

  holds_back_later : (quiet : ℕ) (r : Reader) → holds_back quiet (later δ r) (shifted δ reading) ≡ holds_back quiet r reading
  holds_back_later quiet Fresh = refl
  holds_back_later quiet (Open at last bits) = ap (λ (time : ℕ). ltb time quiet) (time_shifted δ reading last)
  holds_back_later quiet (Dropping last) = refl

  -- So a page is ordered at both or at neither; in Ability, Ack and Complete both times are later by δ.
  may_order_later : (p : Profile) (l : Link) → may_order p (shifted δ reading) (link_in Ability δ l) ≡ may_order p reading l
  unfolding may_order
  may_order_later p l =
      ap₂ (λ (held ran : Bool). not l.talk.out && (not held && ran))
      (holds_back_later p.mode.quiet l.reader)
      (run_out_later (cond l.talk.heard p.silent p.wait) l.talk.mark)

  -- A page is ordered, in a state whose times are later by δ.
  ordered : (p : Profile) (word : ℕ) (s : State) (d : Device) → link_in s δ d.link ≡ link_in Ability δ d.link
      → Alike δ d.lasting.flags g (orders p reading word (with_state s d)) (orders p (shifted δ reading) word (twin δ g (with_state s d)))
  unfolding orders
  ordered p word s d times =
      alike_by (may_order p reading d.link) (may_order p (shifted δ reading) (link_in s δ d.link))
      (ap (may_order p (shifted δ reading)) times ∙ may_order_later p d.link)
      (saying_same (page_ordered word) kept)
      (saying_same nothing kept)

  -- The partner is lost at both or at neither.
  lost_later : (p : Profile) (l : Link) → is_lost p (shifted δ reading) (link_in Ability δ l) ≡ is_lost p reading l
  unfolding is_lost
  lost_later p l = ap (λ (ran : Bool). not (is_base l.next.round) && (not l.talk.out && ran)) (run_out_later p.lost l.next.good)

  talked : (p : Profile) (word : ℕ) (s : State) (d : Device) → link_in s δ d.link ≡ link_in Ability δ d.link
      → Alike δ d.lasting.flags g (talks p reading word (with_state s d)) (talks p (shifted δ reading) word (twin δ g (with_state s d)))
  unfolding talks
  talked p word s d times =
      alike_by (is_lost p reading d.link) (is_lost p (shifted δ reading) (link_in s δ d.link))
      (ap (is_lost p (shifted δ reading)) times ∙ lost_later p d.link)
      (saying_same nothing kept)
      (ordered p word s d times)

  tick_in_law : (s : State) (p : Profile) (draw : ℕ) (d : Device)
      → Alike δ d.lasting.flags g (tick_in s p reading draw (with_state s d)) (tick_in s p (shifted δ reading) draw (twin δ g (with_state s d)))
  unfolding acknowledging
  tick_in_law Off p draw d = saying_same nothing kept
  tick_in_law Break p draw d =
      saying_same nothing
      (twins_by (run_out p.breaking d.link.talk.timer reading) (run_out p.breaking (shifted δ d.link.talk.timer) (shifted δ reading))
      (run_out_later p.breaking d.link.talk.timer)
      kept
      kept)
  tick_in_law Ability p draw d = talked p (own_in_round d.link) Ability d refl
  tick_in_law Ack p draw d = talked p (acknowledging d.link) Ack d refl
  tick_in_law Complete p draw d = talked p (acknowledging d.link) Complete d refl
  tick_in_law CheckLink p draw d =
      let number = inhibit_of d.link.outcome in
      saying_same nothing
      (twins_by (run_out number d.link.talk.timer reading) (run_out number (shifted δ d.link.talk.timer) (shifted δ reading))
      (run_out_later number d.link.talk.timer)
      kept
      kept)
  tick_in_law Up p draw d = saying_same nothing kept

  pub tick_alike : (p : Profile) (draw : ℕ) (d : Device) → Alike δ d.lasting.flags g (tick_due p reading draw d) (tick_due p (shifted δ reading) draw (twin δ g d))
  unfolding tick_due
  tick_alike p draw d = tick_in_law d.state p draw d

  -- A page sent.
  sent_in_law : (s : State) (order : List ℕ) (d : Device)
      → Alike δ d.lasting.flags g (sent_in s order reading (with_state s d)) (sent_in s order (shifted δ reading) (twin δ g (with_state s d)))
  unfolding counted decided next_or_null
  sent_in_law Off order d = saying_same (refused Turn) kept
  sent_in_law Break order d = saying_same (refused Turn) kept
  sent_in_law Ability order d = alike_if d.link.talk.out (saying_same nothing kept) (saying_same (refused Turn) kept)
  sent_in_law Ack order d = alike_if d.link.talk.out (saying_same nothing kept) (saying_same (refused Turn) kept)
  sent_in_law Complete order d =
      alike_if d.link.talk.out
      (alike_if (leb 3 (d.link.talk.count + 1))
      (alike_if (sets_next_page (own_in_round d.link) || sets_next_page (held_in_round d.link))
      (saying_same nothing (twins_if d.link.next.loaded kept (twins_if (sets_next_page (own_in_round d.link)) kept kept)))
      (saying_same (said_of (resolution_of order d.link.talk.own d.link.talk.held)) kept))
      (saying_same nothing kept))
      (saying_same (refused Turn) kept)
  sent_in_law CheckLink order d = alike_if d.link.talk.out (saying_same nothing kept) (saying_same (refused Turn) kept)
  sent_in_law Up order d = alike_if d.link.talk.out (saying_same nothing kept) (saying_same (refused Turn) kept)

  pub sent_alike : (order : List ℕ) (d : Device) → Alike δ d.lasting.flags g (sent_due order reading d) (sent_due order (shifted δ reading) (twin δ g d))
  unfolding sent_due
  sent_alike order d = sent_in_law d.state order d

  -- A link report.
  report_in_law : (s : State) (up : Bool) (d : Device)
      → Twins δ d.lasting.flags g (report_in s up reading (with_state s d)) (report_in s up (shifted δ reading) (twin δ g (with_state s d)))
  report_in_law Off up d = kept
  report_in_law Break up d = kept
  report_in_law Ability up d = kept
  report_in_law Ack up d = kept
  report_in_law Complete up d = kept
  report_in_law CheckLink up d = twins_if up (twins_if (has_rate d.link.outcome) kept kept) kept
  report_in_law Up up d = twins_if up kept kept

  pub report_alike : (up : Bool) (d : Device) → Alike δ d.lasting.flags g (report_due up reading d) (report_due up (shifted δ reading) (twin δ g d))
  unfolding report_due
  report_alike up d = saying_same nothing (report_in_law d.state up d)
