-- What is so of every device that calls have made: it is so of a fresh one, and every event keeps it.
use Rattle.line_reader.specs.Endings.{Heard}
use Rattle.std.specs.Prelude.{Option, Some, None, Ok, Err}
use Prim.Native.Nat.{ℕ, ◌+◌, ◌^◌, ◌<◌, ◌≤◌}
use mathlib.Core.Path.{◌≡◌, refl, sym, ap₂}
use mathlib.Core.Bool.{Bool, true, false, cond, not, ◌&&◌, ◌||◌, false≢true}
use mathlib.Core.List.{List, [], ◌∷◌}
use native.Mathlib.Omega.{arith}
use lib.Dec.{eqb, leb}
use borrow.Author.Tests.{leb-false, lt-leb}
use Rattle.answers.specs.Answers.{Said, nothing, refused, page_read, page_ordered, register_value}
use Rattle.answers.specs.declared.Refusal.{Refusal}
use Rattle.answers.specs.declared.Refusal.TheVariants as refusal
use Rattle.page_word.specs.Word.{has_bit, is_wide, among}
use Rattle.page_word.specs.Fields.{field_of, has_other_selector, is_tie}
use Rattle.page_word.specs.declared.fields.Field.TheVariants as field
use Rattle.page_word.proofs.FieldLaws.{part_below}
use Rattle.page_resolve.specs.Rates.{rate_order}
use Rattle.page_resolve.specs.Resolving.{resolution_of, said_of}
use Rattle.page_resolve.proofs.SettledAnswers.{resolves}
use Rattle.line_mode.specs.declared.modes.LineMode.{LineMode}
use Rattle.line_reader.specs.declared.endings.Broken.TheVariants.{Gap, Cut, Check}
use Rattle.line_reader.specs.Reading.{edge_of}
use Rattle.port_state.specs.declared.State.{State}
use Rattle.port_state.specs.declared.State.TheVariants as state
use Rattle.port_state.specs.declared.Talk.{Talk}
use Rattle.port_state.specs.declared.Device.{Device}
use Rattle.page_word.specs.Thirds.{start_of, third_of}
use Rattle.page_word.specs.NextPages.{sets_next_page, same_toggle, null_message}
use Rattle.port_state.specs.declared.rounds.Round.{Round}
use Rattle.port_state.specs.declared.rounds.Round.TheVariants.{Base, First, Later}
use Rattle.port_state.specs.Rounds.{is_base, is_first, own_in_round, held_in_round}
use Rattle.port_state.specs.Memory.{Due, due, is_talking, is_off, is_up, fresh_device, into_break, into_off, Outcome}
use Rattle.port_state.specs.Changes.{with_state, with_reader, with_out, with_count, with_latch, with_loaded}
use Rattle.port_registers.specs.declared.Bank.TheVariants as bank
use Rattle.port_registers.specs.declared.Register.{Register}
use Rattle.port_registers.specs.declared.Register.TheVariants.{Control, Status, Part}
use Rattle.port_registers.specs.Registers.{register_of, bank_of, bit_if, status_bits, read_at, read_due, enters_break_by, commanded, write_at, write_due}
use Rattle.port_timing.specs.declared.profile.Profile.{Profile}
use Rattle.port_timing.specs.Ticks.{low_speed, run_out, inhibit_of, own_page, may_order, orders, is_lost, talks, tick_in, tick_due}
use Rattle.port_timing.specs.Sending.{ended, round_after, goes_on, next_or_null, decided, counted, if_out, sent_in, sent_due, has_rate, report_in, report_due}
use Rattle.port_hearing.specs.BasePages.{is_changed, echoes_other, base_page_in_ability, base_page_in_ack}
use Rattle.port_hearing.specs.NextPages.{is_changed_next, repeats_held, next_page_in_ability, next_page_in_ack}
use Rattle.port_hearing.specs.Edges.{page_in_ability, page_in_ack, page_in, hears, edge_due}
use Rattle.port_step.specs.declared.events.Event.{Event}
use Rattle.port_step.specs.declared.events.Event.TheVariants.{Edge, Tick, Sent, Report, Read, Write, Unnamed}
use Rattle.port_step.specs.Steps.{step_over, step_due, after_all}
use Rattle.promises.specs.MadeByCalls.{is_resolved, kinds_for}
use Rattle.promises.proofs.SoundWords.{HeardWord, heard_word, own_selector, own_word, acknowledging_word, own_in_round_word, next_word, third_word}

-- An own base page, and with it a held one.
pub record Own (own : ℕ) : Type 0 where
  pub word : own < 2 ^ 48
  pub selector : has_other_selector own ≡ false

pub record Pair (own held : ℕ) : Type 0 where
  pub own_page_law : Own own
  pub word : held < 2 ^ 48
  pub selector : has_other_selector held ≡ false
  pub no_tie : is_tie own held ≡ false

-- In Ability the partner's base page is held once Next Pages are exchanged.
abbrev pub InAbility : Round → (own held : ℕ) → Type 0
InAbility Base own held = Own own
InAbility First own held = Pair own held
InAbility Later own held = Pair own held

-- By state: what is said and heard, and the outcome.
abbrev pub Talks : State → Round → Talk → Type 0
Talks state.Off r t = t.out ≡ false
Talks state.Break r t = (t.out ≡ false) × (is_base r ≡ true)
Talks state.Ability r t = InAbility r t.own t.held
Talks state.Ack r t = Pair t.own t.held × (is_first r ≡ false)
Talks state.Complete r t = Pair t.own t.held × (is_first r ≡ false) × (t.count ≤ 3)
Talks state.CheckLink r t = t.out ≡ false
Talks state.Up r t = t.out ≡ false

abbrev pub Comes : State → Outcome → Type 0
Comes state.Off o = o ≡ None
Comes state.Break o = o ≡ None
Comes state.Ability o = o ≡ None
Comes state.Ack o = o ≡ None
Comes state.Complete o = o ≡ None
Comes state.CheckLink o = is_resolved o ≡ true
Comes state.Up o = has_rate o ≡ true

-- 523-525 are zero until a Next Page of the partner's was held.
abbrev pub NoneHeard : Round → (heard : ℕ) → Type 0
NoneHeard Base heard = heard ≡ 0
NoneHeard First heard = heard ≡ 0
NoneHeard Later heard = Unit {0}

-- What is written or made from it are words: 514-516, 520-522, the own Next Page.
pub record SoundParts (advertised transmit next heard : ℕ) (r : Round) (s : State) (talk : Talk) (outcome : Outcome) : Type 0 where
  pub advertised_word : advertised < 2 ^ 48
  pub transmit_word : transmit < 2 ^ 48
  pub next_own : next < 2 ^ 48
  pub none_heard : NoneHeard r heard
  pub talks : Talks s r talk
  pub comes : Comes s outcome

abbrev pub Sound : Device → Type 0
Sound d =
    SoundParts d.lasting.advertised d.link.next.transmit d.link.next.own d.link.next.heard d.link.next.round d.state d.link.talk d.link.outcome

-- What an event brings: the answer is of one of these kinds, its value below 2^48, and the device is sound.
pub record Brings (kinds : List ℕ) (x : Due) : Type 0 where
  pub kind : among x.says.kind kinds ≡ true
  pub value : x.says.value < 2 ^ 48
  pub sound : Sound x.device

-- An answer of one of the kinds, with its value and the device; nothing.
answers : {kinds : List ℕ} {d : Device} (s : Said) → among s.kind kinds ≡ true → s.value < 2 ^ 48 → Sound d → Brings kinds (due s d)
answers s listed small sound = record { kind = listed; value = small; sound = sound }

silent : {kinds : List ℕ} {d : Device} → Sound d → Brings (0 ∷ kinds) (due nothing d)
silent s = record { kind = refl; value = omega arith; sound = s }

-- Under a test, whose outcome may be used.
either : {kinds : List ℕ} {x y : Due} (t : Bool) → (t ≡ true → Brings kinds x) → (t ≡ false → Brings kinds y) → Brings kinds (cond t x y)
either true a b = a refl
either false a b = b refl

either_device : {kinds : List ℕ} {says : Said} {x y : Device} (t : Bool) → (t ≡ true → Brings kinds (due says x)) → (t ≡ false → Brings kinds (due says y))
    → Brings kinds (due says (cond t x y))
either_device true a b = a refl
either_device false a b = b refl

-- Another state and talk, as sound.
turns : {a m n h : ℕ} {r : Round} {s u : State} {t v : Talk} {o : Outcome} → Talks u r v → Comes u o → SoundParts a m n h r s t o → SoundParts a m n h r u v o
turns talks comes x =
    record {
      advertised_word = x.advertised_word;
      transmit_word = x.transmit_word;
      next_own = x.next_own;
      none_heard = x.none_heard;
      talks = talks;
      comes = comes;
    }

-- The same at round later, whatever was heard.
turns_later : {a m n h k : ℕ} {r : Round} {s u : State} {t v : Talk} {o : Outcome} → Talks u Later v → Comes u o → SoundParts a m n h r s t o
    → SoundParts a m n k Later u v o
turns_later talks comes x =
    record {
      advertised_word = x.advertised_word;
      transmit_word = x.transmit_word;
      next_own = x.next_own;
      none_heard = tt;
      talks = talks;
      comes = comes;
    }

-- Another talk, as sound in this state.
retalk : {a m n h : ℕ} {r : Round} {s : State} {t u : Talk} {o : Outcome} → Talks s r u → SoundParts a m n h r s t o → SoundParts a m n h r s u o
retalk talks x = turns talks x.comes x

into_break_law : (reading : ℕ) (d : Device) → Sound d → Sound (into_break reading d)
into_break_law reading d s = record { advertised_word = s.advertised_word; transmit_word = omega arith; next_own = omega arith; none_heard = refl; talks = (refl, refl); comes = refl }

into_off_law : (d : Device) → Sound d → Sound (into_off d)
into_off_law d s = record { advertised_word = s.advertised_word; transmit_word = omega arith; next_own = omega arith; none_heard = refl; talks = refl; comes = refl }

pub fresh_sound : Sound fresh_device
fresh_sound = record { advertised_word = omega arith; transmit_word = omega arith; next_own = omega arith; none_heard = refl; talks = refl; comes = refl }

-- In Ability at rounds first and later a base page is held.
pub held_before : (r : Round) (own held : ℕ) → is_base r ≡ false → InAbility r own held → Pair own held
held_before Base own held other h = absurd (false≢true (sym other))
held_before First own held other h = h
held_before Later own held other h = h

pub own_before : (r : Round) (own held : ℕ) → InAbility r own held → Own own
own_before Base own held h = h
own_before First own held h = h.own_page_law
own_before Later own held h = h.own_page_law

-- Break is left at round base.
own_at_base : (r : Round) (own held : ℕ) → is_base r ≡ true → Own own → InAbility r own held
own_at_base Base own held base h = h
own_at_base First own held base h = absurd (false≢true base)
own_at_base Later own held base h = absurd (false≢true base)

-- The page after Complete is sent at the first round or a later one.
goes_on_sound : (r : Round) (own held : ℕ) → Pair own held → InAbility (round_after r) own held
goes_on_sound Base own held h = h
goes_on_sound First own held h = h
goes_on_sound Later own held h = h

-- What the next own page keeps, and what a round that is neither base nor first allows.
still_none : (r : Round) (heard : ℕ) → NoneHeard r heard → NoneHeard (round_after r) heard
still_none Base heard h = h
still_none First heard h = h
still_none Later heard h = h

any_heard : (r : Round) (heard : ℕ) → is_base r ≡ false → is_first r ≡ false → NoneHeard r heard
any_heard Base heard base first = absurd (false≢true (sym base))
any_heard First heard base first = absurd (false≢true (sym first))
any_heard Later heard base first = tt

-- A base round, or a later one: never the first.
base_later : (r : Round) → is_base r ≡ true → is_first r ≡ false
base_later Base h = refl
base_later First h = absurd (false≢true h)
base_later Later h = refl

-- Good pages, by state.
module _ (reading word : ℕ) (is_word : word < 2 ^ 48) where
  refusing : {d : Device} (r : Refusal) → among (refused r).kind (kinds_for (Edge reading)) ≡ true → Sound d → Brings (kinds_for (Edge reading)) (due (refused r) d)
  refusing r listed s = answers (refused r) listed (omega arith) s

  taking : {d : Device} → Sound d → Brings (kinds_for (Edge reading)) (due (page_read word) d)
  taking s = answers (page_read word) refl is_word s

  in_ability_law : (d : Device) → Sound (with_state state.Ability d) → Brings (kinds_for (Edge reading)) (page_in_ability word reading (with_state state.Ability d))
  unfolding page_in_ability base_page_in_ability next_page_in_ability
  in_ability_law d s =
      let broken = into_break_law reading (with_state state.Ability d) s in
      let r = d.link.next.round in
      let own = own_before r d.link.talk.own d.link.talk.held s.talks in
      either (is_base r)
      (λ base. either (has_other_selector word) (λ _. refusing refusal.Selector refl s)
      (λ selector. either (is_tie d.link.talk.own word) (λ _. refusing refusal.Tie refl broken)
      (λ apart. taking (turns (record { own_page_law = own; word = is_word; selector = selector; no_tie = apart }, base_later r base) s.comes s))))
      (λ next. either (repeats_held word d.link) (λ _. taking (retalk s.talks s))
      (λ _. either (same_toggle word (held_in_round d.link)) (λ _. refusing refusal.Toggle refl broken)
      (λ _. taking (turns_later (held_before r d.link.talk.own d.link.talk.held next s.talks, refl) s.comes s))))

  in_ack : (d : Device) → Sound (with_state state.Ack d) → Brings (kinds_for (Edge reading)) (page_in_ack word reading (with_state state.Ack d))
  unfolding page_in_ack base_page_in_ack next_page_in_ack
  in_ack d s =
      let broken = into_break_law reading (with_state state.Ack d) s in
      either (is_base d.link.next.round)
      (λ _. either (is_changed word d.link.talk.held) (λ _. refusing refusal.Changed refl broken)
      (λ _. either (eqb (field_of field.Ack word) 0) (λ _. taking (retalk s.talks s))
      (λ _. either (echoes_other d.link.talk.own word) (λ _. refusing refusal.Echo refl broken) (λ _. taking (turns (s.talks.0, s.talks.1, omega arith) s.comes s)))))
      (λ next. either (is_changed_next word (held_in_round d.link)) (λ _. refusing refusal.Changed refl broken)
      (λ _. either (eqb (field_of field.Ack word) 0) (λ _. taking (retalk s.talks s))
      (λ _. taking
      (record {
        advertised_word = s.advertised_word;
        transmit_word = s.transmit_word;
        next_own = s.next_own;
        none_heard = any_heard d.link.next.round word next s.talks.1;
        talks = (s.talks.0, s.talks.1, omega arith);
        comes = s.comes;
      }))))

  in_state : (st : State) (d : Device) → Sound (with_state st d) → Brings (kinds_for (Edge reading)) (page_in st word reading (with_state st d))
  unfolding page_in
  in_state state.Off d s = silent s
  in_state state.Break d s = silent s
  in_state state.Ability d s = in_ability_law d s
  in_state state.Ack d s = in_ack d s
  in_state state.Complete d s = taking (retalk s.talks s)
  in_state state.CheckLink d s = silent s
  in_state state.Up d s = silent s

-- Edges.
heard_brings : (h : Heard) (reading : ℕ) (d : Device) → HeardWord h → Sound d → Brings (kinds_for (Edge reading)) (hears h reading d)
unfolding hears
heard_brings None reading d w s = silent s
heard_brings (Some (Ok word)) reading d w s = in_state reading word w d.state d s
heard_brings (Some (Err Gap)) reading d w s = answers (refused refusal.Gap) refl (omega arith) s
heard_brings (Some (Err Cut)) reading d w s = answers (refused refusal.Cut) refl (omega arith) s
heard_brings (Some (Err Check)) reading d w s = answers (refused refusal.Check) refl (omega arith) s

edge_brings : (mode : LineMode) (reading : ℕ) (d : Device) → Sound d → Brings (kinds_for (Edge reading)) (edge_due mode reading d)
unfolding edge_due
edge_brings mode reading d s =
    let brought = edge_of mode d.link.reader reading in
    either (is_talking d.state && not d.link.talk.out)
    (λ _. heard_brings brought.heard reading (with_reader brought.reader d) (heard_word mode d.link.reader reading) s) (λ _. silent s)

-- Ticks.
module _ (p : Profile) (reading draw : ℕ) where
  order_brings : (word : ℕ) (d : Device) → word < 2 ^ 48 → Sound (with_out true d) → Sound d → Brings (kinds_for (Tick reading draw)) (orders p reading word d)
  unfolding orders
  order_brings word d small out s = either (may_order p reading d.link) (λ _. answers (page_ordered word) refl small out) (λ _. silent s)

  talk_brings : (word : ℕ) (d : Device) → word < 2 ^ 48 → Sound (with_out true d) → Sound d → Brings (kinds_for (Tick reading draw)) (talks p reading word d)
  unfolding talks
  talk_brings word d small out s = either (is_lost p reading d.link) (λ _. silent (into_break_law reading d s)) (λ _. order_brings word d small out s)

  tick_in_law : (st : State) (d : Device) → Sound (with_state st d) → Brings (kinds_for (Tick reading draw)) (tick_in st p reading draw (with_state st d))
  tick_in_law state.Off d s = silent s
  tick_in_law state.Break d s =
      either_device (run_out p.breaking d.link.talk.timer reading)
      (λ _. let advertised = d.lasting.advertised in
      let loaded = d.link.next.loaded in
      silent
      (turns
      (own_at_base d.link.next.round (own_page advertised draw loaded) d.link.talk.held s.talks.1
      (record { word = own_word advertised draw loaded s.advertised_word; selector = own_selector advertised draw loaded }))
      s.comes s))
      (λ _. silent s)
  tick_in_law state.Ability d s =
      talk_brings _ (with_state state.Ability d) (own_in_round_word d.link (own_before d.link.next.round d.link.talk.own d.link.talk.held s.talks).word s.next_own)
      (retalk s.talks s) s
  tick_in_law state.Ack d s =
      talk_brings _ (with_state state.Ack d) (acknowledging_word d.link s.talks.0.own_page_law.word s.next_own) (retalk s.talks s) s
  tick_in_law state.Complete d s =
      talk_brings _ (with_state state.Complete d) (acknowledging_word d.link s.talks.0.own_page_law.word s.next_own) (retalk s.talks s) s
  tick_in_law state.CheckLink d s =
      either_device (run_out (inhibit_of d.link.outcome) d.link.talk.timer reading) (λ _. silent (into_break_law reading (with_state state.CheckLink d) s)) (λ _. silent s)
  tick_in_law state.Up d s = silent s

  tick_brings : (d : Device) → Sound d → Brings (kinds_for (Tick reading draw)) (tick_due p reading draw d)
  unfolding tick_due
  tick_brings d s = tick_in_law d.state d s

-- Pages sent. What resolving answers, where two pages have been counted before.
listed_more : (zero none roles turn settled : Bool) → (none || (roles || (settled || false))) ≡ true → (zero || (none || (roles || (turn || (settled || false))))) ≡ true
listed_more true none roles turn settled h = refl
listed_more false true roles turn settled h = refl
listed_more false false true turn settled h = refl
listed_more false false false true settled h = refl
listed_more false false false false settled h = h

pub narrow : (w : ℕ) → w < 2 ^ 48 → is_wide w ≡ false
narrow w h = lt-leb (2 ^ 48) w h

resolved_brings : (reading own held : ℕ) {d : Device} → Pair own held → Sound d → Brings (kinds_for (Sent reading)) (due (said_of (resolution_of rate_order own held)) d)
resolved_brings reading own held {d} pair sound =
    let r = resolves own held pair.own_page_law.selector pair.selector pair.no_tie in
    let listed = listed_more (eqb r.0.kind 0) (eqb r.0.kind 8) (eqb r.0.kind 9) (eqb r.0.kind 11) (eqb r.0.kind 0x82) r.1.kind in
    let words : (is_wide own || is_wide held) ≡ false = ap₂ ◌||◌ (narrow own pair.own_page_law.word) (narrow held pair.word) in
    rw (r.2, words) (answers r.0 listed r.1.value sound)

module _ (reading : ℕ) where
  sent_out : (d : Device) {x : Due} → Brings (kinds_for (Sent reading)) x → Sound d → Brings (kinds_for (Sent reading)) (if_out d x)
  sent_out d next s = either d.link.talk.out (λ _. next) (λ _. answers (refused refusal.Turn) refl (omega arith) s)

  -- At three: one more page, or the end.
  next_sound : (d : Device) → Sound (with_state state.Complete d) → Sound (next_or_null (with_state state.Complete d))
  unfolding next_or_null
  next_sound d s = by d.link.next.loaded
    where
      before : ℕ
      before = own_in_round d.link

      going : (word : ℕ) → word < 2 ^ 48 → Sound (goes_on word (with_state state.Complete d))
      going word small =
          record {
            advertised_word = s.advertised_word;
            transmit_word = s.transmit_word;
            next_own = next_word before word small;
            none_heard = still_none d.link.next.round d.link.next.heard s.none_heard;
            talks = goes_on_sound d.link.next.round d.link.talk.own d.link.talk.held s.talks.0;
            comes = s.comes;
          }

      by_null : (t : Bool) → Sound (cond t (with_state state.Complete d) (goes_on null_message (with_state state.Complete d)))
      by_null true = s
      by_null false = going null_message (omega arith)

      by : (t : Bool)
          → Sound
          (cond t (goes_on d.link.next.transmit (with_loaded false (with_state state.Complete d)))
          (cond (sets_next_page before) (with_state state.Complete d) (goes_on null_message (with_state state.Complete d))))
      by true = going d.link.next.transmit s.transmit_word
      by false = by_null (sets_next_page before)

  decided_brings : (d : Device) → d.link.talk.out ≡ false → Sound (with_state state.Complete d) → Brings (kinds_for (Sent reading)) (decided rate_order reading (with_state state.Complete d))
  unfolding decided
  decided_brings d quiet s =
      either (sets_next_page (own_in_round d.link) || sets_next_page (held_in_round d.link)) (λ _. silent (next_sound d s))
      (λ _. resolved_brings reading d.link.talk.own d.link.talk.held s.talks.0
      (record { advertised_word = s.advertised_word; transmit_word = s.transmit_word; next_own = s.next_own; none_heard = s.none_heard; talks = quiet; comes = refl }))

  sent_in_law : (st : State) (d : Device) → Sound (with_state st d) → Brings (kinds_for (Sent reading)) (sent_in st rate_order reading (with_state st d))
  unfolding counted
  sent_in_law state.Off d s = answers (refused refusal.Turn) refl (omega arith) s
  sent_in_law state.Break d s = answers (refused refusal.Turn) refl (omega arith) s
  sent_in_law state.Ability d s = sent_out (with_state state.Ability d) (silent (retalk s.talks s)) s
  sent_in_law state.Ack d s = sent_out (with_state state.Ack d) (silent (retalk s.talks s)) s
  sent_in_law state.Complete d s =
      sent_out (with_state state.Complete d)
      (either (leb 3 (d.link.talk.count + 1))
      (λ _. decided_brings (with_count 3 (ended reading d)) refl (retalk (s.talks.0, s.talks.1, omega arith) s))
      (λ few. silent (retalk (s.talks.0, s.talks.1, let l = leb-false 3 (d.link.talk.count + 1) few in omega (arith, l)) s))) s
  sent_in_law state.CheckLink d s = sent_out (with_state state.CheckLink d) (silent (retalk refl s)) s
  sent_in_law state.Up d s = sent_out (with_state state.Up d) (silent (retalk refl s)) s

  sent_brings : (d : Device) → Sound d → Brings (kinds_for (Sent reading)) (sent_due rate_order reading d)
  unfolding sent_due
  sent_brings d s = sent_in_law d.state d s

  -- Reports.
  report_in_law : (up : Bool) (st : State) (d : Device) → Sound (with_state st d)
      → Brings (kinds_for (Report reading up)) (due nothing (report_in st up reading (with_state st d)))
  report_in_law up state.Off d s = silent s
  report_in_law up state.Break d s = silent s
  report_in_law up state.Ability d s = silent s
  report_in_law up state.Ack d s = silent s
  report_in_law up state.Complete d s = silent s
  report_in_law up state.CheckLink d s =
      either_device up
      (λ _. either_device (has_rate d.link.outcome)
      (λ rate. silent (turns s.talks rate s)) (λ _. silent s))
      (λ _. silent s)
  report_in_law up state.Up d s = either_device up (λ _. silent s) (λ _. silent (into_break_law reading (with_state state.Up d) s))

  report_brings : (up : Bool) (d : Device) → Sound d → Brings (kinds_for (Report reading up)) (report_due up reading d)
  unfolding report_due
  report_brings up d s = report_in_law up d.state d s

  -- Reads. The latch is no part of what is sound.
  relatch : (st : State) (r : Round) (latch : Bool) (d : Device) → Talks st r d.link.talk → Talks st r (with_latch latch d).link.talk
  relatch state.Off r latch d h = h
  relatch state.Break r latch d h = h
  relatch state.Ability r latch d h = h
  relatch state.Ack r latch d h = h
  relatch state.Complete r latch d h = h
  relatch state.CheckLink r latch d h = h
  relatch state.Up r latch d h = h

  bit_small : (n : ℕ) (t : Bool) → bit_if n t ≤ 2 ^ n
  bit_small n true = omega arith
  bit_small n false = omega arith

  status_small : (received up fault latch : Bool) → status_bits received up fault latch < 2 ^ 48
  unfolding status_bits
  status_small received up fault latch =
      omega (arith, bit_small 6 received, bit_small 5 up, bit_small 4 fault, bit_small 2 latch)

  control_small : (off : Bool) → cond off 0 (2 ^ 12) < 2 ^ 48
  control_small true = omega arith
  control_small false = omega arith

  read_at_law : (n : ℕ) (r : Option Register) (d : Device) → Sound d → Brings (kinds_for (Read reading n)) (read_at r d)
  read_at_law n (Some Control) d s = answers (register_value (cond (is_off d.state) 0 (2 ^ 12))) refl (control_small (is_off d.state)) s
  read_at_law n (Some Status) d s =
      answers (register_value (status_bits d.lasting.flags.received (is_up d.state) d.lasting.flags.fault d.link.talk.latch)) refl
      (status_small d.lasting.flags.received (is_up d.state) d.lasting.flags.fault d.link.talk.latch)
      (retalk (relatch d.state d.link.next.round (is_up d.state) d s.talks) s)
  read_at_law n (Some (Part bank third)) d s =
      answers (register_value (third_of third (bank_of bank d))) refl (let l = part_below (start_of third) 16 (bank_of bank d) in omega (arith, l)) s
  read_at_law n None d s = answers (refused refusal.Register) refl (omega arith) s

  read_brings : (n : ℕ) (d : Device) → Sound d → Brings (kinds_for (Read reading n)) (read_due n d)
  unfolding read_due
  read_brings n d s = read_at_law n (register_of n) d s

  -- Writes.
  write_at_law : (n : ℕ) (r : Option Register) (value : ℕ) (d : Device) → Sound d → Brings (kinds_for (Write reading n value)) (write_at r value reading d)
  unfolding commanded
  write_at_law n (Some Control) value d s =
      either_device (has_bit value 15) (λ _. silent fresh_sound)
      (λ _. either_device (has_bit value 12)
      (λ _. either_device (enters_break_by value d.state) (λ _. silent (into_break_law reading d s)) (λ _. silent s))
      (λ _. silent (into_off_law d s)))
  write_at_law n (Some Status) value d s = silent s
  write_at_law n (Some (Part bank.Advertised third)) value d s =
      silent
      (record {
        advertised_word = third_word third value d.lasting.advertised s.advertised_word;
        transmit_word = s.transmit_word;
        next_own = s.next_own;
        none_heard = s.none_heard;
        talks = s.talks;
        comes = s.comes;
      })
  write_at_law n (Some (Part bank.Partner third)) value d s = silent s
  write_at_law n (Some (Part bank.Transmit third)) value d s =
      silent
      (record {
        advertised_word = s.advertised_word;
        transmit_word = third_word third value d.link.next.transmit s.transmit_word;
        next_own = s.next_own;
        none_heard = s.none_heard;
        talks = s.talks;
        comes = s.comes;
      })
  write_at_law n (Some (Part bank.Heard third)) value d s = silent s
  write_at_law n None value d s = answers (refused refusal.Register) refl (omega arith) s

  write_brings : (n value : ℕ) (d : Device) → Sound d → Brings (kinds_for (Write reading n value)) (write_due n value reading d)
  unfolding write_due
  write_brings n value d s = write_at_law n (register_of n) value d s

-- Every event.
pub step_brings : (e : Event) (d : Device) → Sound d → Brings (kinds_for e) (step_due e d)
unfolding step_over
step_brings (Edge reading) d s = edge_brings low_speed.mode reading d s
step_brings (Tick reading draw) d s = tick_brings low_speed reading draw d s
step_brings (Sent reading) d s = sent_brings reading d s
step_brings (Report reading up) d s = report_brings reading up d s
step_brings (Read reading register) d s = read_brings reading register d s
step_brings (Write reading register value) d s = write_brings reading register value d s
step_brings Unnamed d s = silent s

pub all_sound : (events : List Event) (d : Device) → Sound d → Sound (after_all d events)
unfolding after_all
all_sound [] d s = s
all_sound (e ∷ later) d s = all_sound later (step_due e d).device (step_brings e d s).sound
