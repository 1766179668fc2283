-- Facts about single values that the devices which calls have made rest on: a page that is heard is a word, an own page has selector 1 and is one too.
use Rattle.line_reader.specs.Endings.{Heard}
use Rattle.std.specs.Prelude.{Some, None, Ok, Err}
use Prim.Native.Nat.{ℕ, ◌+◌, ◌%◌, ◌^◌, ◌<◌}
use mathlib.Core.Path.{◌≡◌, ap, ◌∙◌}
use mathlib.Core.Bool.{Bool, true, false, cond, not}
use native.Mathlib.Nat.{mod-lt}
use native.Mathlib.Omega.{arith}
use lib.Dec.{eqb}
use lib.Pow.{pow_pos}
use Rattle.page_word.specs.Fields.{with_field, has_other_selector}
use Rattle.page_word.specs.declared.fields.Field.TheVariants as field
use Rattle.page_word.proofs.FieldLaws.{get_after_set, set_keeps, stays_below, set_stays_word}
use Rattle.page_check_bits.specs.CheckBits.{agrees}
use Rattle.line_mode.specs.declared.modes.LineMode.{LineMode}
use Rattle.line_mode.specs.declared.modes.Judgement.{Judgement}
use Rattle.line_mode.specs.declared.modes.Judgement.TheVariants.{Positions, Quiet, Unfit}
use Rattle.line_mode.specs.Clock.{time_between}
use Rattle.line_mode.specs.Gaps.{judgement_of}
use Rattle.line_reader.specs.declared.endings.Broken.TheVariants.{Gap, Check}
use Rattle.line_reader.specs.declared.reader.Reader.{Reader}
use Rattle.line_reader.specs.declared.reader.Reader.TheVariants.{Fresh, Open, Dropping}
use Rattle.line_reader.specs.Pattern.{asks}
use Rattle.line_reader.specs.Reading.{step, with_bit, page_end, arrives, goes_on, drops_on, edge_of}
use Rattle.page_word.specs.NextPages.{next_after}
use Rattle.page_word.specs.declared.thirds.Third.{Third}
use Rattle.page_word.specs.declared.thirds.Third.TheVariants.{Low, Middle, High}
use Rattle.page_word.specs.Thirds.{with_third}
use Rattle.port_state.specs.declared.rounds.Round.{Round}
use Rattle.port_state.specs.declared.rounds.Round.TheVariants.{Base, First, Later}
use Rattle.port_state.specs.declared.Link.{Link}
use Rattle.port_state.specs.Rounds.{by_round, is_base, own_in_round}
use Rattle.port_timing.specs.Ticks.{own_page, echoing_page, acknowledging}

-- A good page, if one is heard, is a word, from whatever reader.
abbrev pub HeardWord : Heard → Type 0
HeardWord None = Unit {0}
HeardWord (Some (Ok word)) = word < 2 ^ 48
HeardWord (Some (Err broken)) = Unit {0}

page_word_law : (bits : ℕ) → HeardWord (Some (page_end bits))
page_word_law bits = by (agrees bits)
  where
    by : (t : Bool) → HeardWord (Some (cond t (Ok (bits % 2 ^ 48)) (Err Check)))
    by true = mod-lt bits (pow_pos 48)
    by false = tt

arrives_word : (at bits reading : ℕ) → HeardWord (arrives at bits reading).heard
unfolding arrives
arrives_word at bits reading = by (eqb at 157)
  where
    by : (t : Bool) → HeardWord (cond t (step (Some (page_end bits)) (Dropping reading)) (step None (Open at reading bits))).heard
    by true = page_word_law bits
    by false = tt

goes_word : (mode : LineMode) (at bits reading : ℕ) (j : Judgement) → HeardWord (goes_on mode at bits reading j).heard
unfolding goes_on
goes_word mode at bits reading Quiet = tt
goes_word mode at bits reading Unfit = tt
goes_word mode at bits reading (Positions k) = by (asks mode at k)
  where
    by : (t : Bool) → HeardWord (cond t (arrives (at + k) (with_bit at k bits) reading) (step (Some (Err Gap)) (Dropping reading))).heard
    by true = arrives_word (at + k) (with_bit at k bits) reading
    by false = tt

drops_word : (reading : ℕ) (j : Judgement) → HeardWord (drops_on reading j).heard
unfolding drops_on
drops_word reading Quiet = tt
drops_word reading Unfit = tt
drops_word reading (Positions k) = tt

pub heard_word : (mode : LineMode) (r : Reader) (reading : ℕ) → HeardWord (edge_of mode r reading).heard
unfolding edge_of
heard_word mode Fresh reading = tt
heard_word mode (Open at last bits) reading = goes_word mode at bits reading (judgement_of mode (time_between reading last))
heard_word mode (Dropping last) reading = drops_word reading (judgement_of mode (time_between reading last))

-- An own page has selector 1, whatever is advertised, and is a word where the advertisement is.
pub own_selector : (advertised draw : ℕ) (loaded : Bool) → has_other_selector (own_page advertised draw loaded) ≡ false
unfolding own_page
own_selector advertised draw loaded =
    ap (λ (s : ℕ). not (eqb s 1))
    (set_keeps field.Nonce field.Selector _ _ (λ e. omega arith) ∙ set_keeps field.NextPage field.Selector _ _ (λ e. omega arith)
    ∙ set_keeps field.Ack field.Selector 0 _ (λ e. omega arith) ∙ set_keeps field.EchoedNonce field.Selector 0 _ (λ e. omega arith)
    ∙ get_after_set field.Selector 1 advertised)

pub own_word : (advertised draw : ℕ) (loaded : Bool) → advertised < 2 ^ 48 → own_page advertised draw loaded < 2 ^ 48
unfolding own_page
own_word advertised draw loaded h =
    set_stays_word field.Nonce _ _
    (set_stays_word field.NextPage _ _ (set_stays_word field.Ack 0 _ (set_stays_word field.EchoedNonce 0 _ (set_stays_word field.Selector 1 advertised h))))

pub echoing_word : (own held : ℕ) → own < 2 ^ 48 → echoing_page own held < 2 ^ 48
unfolding echoing_page
echoing_word own held h = set_stays_word field.Ack 1 _ (set_stays_word field.EchoedNonce _ own h)

pub acknowledging_word : (l : Link) → l.talk.own < 2 ^ 48 → l.next.own < 2 ^ 48 → acknowledging l < 2 ^ 48
unfolding acknowledging
acknowledging_word l base next = by l.next.round
  where
    by : (r : Round) → cond (is_base r) (echoing_page l.talk.own l.talk.held) (with_field field.Ack 1 (by_round r l.talk.own l.next.own l.next.own)) < 2 ^ 48
    by Base = echoing_word l.talk.own l.talk.held base
    by First = set_stays_word field.Ack 1 l.next.own next
    by Later = set_stays_word field.Ack 1 l.next.own next

-- The own page of a round, and a Next Page that follows it.
pub own_in_round_word : (l : Link) → l.talk.own < 2 ^ 48 → l.next.own < 2 ^ 48 → own_in_round l < 2 ^ 48
own_in_round_word l base next = by l.next.round
  where
    by : (r : Round) → by_round r l.talk.own l.next.own l.next.own < 2 ^ 48
    by Base = base
    by First = next
    by Later = next

pub next_word : (before word : ℕ) → word < 2 ^ 48 → next_after before word < 2 ^ 48
unfolding next_after
next_word before word h = stays_below 48 11 1 _ _ (omega arith) (set_stays_word field.Ack 0 word h)

-- A word with one of its registers written.
pub third_word : (third : Third) (value word : ℕ) → word < 2 ^ 48 → with_third third value word < 2 ^ 48
third_word Low value word h = stays_below 48 0 16 value word (omega arith) h
third_word Middle value word h = stays_below 48 16 16 value word (omega arith) h
third_word High value word h = stays_below 48 32 16 value word (omega arith) h
