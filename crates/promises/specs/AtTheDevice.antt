-- The customer's demand 2, at a device: "transitions after quiet or a fresh start, each gap in its window, read back as the page sent, and no others read as a
-- page." `ReadingBack` says it of the edge reader and of captures; here it is said of a device after any events from fresh on, over the edges that it takes.
use Rattle.std.specs.Prelude.{ℕ, ◌^◌, ◌<◌, ◌≡◌, Bool, true, false, not, ◌&&◌, ◌||◌, List, [], ◌∷◌, ◌++◌, map, if◌then◌else◌}
use Rattle.answers.specs.declared.Refusal.TheVariants.{Cut}
use Rattle.answers.specs.Choices.{◌=?◌}
use Rattle.answers.specs.Answers.{Said, nothing, refused, page_read}
use Rattle.page_word.specs.Word.{among}
use Rattle.line_mode.specs.Modes.{lsm_mode}
use Rattle.line_reader.specs.declared.reader.Reader.{Reader}
use Rattle.line_reader.specs.declared.reader.Reader.TheVariants.{Fresh}
use Rattle.line_reader.specs.Reading.{reader_after}
use Rattle.line_captures.specs.Captures.{is_open}
use Rattle.line_captures.specs.ReadingBack.{Carries, only_last, opens_after}
use Rattle.port_state.specs.declared.Device.{Device}
use Rattle.port_state.specs.Memory.{due, fresh_device, is_talking}
use Rattle.port_timing.specs.Ticks.{low_speed, is_lost}
use Rattle.port_hearing.specs.Edges.{takes_edges, page_in}
use Rattle.port_step.specs.declared.events.Event.{Event}
use Rattle.port_step.specs.declared.events.Event.TheVariants.{Edge, Tick, Sent, Report, Read, Write, Unnamed}
use Rattle.port_step.specs.Steps.{step_due, says_to, after_all}

-- The reading of an edge that is taken; of any other event, none.
abbrev pub taken_of : Event → Device → List ℕ
taken_of (Edge reading) d = if takes_edges d then reading ∷ [] else []
taken_of (Tick reading draw) d = []
taken_of (Sent reading) d = []
taken_of (Report reading up) d = []
taken_of (Read reading register) d = []
taken_of (Write reading register value) d = []
taken_of Unnamed d = []

-- The device is in Ability, Ack or Complete before an event and after it: so the link is still the same.
abbrev pub talks_on : Event → Device → Bool
talks_on e d = is_talking d.state && is_talking (step_due e d).device.state

-- The edges taken since Break was last left, after one more event: those of before and this one, if it is an edge that is taken; and none outside Ability, Ack
-- and Complete, and at the event that leaves Break ("reader fresh"). An edge that is ignored does not count, also not for quiet: after a page was out, what
-- counts is the time since the last edge before it that was taken.
abbrev pub taken_next : (edges : List ℕ) → Event → Device → List ℕ
taken_next edges e d = if talks_on e d then edges ++ taken_of e d else []

-- So along a row of events.
unfoldable pub taken_along : (edges : List ℕ) → Device → List Event → List ℕ
taken_along edges d [] = edges
taken_along edges d (e ∷ later) = taken_along (taken_next edges e d) (step_due e d).device later

-- A device after any events, from fresh on, and the edges that it has then taken since it last left Break.
abbrev pub after : List Event → Device
after past = after_all fresh_device past

abbrev pub taken : List Event → List ℕ
taken past = taken_along [] fresh_device past

-- The reader that these edges have made of a fresh one.
abbrev pub reader_of : List Event → Reader
reader_of past = reader_after lsm_mode Fresh (taken past)

-- That the device after these events is inside a word's page, of which `rest` is yet to come: it takes edges; those that it has taken, from one on where an attempt
-- may open, and the rest carry the word.
pub record UnderWay (past : List Event) (w : ℕ) (rest : List ℕ) : Type 0 where
  pub takes : takes_edges (after past) ≡ true
  pub before : List ℕ
  pub first : ℕ
  pub later : List ℕ
  pub whole : taken past ≡ before ++ (first ∷ later)
  pub opened : opens_after lsm_mode before first ≡ true
  pub word : w < 2 ^ 48
  pub carried : Carries lsm_mode w (first ∷ (later ++ rest))

-- What the state has to say of a word's page. (The reading goes into the device only, and is not said.)
abbrev pub page_says : (word : ℕ) → Device → Said
page_says word d = (page_in d.state word 0 d).says

-- The refusals of a page: 4 to 7, Selector, Tie, Changed, Echo; and 17, Toggle.
abbrev pub refuses_page : Said → Bool
refuses_page s = among s.kind (4 ∷ 5 ∷ 6 ∷ 7 ∷ 17 ∷ [])

-- "A good page not refused answers itself": the answer is this page, or a refusal of a page.
abbrev pub is_of_page : (word : ℕ) → Said → Bool
is_of_page word s = refuses_page s || (s.kind =? (page_read word).kind && s.value =? word)

-- An edge that is taken, with this answer: an edge that came next would be taken too, and this one is now the last of those taken.
pub record GoesOn (past : List Event) (x : ℕ) (says : Said) : Type 0 where
  pub answer : (step_due (Edge x) (after past)).says ≡ says
  pub takes : takes_edges (after (past ++ (Edge x ∷ []))) ≡ true
  pub edges : taken (past ++ (Edge x ∷ [])) ≡ taken past ++ (x ∷ [])

-- That an event after others is the last edge of a word's page.
pub record EndsPage (past : List Event) (e : Event) (w : ℕ) : Type 0 where
  pub reading : ℕ
  pub edge : e ≡ Edge reading
  pub page : UnderWay past w (reading ∷ [])

-- Events that change neither the state, in Ability, Ack and Complete, nor what was taken: any that is no edge, no page sent, no write to 512 and no tick that finds the
-- partner lost, which goes to Break.
abbrev pub comes_between : Event → Device → Bool
comes_between (Edge reading) d = false
comes_between (Tick reading draw) d = not (is_lost low_speed reading d.link)
comes_between (Sent reading) d = false
comes_between (Report reading up) d = true
comes_between (Read reading register) d = true
comes_between (Write reading register value) d = not (register =? 512)
comes_between Unnamed d = true

-- What an edge where an attempt may open answers: Cut where it ends an open one, else nothing.
abbrev pub cut_or_nothing : List Event → Said
cut_or_nothing past = if is_open (reader_of past) then refused Cut else nothing

pub record ReadingAtTheDevice : Type 0 where
  -- Edges are ignored while a page is out, and outside Ability, Ack and Complete, also by devices that no events have made.
  pub out_ignored : (d : Device) (x : ℕ) → d.link.talk.out ≡ true → step_due (Edge x) d ≡ due nothing d
  pub elsewhere_ignored : (d : Device) (x : ℕ) → is_talking d.state ≡ false → step_due (Edge x) d ≡ due nothing d
  -- In Ability, Ack and Complete the reader depends on the edges taken, and on nothing else.
  pub reader : (past : List Event) → is_talking (after past).state ≡ true → (after past).link.reader ≡ reader_of past
  -- A word's page, each gap in its window, its edges one after another, where its first is the first taken or follows quiet since the last edge taken: nothing is
  -- answered (Cut where the first ends an open attempt) until the last edge, and there what the state has for this page,
  pub page : (past : List Event) (x w : ℕ) (edges : List ℕ) → takes_edges (after past) ≡ true → opens_after lsm_mode (taken past) x ≡ true → w < 2 ^ 48
      → Carries lsm_mode w (x ∷ edges) → says_to (after past) (map Edge (x ∷ edges)) ≡ cut_or_nothing past ∷ only_last nothing edges (page_says w (after past))
  -- which is the page itself or a refusal of a page; which one, `page_in` says.
  pub page_or_refusal : (word : ℕ) (d : Device) → takes_edges d ≡ true → is_of_page word (page_says word d) ≡ true
  -- Other events may come between its edges: these leave the state and the edges taken as they are. (A tick may order the own page; edges are then ignored until
  -- it is sent.)
  pub between : (past : List Event) (e : Event) → is_talking (after past).state ≡ true → comes_between e (after past) ≡ true
      → ((after (past ++ (e ∷ []))).state ≡ (after past).state) × (taken (past ++ (e ∷ [])) ≡ taken past)
  -- So it is edge by edge: at the first,
  pub first : (past : List Event) (x : ℕ) → takes_edges (after past) ≡ true → opens_after lsm_mode (taken past) x ≡ true → GoesOn past x (cut_or_nothing past)
  -- at a further one, x, with at least one, y, to come,
  pub inside : (past : List Event) (x y w : ℕ) (rest : List ℕ) → UnderWay past w (x ∷ y ∷ rest) → GoesOn past x nothing
  -- and at the last.
  pub last : (past : List Event) (x w : ℕ) → UnderWay past w (x ∷ []) → (step_due (Edge x) (after past)).says ≡ page_says w (after past)
  -- "and no others read as a page": whatever the event, a page is answered only at the last edge of its own page,
  pub only_page : (past : List Event) (e : Event) (w : ℕ) → (step_due e (after past)).says ≡ page_read w → EndsPage past e w
  -- and a refusal 4 to 7 or 17 only at the last edge of some page, whose refusal it then is, by `last`.
  pub only_refusal : (past : List Event) (e : Event) → refuses_page (step_due e (after past)).says ≡ true → (w : ℕ) × EndsPage past e w
