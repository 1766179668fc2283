-- Facts about Next Pages: neither end tells or takes a page twice in a row, what 517-519 and 523-525 read as was heard on this link, when rate and role are resolved, and
-- that they hang on the base pages.
use Rattle.std.specs.Prelude.{ℕ, ◌+◌, ◌≡◌, Bool, true, false, not, ◌&&◌, ◌||◌, List, [], ◌∷◌, ◌++◌, if◌then◌else◌, Some}
use Rattle.answers.specs.Choices.{◌≤?◌, ◌=?◌}
use Rattle.answers.specs.Answers.{page_ordered}
use Rattle.page_word.specs.Word.{among}
use Rattle.page_word.specs.Fields.{field_of}
use Rattle.page_word.specs.declared.fields.Field.TheVariants as field
use Rattle.page_word.specs.NextPages.{sets_next_page, toggle_of, same_toggle, inverse_toggle}
use Rattle.page_resolve.specs.Rates.{rate_order}
use Rattle.page_resolve.specs.Resolving.{resolution_of, said_of}
use Rattle.port_state.specs.declared.State.{State}
use Rattle.port_state.specs.declared.State.TheVariants.{Complete, CheckLink}
use Rattle.port_state.specs.declared.Link.{Link}
use Rattle.port_state.specs.declared.Device.{Device}
use Rattle.port_state.specs.Memory.{by_state, fresh_device}
use Rattle.port_state.specs.Rounds.{is_base, own_in_round, held_in_round}
use Rattle.port_step.specs.declared.events.Event.{Event}
use Rattle.port_step.specs.declared.events.Event.TheVariants.{Sent}
use Rattle.port_step.specs.Steps.{step_due}
use Rattle.promises.specs.NextPageLinks.{page_of}
use Rattle.promises.specs.AtTheDevice.{talks_on, after}

abbrev pub is_ability : State → Bool
is_ability state = by_state state false false true false false false false

abbrev pub is_ack : State → Bool
is_ack state = by_state state false false false true false false false

abbrev pub is_complete : State → Bool
is_complete state = by_state state false false false false true false false

abbrev pub is_check_link : State → Bool
is_check_link state = by_state state false false false false false true false

-- An event that goes on to the next own page, from Complete to Ability; one that takes a page as the held one, from Ability to Ack.
abbrev pub goes_on_by : Event → Device → Bool
goes_on_by e d = is_complete d.state && is_ability (step_due e d).device.state

abbrev pub holds_by : Event → Device → Bool
holds_by e d = is_ability d.state && is_ack (step_due e d).device.state

-- The link after an event.
abbrev pub link_after : Event → Device → Link
link_after e d = (step_due e d).device.link

-- The states other than Off and Break.
abbrev pub is_awake : State → Bool
is_awake state = by_state state false false true true true true true

-- The pages that a device has answered since it last entered Break or Off, after one more event,
abbrev pub answered_after : (pages : List ℕ) → Event → Device → List ℕ
answered_after pages e d = if is_awake (step_due e d).device.state then pages ++ page_of (step_due e d).says else []

-- and so along a row of events.
unfoldable pub answered_along : (pages : List ℕ) → Device → List Event → List ℕ
answered_along pages d [] = pages
answered_along pages d (e ∷ later) = answered_along (answered_after pages e d) (step_due e d).device later

abbrev pub heard_on_link : List Event → List ℕ
heard_on_link past = answered_along [] fresh_device past

-- Nothing, or a page that is among these and has Ack 1.
abbrev pub is_known : (word : ℕ) (pages : List ℕ) → Bool
is_known word pages = word =? 0 || (among word pages && field_of field.Ack word =? 1)

-- The own Next Pages in a row differ in D11.
pub record OwnPages : Type 0 where
  -- An event that goes on brings an own page whose D11 is the inverse of that of the own page before;
  pub turns : (d : Device) (e : Event) → goes_on_by e d ≡ true → toggle_of (own_in_round (link_after e d)) ≡ inverse_toggle (own_in_round d.link)
  -- the own page changes in no other way while the link is the same;
  pub stays : (d : Device) (e : Event) → talks_on e d ≡ true → goes_on_by e d ≡ false → own_in_round (link_after e d) ≡ own_in_round d.link
  -- and whatever page is ordered, after events from fresh on, has the own page's D11.
  pub ordered : (past : List Event) (e : Event) (word : ℕ) → (step_due e (after past)).says ≡ page_ordered word
      → toggle_of word ≡ toggle_of (own_in_round (after past).link)

-- No page is taken twice in a row.
pub record HeldPages : Type 0 where
  -- A page that is held anew, once Next Pages are exchanged, differs in D11 from the one held before;
  pub turns : (d : Device) (e : Event) → is_base d.link.next.round ≡ false → holds_by e d ≡ true
      → same_toggle (held_in_round (link_after e d)) (held_in_round d.link) ≡ false
  -- the held page changes in no other way while the link is the same.
  pub stays : (d : Device) (e : Event) → talks_on e d ≡ true → holds_by e d ≡ false → held_in_round (link_after e d) ≡ held_in_round d.link

-- What the registers show was heard on this link.
pub record KnownPages : Type 0 where
  -- 523-525 have nothing, or a page that was heard with Ack 1 since Break or Off was last entered; so have 517-519.
  pub next : (past : List Event) → is_known (after past).link.next.heard (heard_on_link past) ≡ true
  pub partner : (past : List Event) → is_known (after past).link.partner (heard_on_link past) ≡ true

-- 02, request 7: "01 goes on to resolve when the partner still has pages to send, which is wrong"; "Rate and role still come from the base pages."
pub record BasePages : Type 0 where
  -- A page sent takes Complete to Check-link just if one was out, it is the third or a later one, and neither page of the round has NP one.
  pub when : (d : Device) (reading : ℕ) → d.state ≡ Complete
      → is_check_link (step_due (Sent reading) d).device.state
      ≡ (d.link.talk.out && (3 ≤? d.link.talk.count + 1 && not (sets_next_page (own_in_round d.link) || sets_next_page (held_in_round d.link))))
  -- What is answered and kept is then what the base pages resolve to, whatever the Next Pages are;
  pub says : (d : Device) (reading : ℕ) → d.state ≡ Complete → (step_due (Sent reading) d).device.state ≡ CheckLink
      → (step_due (Sent reading) d).says ≡ said_of (resolution_of rate_order d.link.talk.own d.link.talk.held)
  pub keeps : (d : Device) (reading : ℕ) → d.state ≡ Complete → (step_due (Sent reading) d).device.state ≡ CheckLink
      → (step_due (Sent reading) d).device.link.outcome ≡ Some (resolution_of rate_order d.link.talk.own d.link.talk.held)
  -- and while the link is the same the own base page stays, and the held one too but where it is taken, at round base.
  pub own_stays : (d : Device) (e : Event) → talks_on e d ≡ true → (link_after e d).talk.own ≡ d.link.talk.own
  pub held_stays : (d : Device) (e : Event) → talks_on e d ≡ true → (is_base d.link.next.round && holds_by e d) ≡ false → (link_after e d).talk.held ≡ d.link.talk.held

pub record NextPageFacts : Type 0 where
  pub own : OwnPages
  pub held : HeldPages
  pub known : KnownPages
  pub base : BasePages
