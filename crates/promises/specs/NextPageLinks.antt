-- Links on which Next Pages are exchanged, worked out: both ends of a wire, and one end with what it hears given.
use Rattle.page_resolve.specs.Resolving.{rate_and_role}
use Rattle.std.specs.Prelude.{ℕ, ◌+◌, ◌≡◌, true, false, List, [], ◌∷◌, ◌++◌, if◌then◌else◌, Some}
use Rattle.answers.specs.Choices.{◌=?◌}
use Rattle.answers.specs.declared.Refusal.TheVariants.{Changed, Toggle}
use Rattle.answers.specs.Answers.{Said, nothing, refused, page_read, page_ordered, settled_on, register_value, spoken}
use Rattle.port_state.specs.declared.State.{State}
use Rattle.port_state.specs.declared.State.TheVariants.{Break, Ability, Ack, Complete, CheckLink}
use Rattle.port_state.specs.Memory.{fresh_device}
use Rattle.port_step.specs.declared.events.Event.{Event}
use Rattle.port_step.specs.declared.events.Event.TheVariants.{Tick, Sent, Read, Write}
use Rattle.port_step.specs.Steps.{says_to, after_all}
use Rattle.promises.specs.TwoPasts.{ordered_pages}
use Rattle.promises.specs.FirstLink.{page_from, enabled_at, to_complete, three_sent, state_after}

-- A page is loaded: 521 and 522 first, then 520.
abbrev pub loaded_at : (reading low middle high : ℕ) → List Event
loaded_at reading low middle high = Write reading 521 middle ∷ Write reading 522 high ∷ Write reading 520 low ∷ []

-- An end sends a page: it orders it at a tick, and has sent it 124 800 ns later. The other end hears it 50 ns behind.
abbrev pub sends : (time : ℕ) → List Event
sends time = Tick time 0 ∷ Sent (time + 124800) ∷ []

abbrev pub hears_at : (time word : ℕ) → List Event
hears_at time word = page_from (time + 50) word

-- Two ends take turns, each 160 000 ns after the other: the first begins; each hears the other's pages.
abbrev pub first_turns : (time : ℕ) (others : List ℕ) → List Event
first_turns time [] = sends time
first_turns time (word ∷ others) = sends time ++ (hears_at (time + 160000) word ++ first_turns (time + 320000) others)

abbrev pub second_turns : (time : ℕ) (others : List ℕ) → List Event
second_turns time [] = []
second_turns time (word ∷ others) = hears_at time word ++ (sends (time + 160000) ++ second_turns (time + 320000) others)

-- The page that an answer tells, if it is one; and the pages that were heard, in order.
abbrev pub page_of : Said → List ℕ
page_of s = if s.kind =? (page_read s.value).kind then s.value ∷ [] else []

unfoldable pub heard_pages : List Said → List ℕ
heard_pages [] = []
heard_pages (s ∷ rest) = page_of s ++ heard_pages rest

-- What is said to further events after others, and the state that is left.
pub record Then (past later : List Event) (says : List Said) (state : State) : Type 0 where
  pub said : spoken (says_to (after_all fresh_device past) later) ≡ says
  pub left : state_after (past ++ later) ≡ state

-- What 523-525 read as.
abbrev pub heard_read : (past : List Event) → List Said
heard_read past = says_to (after_all fresh_device past) (Read 0 523 ∷ Read 0 524 ∷ Read 0 525 ∷ [])

-- The left end draws 5 and has two pages to tell: a message page, code 6, whose upper 32 bits are 340012 hex, after which one more follows (NP), and an unformatted
-- page, 123 hex. It loads the first in Break, the second when the first has been taken, before it is sent.
abbrev pub left_start : List Event
left_start = enabled_at 0 ++ (loaded_at 1 0xA006 0x12 0x34 ++ (Tick 8000000 5 ∷ []))

-- The right end draws 9 and has one page to tell, a message page, code 5.
abbrev pub right_start : List Event
right_start = enabled_at 170000 ++ (loaded_at 170001 0x2005 0x56 0x78 ++ (Tick 8170000 9 ∷ []))

-- Their base pages, NP one: the left end's first without Ack, since it begins; all others with Ack and the other's nonce.
abbrev pub left_base : List ℕ
left_base = 0x858001 ∷ 0x85C121 ∷ 0x85C121 ∷ 0x85C121 ∷ 0x85C121 ∷ []

abbrev pub right_base : List ℕ
right_base = 0x89C0A1 ∷ 0x89C0A1 ∷ 0x89C0A1 ∷ 0x89C0A1 ∷ []

-- Their Next Pages: D11, 800 hex, is one in the first, since it was zero in the base page, and zero in the second. The right end's second is the Null message, 2001 hex.
abbrev pub left_next : List ℕ
left_next = 0x340012E806 ∷ 0x340012E806 ∷ 0x340012E806 ∷ 0x340012E806 ∷ 0x0123 ∷ 0x4123 ∷ 0x4123 ∷ 0x4123 ∷ []

abbrev pub right_next : List ℕ
right_next = 0x7800562805 ∷ 0x7800566805 ∷ 0x7800566805 ∷ 0x7800566805 ∷ 0x7800566805 ∷ 0x6001 ∷ 0x6001 ∷ 0x6001 ∷ 0x6001 ∷ []

-- The left end up to its third page sent in Complete at round base, after which its first Next Page is to be sent;
abbrev pub left_to_next : List Event
left_to_next = left_start ++ first_turns 8350000 right_base

-- then it loads its second page, and the turns go on. The right end hears all that the left one sends; it has settled before the last page.
abbrev pub left_end : List Event
left_end = left_to_next ++ (loaded_at 9754801 0x0123 0 0 ++ second_turns 9790000 right_next)

abbrev pub right_end : List Event
right_end = right_start ++ (second_turns 8350000 (left_base ++ left_next) ++ hears_at 12510000 0x4123)

-- After the first Next Page of each was acknowledged.
abbrev pub left_has_heard : List Event
left_has_heard = left_to_next ++ (loaded_at 9754801 0x0123 0 0 ++ second_turns 9790000 (0x7800562805 ∷ 0x7800566805 ∷ []))

abbrev pub right_has_heard : List Event
right_has_heard = right_start ++ second_turns 8350000 (left_base ++ (0x340012E806 ∷ 0x340012E806 ∷ []))

-- 02, request 7: "both ends exchange Next Pages until neither sets NP": two pages one way, one and the Null message the other.
pub record BothTell : Type 0 where
  pub left_ordered : ordered_pages (says_to fresh_device left_end) ≡ left_base ++ (left_next ++ (0x4123 ∷ []))
  pub left_heard : heard_pages (says_to fresh_device left_end) ≡ right_base ++ right_next
  pub right_ordered : ordered_pages (says_to fresh_device right_end) ≡ right_base ++ right_next
  pub right_heard : heard_pages (says_to fresh_device right_end) ≡ left_base ++ left_next
  -- What each host reads when the other's first page, and when its second, was acknowledged.
  pub left_reads : heard_read left_has_heard ≡ register_value 0x6805 ∷ register_value 0x56 ∷ register_value 0x78 ∷ []
  pub right_reads : heard_read right_has_heard ≡ register_value 0xE806 ∷ register_value 0x12 ∷ register_value 0x34 ∷ []
  pub left_reads_null : heard_read left_end ≡ register_value 0x6001 ∷ register_value 0 ∷ register_value 0 ∷ []
  pub right_reads_second : heard_read right_end ≡ register_value 0x4123 ∷ register_value 0 ∷ register_value 0 ∷ []
  -- 02, request 7: "Rate and role still come from the base pages": 1000BASE-T1, and the higher nonce is master.
  pub left_settled : (after_all fresh_device left_end).link.outcome ≡ Some (rate_and_role 2 false)
  pub right_settled : (after_all fresh_device right_end).link.outcome ≡ Some (rate_and_role 2 true)
  pub left_state : state_after left_end ≡ CheckLink
  pub right_state : state_after right_end ≡ CheckLink

-- An end that has announced a page, NP one, and has none loaded when its acknowledged page has been sent three times.
abbrev pub to_stay : List Event
to_stay = left_to_next ++ second_turns 9790000 (0x7800562805 ∷ 0x7800566805 ∷ 0x7800566805 ∷ 0x7800566805 ∷ [])

-- It goes on sending that page; a load ends it at the next page sent.
abbrev pub stays_on : List Event
stays_on = second_turns 11070000 (0x7800566805 ∷ [])

abbrev pub load_ends_it : List Event
load_ends_it = loaded_at 11354801 0x0123 0 0 ++ second_turns 11390000 (0x7800566805 ∷ [])

-- The old head is pulled when its first Next Page stands in 523-525 and the second own page is loaded. At 14 234 850 the last good page is 4 000 000 ns old, and the left
-- end goes to Break. A new head, with nonce 7 and no pages to tell, is heard when the break is over, and answered.
abbrev pub new_head : List Event
new_head = Tick 14234850 0 ∷ Tick 22234850 6 ∷ (page_from 22240000 0x870001 ++ (page_from 22440000 0x8740C1 ++ (Tick 22597800 0 ∷ [])))

-- The partner's registers, the transmit registers and the heard ones.
abbrev pub read_pages : List Event
read_pages =
    Read 0 517 ∷ Read 0 518 ∷ Read 0 519 ∷ Read 0 520 ∷ Read 0 521 ∷ Read 0 522 ∷ Read 0 523 ∷ Read 0 524 ∷ Read 0 525 ∷ []

-- An end that has nothing to say, and one that loads a page after Break, which was not announced.
abbrev pub silent_start : List Event
silent_start = enabled_at 170000 ++ (Tick 8170000 9 ∷ [])

abbrev pub late_start : List Event
late_start = silent_start ++ (Write 8170001 520 0x2005 ∷ [])

-- The base page that is ordered after these events in Break.
abbrev pub breaks_then_orders : List Event → List Event
breaks_then_orders events = events ++ (Tick 8000000 5 ∷ Tick 8350000 0 ∷ [])

-- A Next Page whose D11 is that of the base page held before it: "D11 equal to the held page's: Toggle, to Break."
abbrev pub WrongToggle : Type 0
WrongToggle = Then left_to_next (page_from 9800000 0x7800562005) (refused Toggle ∷ []) Break

-- One end, with what it hears given.
pub record OneEnd : Type 0 where
  -- "Else stay", "at this page sent and at each later one": it goes on sending its acknowledged page, until a page is loaded.
  pub stays : state_after to_stay ≡ Complete
  pub stays_on_law : Then to_stay stays_on (page_read 0x7800566805 ∷ page_ordered 0x340012E806 ∷ []) Complete
  pub load_ends_it_law : Then (to_stay ++ stays_on) load_ends_it (page_read 0x7800566805 ∷ page_ordered 0x340012E806 ∷ []) Ability
  pub next_ordered : Then (to_stay ++ (stays_on ++ load_ends_it)) (Tick 12024800 0 ∷ []) (page_ordered 0x0123 ∷ []) Ability
  -- The partner's old page once more, in Ability: at round first its base page, also where Ack and E differ; at round later its Next Page.
  pub repeat_first : Then left_to_next (page_from 9800000 0x89C0A1) (page_read 0x89C0A1 ∷ []) Ability
  pub repeat_without_ack : Then left_to_next (page_from 9800000 0x898001) (page_read 0x898001 ∷ []) Ability
  pub repeat_later : Then (to_stay ++ (stays_on ++ load_ends_it)) (page_from 11700000 0x7800566805) (page_read 0x7800566805 ∷ []) Ability
  pub toggle : WrongToggle
  -- "one that differs from the held page beyond Ack: Changed, to Break."
  pub changed : Then left_to_next (page_from 9800000 0x7800562805 ++ page_from 10000000 0x7800572805) (page_read 0x7800562805 ∷ refused Changed ∷ []) Break
  -- A partner that falls silent. One nanosecond before lost has run the own page is ordered; while it is out lost is not looked at, but at the next tick after it is sent.
  pub lost : Then left_to_next (Tick 13594850 0 ∷ []) [] Break
  pub not_lost_yet : Then left_to_next (Tick 13594849 0 ∷ Tick 13594850 0 ∷ []) (page_ordered 0x340012A806 ∷ []) Ability
  pub lost_when_sent : Then left_to_next (Tick 13594849 0 ∷ Sent 13719649 ∷ Tick 13719650 0 ∷ []) (page_ordered 0x340012A806 ∷ []) Break
  -- So it is in Ack and in Complete, and at round later.
  pub lost_in_ack : Then (left_to_next ++ page_from 9800000 0x7800562805) (Tick 13924800 0 ∷ []) [] Break
  pub lost_in_complete : Then left_has_heard (Tick 14234850 0 ∷ []) [] Break
  -- The new head's pages are heard and answered, NP zero, and its base page is what 517-519 read as; of the old head, and of what was loaded for it, nothing is left.
  pub swapped : Then left_has_heard new_head (page_read 0x870001 ∷ page_read 0x8740C1 ∷ page_ordered 0x8640E1 ∷ []) Complete
  pub swapped_reads : Then (left_has_heard ++ new_head) read_pages
      (register_value 0x40C1 ∷ register_value 0x87 ∷ register_value 0 ∷ register_value 0 ∷ register_value 0 ∷ register_value 0 ∷ register_value 0 ∷ register_value 0
      ∷ register_value 0 ∷ []) Complete

-- More sentences of the amendments, one by one.
pub record OneByOne : Type 0 where
  -- "Else if the own page's NP is zero, the own Next Page is the Null message", also at round base; a page that is loaded by then goes out in its place.
  pub null_at_base : ordered_pages (says_to fresh_device (silent_start ++ second_turns 8350000 left_base))
      ≡ 0x8940A1 ∷ 0x8940A1 ∷ 0x8940A1 ∷ 0x8940A1 ∷ 0x2801 ∷ []
  pub late_page : ordered_pages (says_to fresh_device (late_start ++ second_turns 8350000 left_base))
      ≡ 0x8940A1 ∷ 0x8940A1 ∷ 0x8940A1 ∷ 0x8940A1 ∷ 0x2805 ∷ []
  -- "if neither the own page's nor the held page's NP is one, resolve", also with a page loaded.
  pub loaded_too_late : Then (to_complete ++ (Write 8399999 520 0x2006 ∷ [])) three_sent
      (page_ordered 0x854121 ∷ page_ordered 0x854121 ∷ page_ordered 0x854121 ∷ settled_on 2 false ∷ []) CheckLink
  -- "A write of 520 sets the loaded mark; writes of 521 and 522 do not", nor do they clear it. NP of 514 is not looked at.
  pub not_loaded : Then [] (breaks_then_orders (enabled_at 0 ++ (Write 1 521 0x12 ∷ Write 1 522 0x34 ∷ []))) (page_ordered 0x850001 ∷ []) Ability
  pub still_loaded : Then [] (breaks_then_orders (enabled_at 0 ++ (loaded_at 1 0xA006 0x12 0x34 ++ (Write 2 521 0x13 ∷ [])))) (page_ordered 0x858001 ∷ []) Ability
  pub not_announced : Then [] (breaks_then_orders (Write 0 514 0x8000 ∷ enabled_at 0)) (page_ordered 0x850001 ∷ []) Ability
  -- "A new own Next Page gets Ack 0", whatever was written; 520-522 are "read as written", also after the page was taken.
  pub ack_cleared : Then (enabled_at 0 ++ (loaded_at 1 0xE006 0x12 0x34 ++ (Tick 8000000 5 ∷ first_turns 8350000 right_base))) (Tick 10104800 0 ∷ [])
      (page_ordered 0x340012A806 ∷ []) Ability
  pub read_as_written : Then left_to_next (Read 0 520 ∷ Read 0 521 ∷ Read 0 522 ∷ []) (register_value 0xA006 ∷ register_value 0x12 ∷ register_value 0x34 ∷ []) Ability
  -- "set Page received", for each Next Page; D13, which is one in it, is not Remote fault.
  pub page_received : Then left_to_next (Read 9754801 513 ∷ (page_from 9800000 0x7800562805 ++ (page_from 10000000 0x7800566805 ++ (Read 10400000 513 ∷ []))))
      (register_value 0x48 ∷ page_read 0x7800562805 ∷ page_read 0x7800566805 ∷ register_value 0x48 ∷ []) Complete
  -- "A write of 512 with bit 12 zero enters Off also from Off." "523-525 are the heard Next Page, read only."
  pub off_from_off : says_to fresh_device (Write 0 520 5 ∷ Read 0 520 ∷ Write 0 512 0 ∷ Read 0 520 ∷ []) ≡ nothing ∷ register_value 5 ∷ nothing ∷ register_value 0 ∷ []
  pub heard_read_only : Then right_has_heard (Write 0 523 1 ∷ Read 0 523 ∷ Read 0 520 ∷ []) (register_value 0xE806 ∷ register_value 0x2005 ∷ []) Complete
  -- At round later D5-9, which would be E in a base page, count like all others: in Ability the page is no repeat, in Ack it has changed. Equal nonces, D16-20, are no Tie.
  pub code_counts : Then (to_stay ++ (stays_on ++ load_ends_it)) (page_from 11700000 0x7800566825) (refused Toggle ∷ []) Break
  pub code_changed : Then left_to_next (page_from 9800000 0x7800562805 ++ page_from 10000000 0x7800562825) (page_read 0x7800562805 ∷ refused Changed ∷ []) Break
  pub no_tie : Then left_to_next (page_from 9800000 0x7800452805) (page_read 0x7800452805 ∷ []) Ack
  -- The Sent that goes on has marked "waiting": one nanosecond before wait has run nothing is ordered.
  pub waits : Then (to_stay ++ (stays_on ++ load_ends_it)) (Tick 12024799 0 ∷ []) [] Ability

pub record NextPageLinks : Type 0 where
  pub both_tell : BothTell
  pub one_end : OneEnd
  pub one_by_one : OneByOne
