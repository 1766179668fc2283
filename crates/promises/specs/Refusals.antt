-- 01, "Refusal numbers", and requests 7, 8 and 10: for each number of the table, and of these requests, an input that is refused with it, worked out, and what is left, as its last column has it.
use Rattle.std.specs.Prelude.{ℕ, ◌+◌, ◌^◌, ◌≡◌, true, false, List, [], ◌∷◌, ◌++◌, map, replicate}
use Rattle.answers.specs.Answers.{Said, refused, page_read, page_ordered, spoken, kept}
use Rattle.answers.specs.declared.Refusal.{Refusal}
use Rattle.answers.specs.declared.Refusal.TheVariants.{Gap, Cut, Check, Selector, Tie, Changed, Echo, None, Roles, Register, Turn, Room, Wide, Mode}
use Rattle.answers.specs.declared.Refusal.TheVariants as refusal
use Rattle.page_word.specs.Word.{bits_of}
use Rattle.page_messages.specs.WorkedRuns.{CellsKept}
use Rattle.frame_parity.specs.AnyCutting.{new_frame}
use Rattle.frame_parity.specs.WorkedFrames.{StateKept, ParityKept}
use Rattle.line_mode.specs.Modes.{lsm_mode}
use Rattle.line_writer.specs.Transitions.{has_transition, positions_to, reading_at}
use Rattle.line_writer.specs.Writing.{write_of}
use Rattle.line_reader.specs.declared.reader.Reader.{Reader}
use Rattle.line_reader.specs.declared.reader.Reader.TheVariants.{Open, Dropping}
use Rattle.line_captures.specs.Captures.{said_of_read, read_of}
use Rattle.port_state.specs.declared.State.{State}
use Rattle.port_state.specs.declared.State.TheVariants.{Break, Ability, CheckLink}
use Rattle.port_state.specs.Memory.{fresh_device}
use Rattle.port_state.specs.Changes.{with_reader}
use Rattle.port_step.specs.declared.events.Event.{Event}
use Rattle.port_step.specs.declared.events.Event.TheVariants.{Edge, Tick, Sent, Report, Read, Write}
use Rattle.port_step.specs.Steps.{step_due, says_to, after_all}
use Rattle.port_step.specs.Runs.{run_of}
use Rattle.bench_listing.specs.Words.{text}
use Rattle.bench_listing.specs.Listing.{listing}
use Rattle.promises.specs.FirstLink.{page_from, to_break, to_ability, to_ack, three_sent, state_after}
use Rattle.promises.specs.NextPageLinks.{WrongToggle}

-- Events from a fresh device on: all that is said on the way, and the state that is left.
pub record Run (events : List Event) (says : List Said) (state : State) : Type 0 where
  pub said : spoken (says_to fresh_device events) ≡ says
  pub left : state_after events ≡ state

-- Of an attempt that is refused in Ability: what is said, "attempt ended; state as above", and the reader that is left.
pub record Ended (events : List Event) (refusal : Refusal) (reader : Reader) : Type 0 where
  pub run : Run events (refused refusal ∷ []) Ability
  pub left : (after_all fresh_device events).link.reader ≡ reader

-- One more event after others: it is refused with this number, and the device is kept as it was, all of it.
pub record Kept (past : List Event) (event : Event) (refusal : Refusal) : Type 0 where
  pub says : (step_due event (after_all fresh_device past)).says ≡ refused refusal
  pub kept : (step_due event (after_all fresh_device past)).device ≡ after_all fresh_device past

-- A write call, with 0 as the first reading: refused with this number, "list kept".
abbrev pub ListKept : (mode : ℕ) (list : List ℕ) (place word : ℕ) → Refusal → Type 0
ListKept mode list place word refusal = write_of mode list place word 0 ≡ kept refusal list

-- A run call: refused with this number, and the list for its answers kept.
abbrev pub RunKept : (events answers : List ℕ) → Refusal → Type 0
RunKept events answers refusal = run_of events answers ≡ kept refusal answers

-- A word's page, but with sixteen zeros where its check bits belong.
abbrev pub page_unchecked : (reading word : ℕ) → List Event
page_unchecked reading word =
    map Edge
    (map (reading_at lsm_mode.spacing reading)
    (positions_to (has_transition lsm_mode (bits_of 48 word ++ replicate 16 false)) 157))

-- As in the first link, but with these values in 514 and 515 and this page from the partner, which comes again with Ack 1 and 5 echoed, the own nonce in
-- both uses; three pages are ordered and sent, and then link up is reported.
abbrev pub settling_with : (low middle word : ℕ) → List Event
settling_with low middle word =
    (Write 0 514 low ∷ Write 0 515 middle ∷ Write 0 512 (2 ^ 12) ∷ Tick 8000000 5 ∷ [])
    ++ (page_from 8001000 word ++ (page_from 8200000 (word + 0x40A0) ++ (three_sent ++ (Report 9500000 true ∷ []))))

pub record EachRefusal : Type 0 where
  -- 1, Gap: a gap of 1100 ns is unfit. Edges are dropped from then on.
  pub gap : Ended (to_ability ++ (Edge 8001000 ∷ Edge 8002100 ∷ [])) Gap (Dropping 8002100)
  -- 2, Cut: a gap of 3441 ns is quiet. "that edge opens the next"
  pub cut : Ended (to_ability ++ (Edge 8001000 ∷ Edge 8004441 ∷ [])) Cut (Open 1 8004441 0)
  -- 3, Check: the check bits of A90001 are not zero. Position 157 is 124 800 ns after the first.
  pub check : Ended (to_ability ++ page_unchecked 8001000 0xA90001) Check (Dropping 8125800)
  -- 4, Selector: a page with S = 2. "device stays": all of it but the reader, which drops edges from then on.
  pub selector : Run (to_ability ++ page_from 8001000 0xA90002) (refused Selector ∷ []) Ability
  pub selector_stays : after_all fresh_device (to_ability ++ page_from 8001000 0xA90002) ≡ with_reader (Dropping 8125800) (after_all fresh_device to_ability)
  -- 5, Tie: the partner has drawn 5 as well. "Break"
  pub tie : Run (to_ability ++ page_from 8001000 0xA50001) (refused Tie ∷ []) Break
  -- 6, Changed: the second page has A1 as well. "Break"
  pub changed : Run (to_ack ++ page_from 8200000 0xE90001) (page_read 0xA90001 ∷ refused Changed ∷ []) Break
  -- 7, Echo: the second page has Ack 1 and echoes 6. "Break"
  pub echo : Run (to_ack ++ page_from 8200000 0xA940C1) (page_read 0xA90001 ∷ refused Echo ∷ []) Break
  -- 8, None: A1 is advertised, the partner has A0 and A2 (P13). "Check-link without a rate": link up does not lead to Up.
  pub none : Run (settling_with 0 0x40 0xA90001)
      (page_read 0xA90001 ∷ page_read 0xA940A1 ∷ page_ordered 0x454121 ∷ page_ordered 0x454121 ∷ page_ordered 0x454121 ∷ refused None ∷ []) CheckLink
  -- 9, Roles: both forced, and T4 is 0 on both sides (P10).
  pub roles : Run (settling_with 0x1000 0x80 0xA91001)
      (page_read 0xA91001 ∷ page_read 0xA950A1 ∷ page_ordered 0x855121 ∷ page_ordered 0x855121 ∷ page_ordered 0x855121 ∷ refused Roles ∷ []) CheckLink
  -- 10, Register: "not 512-525", as amended; "state kept"
  pub register_read : Kept to_ack (Read 8200000 526) Register
  pub register_written : Kept to_ack (Write 8200000 511 1) Register
  -- 11, Turn: "sent in Off or Break, or with no page out; kept"
  pub turn_off : Kept [] (Sent 0) Turn
  pub turn_break : Kept to_break (Sent 1) Turn
  pub turn_no_page : Kept to_ack (Sent 8200000) Turn
  -- 12, Room: "place past the end; writing: entries from it on fewer than the page's; list kept". The zero page has 81 readings at high speed.
  pub room_read : said_of_read (read_of 0 (replicate 81 7) 82) ≡ refused Room
  pub room_past_end : ListKept 0 (replicate 81 7) 82 0 Room
  pub room_fewer : ListKept 0 (replicate 80 7) 0 0 Room
  -- A run of two events, both ticks, with room for one answer.
  pub room_run : RunKept (1 ∷ 0 ∷ 0 ∷ 1 ∷ 0 ∷ 0 ∷ []) (7 ∷ []) Room
  -- 13, Wide: "word 2^48 or more; list kept"
  pub wide : ListKept 0 (replicate 150 7) 0 (2 ^ 48) Wide
  -- 14, Mode: "not 0 or 1; list kept"
  pub mode : ListKept 2 (replicate 150 7) 0 0 Mode
  -- "Order: Mode, Wide, Room." An empty list has room for nothing.
  pub mode_first : ListKept 2 [] 0 (2 ^ 48) Mode
  pub wide_next : ListKept 0 [] 0 (2 ^ 48) Wide
  -- 15, Odd: "program only": three bytes after the mode's are listed as `refused 15`.
  pub odd : listing (0 ∷ 0 ∷ 0 ∷ 0 ∷ []) ≡ text "refused 15\n"
  -- 17, Toggle: "17 Toggle (Break)"
  pub toggle : WrongToggle
  -- 20, Symbol, from the taking of a burst: "512 or more in the burst", here the last of a whole frame's data.
  pub symbol : StateKept new_frame (replicate 405 511 ++ (512 ∷ [])) refusal.Symbol
  -- 21, Count, there and from the finish: "a burst that takes the count past 406", here by one, "or a finish at a count other than 406", here of a new frame.
  pub count : StateKept new_frame (replicate 407 511) refusal.Count
  pub count_at_the_finish : ParityKept new_frame (replicate 44 7) refusal.Count
  -- 24, Run, from the reading of a message run: "an unformatted page first", here one alone: all bits below D13 are one.
  pub run : CellsKept (0x1FFF ∷ []) 3 refusal.Run
  -- 25, Length, there too: "over 64", here 256 pages with three cells for each.
  pub too_long : CellsKept (replicate 256 0x2001) 768 refusal.Length
