-- Three very different pasts, and what demand 3 comes to for them.
use Rattle.std.specs.Prelude.{ℕ, ◌^◌, ◌≡◌, true, false, List, [], ◌∷◌, ◌++◌, map}
use Rattle.answers.specs.Answers.{Said, nothing, page_ordered, register_value}
use Rattle.line_mode.specs.Clock.{time_between}
use Rattle.line_reader.specs.declared.reader.Reader.TheVariants.{Open}
use Rattle.port_state.specs.declared.Device.{Device}
use Rattle.port_state.specs.Memory.{fresh_device}
use Rattle.port_step.specs.declared.events.Event.{Event}
use Rattle.port_step.specs.declared.events.Event.TheVariants.{Edge, Tick, Report, Read, Write}
use Rattle.port_step.specs.Steps.{step_due, says_to, after_all}
use Rattle.promises.specs.TwoPasts.{enters_break, reading_of, shifted_by, without6_and4}
use Rattle.promises.specs.FirstLink.{to_up}
use Rattle.promises.specs.NextPageLinks.{left_has_heard}

-- The first has never heard a page: A2 is advertised, and it is enabled 296 ns before the clock rolls over.
abbrev pub first_past : List Event
first_past = Write 0 515 0x80 ∷ []

abbrev pub first_entry : Event
first_entry = Write 4294967000 512 (2 ^ 12)

-- The second has had a link, which now goes down. Its entry reading is 9 600 296 ns later, modulo 2^32.
abbrev pub second_past : List Event
second_past = to_up

abbrev pub second_entry : Event
second_entry = Report 9600000 false

-- The third is amid Next Pages: the partner's first one is in 523-525, the own second one is loaded, and of another page three edges were heard. It is restarted,
-- 10 440 296 ns later than the first was enabled.
abbrev pub third_past : List Event
third_past = left_has_heard ++ (Edge 10430050 ∷ Edge 10430850 ∷ Edge 10431650 ∷ [])

abbrev pub third_entry : Event
third_entry = Write 10440000 512 0x1200

abbrev pub first_device : Device
first_device = (step_due first_entry (after_all fresh_device first_past)).device

abbrev pub second_device : Device
second_device = (step_due second_entry (after_all fresh_device second_past)).device

abbrev pub third_device : Device
third_device = (step_due third_entry (after_all fresh_device third_past)).device

-- Later the break timer runs out, just at the second tick: the own page has the 9 drawn there, not the 8. It is ordered, 513 is read twice, and 517, 520 and 523 once.
abbrev pub later_events : List Event
later_events =
    Tick 7999703 8 ∷ Tick 7999704 9 ∷ Tick 8349704 0 ∷ Read 8349705 513 ∷ Read 8349706 513 ∷ Read 8349707 517 ∷ Read 8349708 520 ∷ Read 8349709 523 ∷ []

-- What is said to these events: the page is ordered, and the registers have their values, 513 at its first read and 520 those that are given here.
abbrev pub later_says : (status own : ℕ) → List Said
later_says status own =
    nothing ∷ nothing ∷ page_ordered 0x890001 ∷ register_value status ∷ register_value 0x08 ∷ register_value 0 ∷ register_value own ∷ register_value 0 ∷ []

-- Demand 3's premises hold: each has just gone into Break, the advertisements agree, and the shift is the difference of the entry readings modulo 2^32.
-- All say the same, but for bit 6 of 513 at its first read, 08 and 48 hex: the second and the third had received a page. Of sixteen ones, all but bits 6 and 4 are
-- compared. What the third had before it shows that there was something to forget.
pub record WorkedPasts : Type 0 where
  pub first_enters : enters_break first_entry (after_all fresh_device first_past) ≡ true
  pub second_enters : enters_break second_entry (after_all fresh_device second_past) ≡ true
  pub same_advertised : first_device.lasting.advertised ≡ second_device.lasting.advertised
  pub apart : time_between (reading_of second_entry) (reading_of first_entry) ≡ 9600296
  pub all_but_two : without6_and4 (register_value 0xFFFF) ≡ register_value 0xFFAF
  pub first_says : says_to first_device later_events ≡ later_says 0x08 0
  pub second_says : says_to second_device (map (shifted_by 9600296) later_events) ≡ later_says 0x48 0
  pub third_had : says_to (after_all fresh_device third_past) (Read 0 517 ∷ Read 0 520 ∷ Read 0 523 ∷ [])
      ≡ register_value 0xC0A1 ∷ register_value 0x0123 ∷ register_value 0x6805 ∷ []
  pub third_reads : (after_all fresh_device third_past).link.reader ≡ Open 3 10431650 0
  pub third_loaded : (after_all fresh_device third_past).link.next.loaded ≡ true
  pub third_enters : enters_break third_entry (after_all fresh_device third_past) ≡ true
  pub third_advertised : first_device.lasting.advertised ≡ third_device.lasting.advertised
  pub third_apart : time_between (reading_of third_entry) (reading_of first_entry) ≡ 10440296
  pub third_says : says_to third_device (map (shifted_by 10440296) later_events) ≡ later_says 0x48 0
