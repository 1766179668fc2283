-- The customer's demand 3: "Take two modules with any two pasts from fresh, each just gone into Break, with the same advertisement registers. Give both the
-- same later events and draws, the second's clock readings all shifted by the difference of their entry readings modulo 2^32. Then every answer, register value and
-- ordered page, as demand 2 defines them, is the same at both. Only bits 6 and 4 of register 7.513 may differ, up to and with its first read."
use Rattle.std.specs.Prelude.{ℕ, ◌+◌, ◌%◌, ◌^◌, ◌≡◌, Bool, true, false, not, ◌&&◌, ◌||◌, List, [], ◌∷◌, map, if◌then◌else◌}
use Rattle.answers.specs.Choices.{◌=?◌}
use Rattle.answers.specs.Answers.{Said, saying, page_ordered}
use Rattle.page_word.specs.Word.{has_bit}
use Rattle.page_word.specs.Fields.{with_part}
use Rattle.page_word.specs.declared.thirds.Third.TheVariants.{Low, Middle, High}
use Rattle.page_word.specs.Thirds.{third_of}
use Rattle.line_mode.specs.Clock.{time_between}
use Rattle.port_state.specs.declared.Device.{Device}
use Rattle.port_state.specs.Memory.{fresh_device, is_break}
use Rattle.port_registers.specs.Registers.{read_due}
use Rattle.port_step.specs.declared.events.Event.{Event}
use Rattle.port_step.specs.declared.events.Event.TheVariants.{Edge, Tick, Sent, Report, Read, Write, Unnamed}
use Rattle.port_step.specs.Steps.{step_due, says_to, after_all}

-- 01, "Registers": a write to 512 with bit 12, enable, and bit 9 "goes to Break" from Break too. (With bit 15 as well the device is fresh and Off.)
abbrev pub restarts : Event → Bool
restarts (Edge reading) = false
restarts (Tick reading draw) = false
restarts (Sent reading) = false
restarts (Report reading up) = false
restarts (Read reading register) = false
restarts (Write reading register value) = register =? 512 && (has_bit value 12 && has_bit value 9)
restarts Unnamed = false

-- "each just gone into Break": the device is in Break after the event, and was not before it, or the event restarts it there.
abbrev pub enters_break : Event → Device → Bool
enters_break e d = is_break (step_due e d).device.state && (not (is_break d.state) || restarts e)

-- "any two pasts from fresh": any events from a fresh device on, and one more, which has just taken it into Break.
pub record Module : Type 0 where
  pub past : List Event
  pub entry : Event
  pub entered : enters_break entry (after_all fresh_device past) ≡ true

-- The device as it then is.
abbrev pub device_of : Module → Device
device_of m = (step_due m.entry (after_all fresh_device m.past)).device

-- "Every event carries a clock reading". (A number that names no event carries none, and never enters Break.)
abbrev pub reading_of : Event → ℕ
reading_of (Edge reading) = reading
reading_of (Tick reading draw) = reading
reading_of (Sent reading) = reading
reading_of (Report reading up) = reading
reading_of (Read reading register) = reading
reading_of (Write reading register value) = reading
reading_of Unnamed = 0

-- "the difference of their entry readings modulo 2^32"
abbrev pub difference : (first second : Module) → ℕ
difference first second = time_between (reading_of second.entry) (reading_of first.entry)

-- A clock reading "shifted by the difference", modulo 2^32.
abbrev pub shifted : (δ reading : ℕ) → ℕ
shifted δ reading = (reading + δ) % 2 ^ 32

-- "the same later events and draws, the second's clock readings all shifted": nothing but the reading changes.
abbrev pub shifted_by : (δ : ℕ) → Event → Event
shifted_by δ (Edge reading) = Edge (shifted δ reading)
shifted_by δ (Tick reading draw) = Tick (shifted δ reading) draw
shifted_by δ (Sent reading) = Sent (shifted δ reading)
shifted_by δ (Report reading up) = Report (shifted δ reading) up
shifted_by δ (Read reading register) = Read (shifted δ reading) register
shifted_by δ (Write reading register value) = Write (shifted δ reading) register value
shifted_by δ Unnamed = Unnamed

-- "Only bits 6 and 4 of register 7.513 may differ": an answer whose value is taken with these two bits 0.
unfoldable pub without6_and4 : Said → Said
without6_and4 s = saying s.kind (with_part 6 1 0 (with_part 4 1 0 s.value))

-- Whether an event is a read of 7.513.
abbrev pub reads_status : Event → Bool
reads_status (Edge reading) = false
reads_status (Tick reading draw) = false
reads_status (Sent reading) = false
reads_status (Report reading up) = false
reads_status (Read reading register) = register =? 513
reads_status (Write reading register value) = false
reads_status Unnamed = false

-- "every answer", and "up to and with its first read": an answer for each event, whole but for the first to a read of 7.513, which is taken without
-- bits 6 and 4.
unfoldable pub compared : List Event → List Said → List Said
compared [] says = says
compared (e ∷ later) [] = []
compared (e ∷ later) (s ∷ rest) = if reads_status e then without6_and4 s ∷ rest else s ∷ compared later rest

-- Whether 7.513 is read in a row of events.
unfoldable pub status_was_read : List Event → Bool
status_was_read [] = false
status_was_read (e ∷ later) = reads_status e || status_was_read later

-- "register value": what a read of a register would answer after all events, whole but for 7.513 if it has not been read.
unfoldable pub compared_value : List Event → (register : ℕ) → Said → Said
compared_value later register value = if register =? 513 && not (status_was_read later) then without6_and4 value else value

-- "ordered page": the words of the answers that order a page, in order.
unfoldable pub ordered_pages : List Said → List ℕ
ordered_pages [] = []
ordered_pages (s ∷ rest) = let more = ordered_pages rest in if s.kind =? (page_ordered s.value).kind then s.value ∷ more else more

-- Two devices, each given its row of events: "every answer, register value and ordered page .. is the same at both".
pub record Same (d : Device) (later : List Event) (d' : Device) (later' : List Event) : Type 0 where
  pub answers : compared later (says_to d later) ≡ compared later' (says_to d' later')
  pub registers : (register : ℕ)
      → compared_value later register (read_due register (after_all d later)).says ≡ compared_value later' register (read_due register (after_all d' later')).says
  pub pages : ordered_pages (says_to d later) ≡ ordered_pages (says_to d' later')

-- No page outlives its link. The two premises are the customer's: each has just gone into Break (`Module`), and 7.514-7.516 are the same.
abbrev pub NoPageOutlivesItsLink : Type 0
NoPageOutlivesItsLink =
    (first second : Module) (later : List Event) → (device_of first).lasting.advertised ≡ (device_of second).lasting.advertised
    → Same (device_of first) later (device_of second) (map (shifted_by (difference first second)) later)

-- What demand 3 comes to for one module. A new device: fresh, then 7.514-7.516 are written and it is enabled, all at one reading. It has never heard a page.
abbrev pub switched_on : (reading advertised : ℕ) → List Event
switched_on reading advertised =
    Write reading 514 (third_of Low advertised) ∷ Write reading 515 (third_of Middle advertised) ∷ Write reading 516 (third_of High advertised)
    ∷ Write reading 512 (2 ^ 12) ∷ []

-- A module with any past that has just gone into Break gives the same answers, register values and ordered pages to any later events as a
-- new one with the same advertisement, switched on at that reading: what it says is what it would say had it never heard a page. The only trace that
-- a page may leave is bits 6 and 4 of 7.513, up to and with its first read.
abbrev pub AsIfNew : Type 0
AsIfNew =
    (m : Module) (later : List Event)
    → Same (device_of m) later (after_all fresh_device (switched_on (reading_of m.entry) (device_of m).lasting.advertised)) later
