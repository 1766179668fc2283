-- 01, "Registers (MMD 7)", and its amendments, "Registers".
use Rattle.std.specs.Prelude.{ℕ, ◌+◌, ◌-◌, ◌/◌, ◌%◌, ◌^◌, Bool, true, false, ◌||◌, if◌then◌else◌, Option, Some, None}
use Rattle.answers.specs.declared.Refusal.TheVariants as refusal
use Rattle.answers.specs.Choices.{◌<?◌, ◌=?◌}
use Rattle.answers.specs.Answers.{nothing, refused, register_value}
use Rattle.page_word.specs.Word.{has_bit}
use Rattle.page_word.specs.declared.thirds.Third.{Third}
use Rattle.page_word.specs.declared.thirds.Third.TheVariants.{Low, Middle, High}
use Rattle.port_state.specs.declared.State.{State}
use Rattle.port_state.specs.declared.Device.{Device}
use Rattle.page_word.specs.Thirds.{third_of, with_third}
use Rattle.port_state.specs.Memory.{Due, due, is_off, is_up, fresh_device, into_break, into_off}
use Rattle.port_state.specs.Changes.{with_advertised, with_flags, with_latch, with_transmit, with_loaded}
use Rattle.port_registers.specs.declared.Bank.{Bank}
use Rattle.port_registers.specs.declared.Bank.TheVariants.{Advertised, Partner, Transmit, Heard}
use Rattle.port_registers.specs.declared.Register.{Register}
use Rattle.port_registers.specs.declared.Register.TheVariants.{Control, Status, Part}

-- From 514 on the registers stand in banks of three, each of which holds a page: "D15-0, D31-16, D47-32".
abbrev pub third_at : (index : ℕ) → Third
third_at index = if index =? 0 then Low else if index =? 1 then Middle else High

-- The banks, in order: "514-516: .. advertised. 517-519: the partner's"; "the registers 520-522 (own Next Page) and 523-525 (heard Next Page)".
abbrev pub in_bank : (index : ℕ) → Third → Option Register
in_bank index third =
    if index =? 0 then Some (Part Advertised third)
    else if index =? 1 then Some (Part Partner third)
    else if index =? 2 then Some (Part Transmit third)
    else if index =? 3 then Some (Part Heard third)
    else None

-- The register that a number names, if any; row 10 of the refusals, Register, as amended: "10 Register means not 512-525". From 514 on the place in the banks is the number less 514.
unfoldable pub register_of : (number : ℕ) → Option Register
register_of number =
    if number <? 512 then None
    else if number =? 512 then Some Control
    else if number =? 513 then Some Status
    else in_bank ((number - 514) / 3) (third_at ((number - 514) % 3))

-- The page that a bank holds.
abbrev pub bank_of : Bank → Device → ℕ
bank_of Advertised d = d.lasting.advertised
bank_of Partner d = d.link.partner
bank_of Transmit d = d.link.next.transmit
bank_of Heard d = d.link.next.heard

-- 512: "It reads as bit 12 alone", "bit 12 is enable".
abbrev pub control_value : Device → ℕ
control_value d = if is_off d.state then 0 else 2 ^ 12

-- A value that has bit n alone, or is 0.
abbrev pub bit_if : (n : ℕ) (test : Bool) → ℕ
bit_if n test = if test then 2 ^ n else 0

-- "513, read only: 6 Page received, 5 complete (state Up), 4 Remote fault, 3 always one, 2 link latch."
unfoldable pub status_bits : (received up fault latch : Bool) → ℕ
status_bits received up fault latch = bit_if 6 received + (bit_if 5 up + (bit_if 4 fault + (2 ^ 3 + bit_if 2 latch)))

abbrev pub status_value : Device → ℕ
status_value d = status_bits d.lasting.flags.received (is_up d.state) d.lasting.flags.fault d.link.talk.latch

-- "A read answers, then clears 6 and 4 and sets the latch to "state is Up"."
abbrev pub status_read : Device → Device
status_read d = with_flags false false (with_latch (is_up d.state) d)

-- A read, by register. 520-522 are "read as written"; "A read of any of the six changes nothing."
abbrev pub read_at : Option Register → Device → Due
read_at (Some Control) d = due (register_value (control_value d)) d
read_at (Some Status) d = due (register_value (status_value d)) (status_read d)
read_at (Some (Part bank third)) d = due (register_value (third_of third (bank_of bank d))) d
read_at None d = due (refused refusal.Register) d

unfoldable pub read_due : (number : ℕ) → Device → Due
read_due number d = read_at (register_of number) d

-- "if bit 9 is set or it was off"
abbrev pub enters_break_by : (value : ℕ) → State → Bool
enters_break_by value state = has_bit value 9 || is_off state

-- A write to 512: "bit 15 written as one makes the device fresh (Off, all zero), the rest of that write unused. Otherwise bit 12 is enable: 0 goes Off; 1
-- goes to Break if bit 9 is set or it was off." Else it stays as it was. "A write of 512 with bit 12 zero enters Off also from Off."
unfoldable pub commanded : (value reading : ℕ) → Device → Device
commanded value reading d =
    if has_bit value 15 then fresh_device
    else if has_bit value 12 then (if enters_break_by value d.state then into_break reading d else d)
    else into_off d

-- Whether a page is loaded after a write of this one of 520-522: "A write of 520 sets the loaded mark; writes of 521 and 522 do not."
abbrev pub loads : Third → (loaded : Bool) → Bool
loads Low loaded = true
loads Middle loaded = loaded
loads High loaded = loaded

abbrev pub transmit_written : Third → (value : ℕ) → Device → Device
transmit_written third value d =
    with_loaded (loads third d.link.next.loaded) (with_transmit (with_third third value d.link.next.transmit) d)

-- A write to a bank. "517-519: the partner's, read only." "523-525 are the heard Next Page, read only."
abbrev pub bank_written : Bank → Third → (value : ℕ) → Device → Device
bank_written Advertised third value d = with_advertised (with_third third value d.lasting.advertised) d
bank_written Partner third value d = d
bank_written Transmit third value d = transmit_written third value d
bank_written Heard third value d = d

-- A write, by register. "Writes to read-only registers answer nothing and change nothing."
abbrev pub write_at : Option Register → (value reading : ℕ) → Device → Due
write_at (Some Control) value reading d = due nothing (commanded value reading d)
write_at (Some Status) value reading d = due nothing d
write_at (Some (Part bank third)) value reading d = due nothing (bank_written bank third value d)
write_at None value reading d = due (refused refusal.Register) d

unfoldable pub write_due : (number value reading : ℕ) → Device → Due
write_due number value reading d = write_at (register_of number) value reading d
