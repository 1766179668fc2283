-- Registers: a read and a write. A device and its twin say the same and stay twins, but for a read of 7.513: its answers agree without bits 6 and 4,
-- which are the flags, and after it the flags are clear at both.
use Rattle.std.specs.Prelude.{Option, Some, None}
use Prim.Native.Nat.{ℕ}
use mathlib.Core.Path.{◌≡◌, refl, sym, ◌∙◌}
use mathlib.Core.Bool.{Bool, true, false, true≢false}
use lib.Dec.{eqb}
use Rattle.answers.specs.Answers.{nothing, refused, register_value}
use Rattle.answers.specs.declared.Refusal.TheVariants as refusal
use Rattle.page_word.specs.Word.{has_bit}
use Rattle.page_word.specs.Fields.{with_part}
use Rattle.port_state.specs.declared.Flags.{Flags}
use Rattle.port_state.specs.declared.Device.{Device}
use Rattle.port_state.specs.Memory.{is_up}
use Rattle.page_word.specs.Thirds.{third_of}
use Rattle.port_registers.specs.declared.Bank.TheVariants as bank
use Rattle.port_registers.specs.declared.Register.{Register}
use Rattle.port_registers.specs.declared.Register.TheVariants.{Control, Status, Part}
use Rattle.port_registers.specs.Registers.{register_of, bank_of, control_value, status_bits, read_at, read_due, enters_break_by, commanded, write_at, write_due}
use Rattle.port_registers.proofs.RegisterNumbers.{is_status, status_number, bank_ahead}
use Rattle.promises.specs.TwoPasts.{shifted, without6_and4}
use Rattle.port_state.proofs.ClockAhead.{twin}
use Rattle.promises.proofs.Twins.{Twins, Alike, twins_if, kept, saying_same}

-- 7.513 without bits 6 and 4 has nothing of the flags.
status_without : (received up fault latch : Bool)
    → without6_and4 (register_value (status_bits received up fault latch)) ≡ register_value (status_bits false up false latch)
unfolding without6_and4 with_part status_bits
status_without true true true true = refl
status_without true true true false = refl
status_without true true false true = refl
status_without true true false false = refl
status_without true false true true = refl
status_without true false true false = refl
status_without true false false true = refl
status_without true false false false = refl
status_without false true true true = refl
status_without false true true false = refl
status_without false true false true = refl
status_without false true false false = refl
status_without false false true true = refl
status_without false false true false = refl
status_without false false false true = refl
status_without false false false false = refl

module _ (δ : ℕ) (g : Flags) where
  -- A read of 7.513.
  pub status_says : (d : Device) → without6_and4 (read_due 513 d).says ≡ without6_and4 (read_due 513 (twin δ g d)).says
  unfolding read_due register_of
  status_says d =
      status_without d.lasting.flags.received (is_up d.state) d.lasting.flags.fault d.link.talk.latch
      ∙ sym (status_without g.received (is_up d.state) g.fault d.link.talk.latch)

  pub status_twins : (d : Device) → (read_due 513 (twin δ g d)).device ≡ twin δ (read_due 513 d).device.lasting.flags (read_due 513 d).device
  unfolding read_due register_of
  status_twins d = refl

  -- A read of any other register.
  read_at_law : (r : Option Register) (d : Device) → is_status r ≡ false → Alike δ d.lasting.flags g (read_at r d) (read_at r (twin δ g d))
  read_at_law (Some Control) d other = saying_same (register_value (control_value d)) kept
  read_at_law (Some Status) d other = absurd (true≢false other)
  read_at_law (Some (Part bank third)) d other = rw (bank_ahead bank δ g d) (saying_same (register_value (third_of third (bank_of bank d))) kept)
  read_at_law None d other = saying_same (refused refusal.Register) kept

  pub read_alike : (n : ℕ) (d : Device) → eqb n 513 ≡ false → Alike δ d.lasting.flags g (read_due n d) (read_due n (twin δ g d))
  unfolding read_due
  read_alike n d other = read_at_law (register_of n) d (sym (status_number n) ∙ other)

  -- A write. A device that is made fresh has no flags; all else keeps them.
  command_twins : (value reading : ℕ) (d : Device)
      → Twins δ d.lasting.flags g (commanded value reading d) (commanded value (shifted δ reading) (twin δ g d))
  unfolding commanded
  command_twins value reading d =
      twins_if (has_bit value 15) (record { device = refl; flags = λ h. refl })
      (twins_if (has_bit value 12) (twins_if (enters_break_by value d.state) kept kept) kept)

  write_at_law : (r : Option Register) (value reading : ℕ) (d : Device)
      → Alike δ d.lasting.flags g (write_at r value reading d) (write_at r value (shifted δ reading) (twin δ g d))
  write_at_law (Some Control) value reading d = saying_same nothing (command_twins value reading d)
  write_at_law (Some Status) value reading d = saying_same nothing kept
  write_at_law (Some (Part bank.Advertised third)) value reading d = saying_same nothing kept
  write_at_law (Some (Part bank.Partner third)) value reading d = saying_same nothing kept
  write_at_law (Some (Part bank.Transmit third)) value reading d = saying_same nothing kept
  write_at_law (Some (Part bank.Heard third)) value reading d = saying_same nothing kept
  write_at_law None value reading d = saying_same (refused refusal.Register) kept

  pub write_alike : (n value reading : ℕ) (d : Device)
      → Alike δ d.lasting.flags g (write_due n value reading d) (write_due n value (shifted δ reading) (twin δ g d))
  unfolding write_due
  write_alike n value reading d = write_at_law (register_of n) value reading d

-- Where the flags are the same, every read answers the same.
same_at : (δ : ℕ) (r : Option Register) (d : Device) → (read_at r d).says ≡ (read_at r (twin δ d.lasting.flags d)).says
same_at δ (Some Control) d = refl
same_at δ (Some Status) d = refl
same_at δ (Some (Part bank third)) d = rw (bank_ahead bank δ d.lasting.flags d)
same_at δ None d = refl

pub read_same : (δ n : ℕ) (d : Device) → (read_due n d).says ≡ (read_due n (twin δ d.lasting.flags d)).says
unfolding read_due
read_same δ n d = same_at δ (register_of n) d
