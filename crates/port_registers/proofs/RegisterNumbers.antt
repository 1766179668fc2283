-- Which numbers name 512 and 513: what is shown of a register's kind holds of its number. And a law over all banks.
use Prim.Native.Nat.{ℕ, ◌-◌, ◌/◌, ◌%◌}
use mathlib.Core.Path.{◌≡◌, refl, sym, ◌∙◌}
use mathlib.Core.Bool.{Bool, true, false, cond}
use native.Mathlib.Omega.{arith}
use lib.Dec.{eqb, ltb}
use Rattle.std.specs.Prelude.{Option, Some, None}
use borrow.Author.Tests.{ltb-true, eqb-true, ne_eqb}
use Rattle.page_word.specs.declared.thirds.Third.{Third}
use Rattle.port_state.specs.declared.Flags.{Flags}
use Rattle.port_state.specs.declared.Device.{Device}
use Rattle.port_state.proofs.ClockAhead.{twin}
use Rattle.port_registers.specs.declared.Bank.{Bank}
use Rattle.port_registers.specs.declared.Bank.TheVariants.{Advertised, Partner, Transmit, Heard}
use Rattle.port_registers.specs.declared.Register.{Register}
use Rattle.port_registers.specs.declared.Register.TheVariants.{Control, Status, Part}
use Rattle.port_registers.specs.Registers.{third_at, in_bank, register_of, bank_of}

abbrev pub is_control : Option Register → Bool
is_control (Some Control) = true
is_control (Some Status) = false
is_control (Some (Part bank third)) = false
is_control None = false

abbrev pub is_status : Option Register → Bool
is_status (Some Control) = false
is_status (Some Status) = true
is_status (Some (Part bank third)) = false
is_status None = false

-- What holds of no register of a bank, and not of a missing one, does not hold of what stands in the banks.
not_in_bank : (test : Option Register → Bool) (index : ℕ) (third : Third) → ((bank : Bank) → test (Some (Part bank third)) ≡ false) → test None ≡ false
    → test (in_bank index third) ≡ false
not_in_bank test index third part missing = by (eqb index 0) (eqb index 1) (eqb index 2) (eqb index 3)
  where
    by : (a b c e : Bool)
        → test (cond a (Some (Part Advertised third)) (cond b (Some (Part Partner third)) (cond c (Some (Part Transmit third)) (cond e (Some (Part Heard third)) None)))) ≡ false
    by true b c e = part Advertised
    by false true c e = part Partner
    by false false true e = part Transmit
    by false false false true = part Heard
    by false false false false = missing

-- The tests of a register's number, each as it comes out.
module _ (n : ℕ) where
  abbrev by_tests : (below control status : Bool) → Option Register
  by_tests below control status =
      cond below None (cond control (Some Control) (cond status (Some Status) (in_bank ((n - 514) / 3) (third_at ((n - 514) % 3)))))

  pub control_number : eqb n 512 ≡ is_control (register_of n)
  unfolding register_of
  control_number = by (ltb n 512) refl (eqb n 512) refl (eqb n 513)
    where
      by : (a : Bool) → ltb n 512 ≡ a → (b : Bool) → eqb n 512 ≡ b → (c : Bool) → b ≡ is_control (by_tests a b c)
      by true below b is c = sym is ∙ ne_eqb n 512 (let h = ltb-true n 512 below in λ e. omega arith)
      by false above true is c = refl
      by false above false is true = refl
      by false above false is false = sym (not_in_bank is_control ((n - 514) / 3) (third_at ((n - 514) % 3)) (λ bank. refl) refl)

  pub status_number : eqb n 513 ≡ is_status (register_of n)
  unfolding register_of
  status_number = by (ltb n 512) refl (eqb n 512) refl (eqb n 513) refl
    where
      by : (a : Bool) → ltb n 512 ≡ a → (b : Bool) → eqb n 512 ≡ b → (c : Bool) → eqb n 513 ≡ c → c ≡ is_status (by_tests a b c)
      by true below b is c was = sym was ∙ ne_eqb n 513 (let h = ltb-true n 512 below in λ e. omega arith)
      by false above true is c was = sym was ∙ ne_eqb n 513 (let h = eqb-true n 512 is in λ e. omega arith)
      by false above false is true was = refl
      by false above false is false was = sym (not_in_bank is_status ((n - 514) / 3) (third_at ((n - 514) % 3)) (λ bank. refl) refl)

-- A bank is the same on a clock that is ahead.
pub bank_ahead : (bank : Bank) (δ : ℕ) (g : Flags) (d : Device) → bank_of bank (twin δ g d) ≡ bank_of bank d
bank_ahead Advertised δ g d = refl
bank_ahead Partner δ g d = refl
bank_ahead Transmit δ g d = refl
bank_ahead Heard δ g d = refl
