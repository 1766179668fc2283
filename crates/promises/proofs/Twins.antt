-- A device and its twin (port_state/proofs/ClockAhead: the same on a clock that is δ ahead, with any two flags) that say the same and stay twins.
use Prim.Native.Nat.{ℕ}
use mathlib.Core.Path.{◌≡◌, refl, sym, subst}
use mathlib.Core.Bool.{Bool, true, false, cond}
use Rattle.answers.specs.Answers.{Said}
use Rattle.port_state.specs.declared.Flags.{Flags}
use Rattle.port_state.specs.declared.Device.{Device}
use Rattle.port_state.specs.Memory.{Due, due}
use Rattle.port_state.proofs.ClockAhead.{twin}

-- The second device is the first one's twin; and if the flags were the same before, f and g, they still are.
pub record Twins (δ : ℕ) (f g : Flags) (x y : Device) : Type 0 where
  pub device : y ≡ twin δ y.lasting.flags x
  pub flags : f ≡ g → x.lasting.flags ≡ y.lasting.flags

-- So with what is due: the same is said.
pub record Alike (δ : ℕ) (f g : Flags) (x y : Due) : Type 0 where
  pub says : x.says ≡ y.says
  pub devices : Twins δ f g x.device y.device

-- Both under one test.
pub twins_if : {δ : ℕ} {f g : Flags} {x x' y y' : Device} (t : Bool) → Twins δ f g x y → Twins δ f g x' y' → Twins δ f g (cond t x x') (cond t y y')
twins_if true then else = then
twins_if false then else = else

pub alike_if : {δ : ℕ} {f g : Flags} {x x' y y' : Due} (t : Bool) → Alike δ f g x y → Alike δ f g x' y' → Alike δ f g (cond t x x') (cond t y y')
alike_if true then else = then
alike_if false then else = else

-- Each under its own test, where the two come out the same.
pub twins_by : {δ : ℕ} {f g : Flags} {x x' y y' : Device} (t u : Bool) → u ≡ t → Twins δ f g x y → Twins δ f g x' y'
    → Twins δ f g (cond t x x') (cond u y y')
twins_by {δ} {f} {g} {x} {x'} {y} {y'} t u same then else =
    subst (λ (v : Bool). Twins δ f g (cond t x x') (cond v y y')) (sym same) (twins_if t then else)

pub alike_by : {δ : ℕ} {f g : Flags} {x x' y y' : Due} (t u : Bool) → u ≡ t → Alike δ f g x y → Alike δ f g x' y'
    → Alike δ f g (cond t x x') (cond u y y')
alike_by {δ} {f} {g} {x} {x'} {y} {y'} t u same then else =
    subst (λ (v : Bool). Alike δ f g (cond t x x') (cond v y y')) (sym same) (alike_if t then else)

-- A device and its twin, where the first has the flags that it had.
pub kept : {δ : ℕ} {g : Flags} {x : Device} → Twins δ x.lasting.flags g x (twin δ g x)
kept = record { device = refl; flags = λ h. h }

-- Where both say the same.
pub saying_same : {δ : ℕ} {f g : Flags} {x y : Device} (s : Said) → Twins δ f g x y → Alike δ f g (due s x) (due s y)
saying_same s t = record { says = refl; devices = t }
