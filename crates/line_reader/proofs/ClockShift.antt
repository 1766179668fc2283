-- The clock's shift: the time between two readings is the same if both are later by δ modulo 2^32. So a reader whose stored reading is later by
-- δ hears the same at an edge that is.
use Rattle.std.specs.Prelude.{Some, None, Err}
use mathlib.Core.Path.{◌≡◌, refl, ap, ◌∙◌}
use mathlib.Core.Bool.{Bool, true, false, cond}
use Prim.Native.Nat.{ℕ, ◌+◌, ◌-◌, ◌%◌, ◌^◌, ◌<◌}
use native.Mathlib.Nat.{mod-lt}
use native.Mathlib.Omega.{arith}
use lib.Dec.{eqb}
use lib.Pow.{pow_pos}
use Rattle.line_mode.specs.declared.modes.LineMode.{LineMode}
use Rattle.line_mode.specs.declared.modes.Judgement.{Judgement}
use Rattle.line_mode.specs.declared.modes.Judgement.TheVariants.{Positions, Quiet, Unfit}
use Rattle.line_reader.specs.declared.endings.Broken.TheVariants.{Gap}
use Rattle.line_reader.specs.declared.reader.Reader.{Reader}
use Rattle.line_reader.specs.declared.reader.Reader.TheVariants.{Fresh, Open, Dropping}
use Rattle.line_reader.specs.declared.reader.Step.{Step}
use Rattle.line_mode.specs.Clock.{time_between}
use Rattle.line_mode.specs.Gaps.{judgement_of}
use Rattle.line_reader.specs.Pattern.{asks}
use Rattle.line_reader.specs.Reading.{step, page_end, with_bit, arrives, goes_on, drops_on, edge_of}

-- A reading d later than another.
pub time_of_distance : (a d : ℕ) → d < 2 ^ 32 → time_between ((a + d) % 2 ^ 32) (a % 2 ^ 32) ≡ d
time_of_distance a d h = omega arith

-- The earlier of two readings and the time between them meet the later.
time_meets : (x y : ℕ) → (y + time_between x y) % 2 ^ 32 ≡ x % 2 ^ 32
time_meets x y = omega arith

-- Two sums that are alike modulo 2^32 are, later by δ.
later_alike : (δ x y d : ℕ) → (y + d) % 2 ^ 32 ≡ x % 2 ^ 32 → (x + δ) % 2 ^ 32 ≡ (y + δ + d) % 2 ^ 32
later_alike δ x y d h = omega arith

-- Both readings later by δ.
pub time_shifted : (δ x y : ℕ) → time_between ((x + δ) % 2 ^ 32) ((y + δ) % 2 ^ 32) ≡ time_between x y
time_shifted δ x y =
    ap (λ (r : ℕ). time_between r ((y + δ) % 2 ^ 32)) (later_alike δ x y (time_between x y) (time_meets x y))
    ∙ time_of_distance (y + δ) (time_between x y) (mod-lt (x + (2 ^ 32 - y % 2 ^ 32)) (pow_pos 32))

-- A reader whose stored reading is later by δ; a fresh one stores none.
abbrev pub later : ℕ → Reader → Reader
later δ Fresh = Fresh
later δ (Open at last bits) = Open at ((last + δ) % 2 ^ 32) bits
later δ (Dropping last) = Dropping ((last + δ) % 2 ^ 32)

-- What an edge brings, with that reader.
abbrev pub step_later : ℕ → Step → Step
step_later δ b = step b.heard (later δ b.reader)

-- A choice between two, later.
choice_later : (δ : ℕ) (t : Bool) (b c : Step) → cond t (step_later δ b) (step_later δ c) ≡ step_later δ (cond t b c)
choice_later δ true b c = refl
choice_later δ false b c = refl

-- What a gap brings, once it is judged, has nothing to do with the reading but that it is stored.
arrives_later : (δ at bits reading : ℕ) → arrives at bits ((reading + δ) % 2 ^ 32) ≡ step_later δ (arrives at bits reading)
unfolding arrives
arrives_later δ at bits reading =
    choice_later δ (eqb at 157) (step (Some (page_end bits)) (Dropping reading)) (step None (Open at reading bits))

goes_on_later : (δ : ℕ) (m : LineMode) (at bits reading : ℕ) (j : Judgement)
    → goes_on m at bits ((reading + δ) % 2 ^ 32) j ≡ step_later δ (goes_on m at bits reading j)
unfolding goes_on
goes_on_later δ m at bits reading Quiet = refl
goes_on_later δ m at bits reading Unfit = refl
goes_on_later δ m at bits reading (Positions k) =
    ap (λ (b : Step). cond (asks m at k) b (step (Some (Err Gap)) (Dropping ((reading + δ) % 2 ^ 32)))) (arrives_later δ (at + k) (with_bit at k bits) reading)
    ∙ choice_later δ (asks m at k) (arrives (at + k) (with_bit at k bits) reading) (step (Some (Err Gap)) (Dropping reading))

drops_on_later : (δ reading : ℕ) (j : Judgement) → drops_on ((reading + δ) % 2 ^ 32) j ≡ step_later δ (drops_on reading j)
unfolding drops_on
drops_on_later δ reading Quiet = refl
drops_on_later δ reading Unfit = refl
drops_on_later δ reading (Positions k) = refl

-- An edge later by δ to a reader later by δ: the same is heard, and the reader afterwards is later by δ.
pub edge_later : (m : LineMode) (δ : ℕ) (r : Reader) (reading : ℕ) → edge_of m (later δ r) ((reading + δ) % 2 ^ 32) ≡ step_later δ (edge_of m r reading)
unfolding edge_of
edge_later m δ Fresh reading = refl
edge_later m δ (Open at last bits) reading =
    ap (λ (gap : ℕ). goes_on m at bits ((reading + δ) % 2 ^ 32) (judgement_of m gap)) (time_shifted δ reading last)
    ∙ goes_on_later δ m at bits reading (judgement_of m (time_between reading last))
edge_later m δ (Dropping last) reading =
    ap (λ (gap : ℕ). drops_on ((reading + δ) % 2 ^ 32) (judgement_of m gap)) (time_shifted δ reading last)
    ∙ drops_on_later δ reading (judgement_of m (time_between reading last))
