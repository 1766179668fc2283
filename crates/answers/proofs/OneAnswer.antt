-- No second answer says the same: a promise about what is said fixes the answer.
-- `heard` finds the answer again from what was said, so two answers that say the same are one.
-- The number of an ability is a byte in the code; here that is the premise `ability_is_byte`.
use mathlib.Core.Path.{◌≡◌, refl, sym, ap, ◌∙◌}
use mathlib.Core.Bool.{Bool, true, false, cond}
use Prim.Native.Nat.{ℕ, ◌+◌, ◌-◌, ◌/◌, ◌^◌, ◌<◌}
use native.Mathlib.Nat.{mod-lt}
use native.Mathlib.Omega.{arith}
use lib.Arith.{digits_div}
use lib.Dec.{eqb, leb, ltb}
use lib.Pow.{pow_pos}
use borrow.Author.Tests.{le-leb, lt-leb, ltb-true}
use Rattle.answers.specs.declared.Refusal.{Refusal}
use Rattle.answers.specs.declared.Refusal.TheVariants.{Gap, Cut, Check, Selector, Tie, Changed, Echo, None, Roles, Register, Turn, Room, Wide, Mode, Odd, Toggle, Symbol, Count, Run, Length}
use Rattle.answers.specs.declared.Answer.{Answer}
use Rattle.answers.specs.declared.Answer.TheVariants.{Nothing, Refused, Page, Order, Settled, Value, Number, Quiet, Unfit}
use Rattle.answers.specs.Numbers.{number_of}
use Rattle.answers.specs.Answers.{Said, said, said_count, ability_is_byte, packed}
use Rattle.std.specs.Prelude.{Result, Ok, Err}

-- The refusal with a number; Length for a number that no other has.
abbrev refusal_at : ℕ → Refusal
refusal_at n =
    cond (eqb n 1) Gap
    (cond (eqb n 2) Cut
    (cond (eqb n 3) Check
    (cond (eqb n 4) Selector
    (cond (eqb n 5) Tie
    (cond (eqb n 6) Changed
    (cond (eqb n 7) Echo
    (cond (eqb n 8) None
    (cond (eqb n 9) Roles
    (cond (eqb n 10) Register
    (cond (eqb n 11) Turn
    (cond (eqb n 12) Room
    (cond (eqb n 13) Wide
    (cond (eqb n 14) Mode
    (cond (eqb n 15) Odd
    (cond (eqb n 17) Toggle
    (cond (eqb n 20) Symbol
    (cond (eqb n 21) Count
    (cond (eqb n 24) Run Length))))))))))))))))))

abbrev settled_at : Bool → ℕ → Answer
settled_at true v = Settled (v - 256) true
settled_at false v = Settled v false

abbrev answer_at : ℕ → ℕ → Answer
answer_at kind value =
    cond (eqb kind 0) Nothing
    (cond (ltb kind 128) (Refused (refusal_at kind))
    (cond (eqb kind 128) (Page value)
    (cond (eqb kind 129) (Order value)
    (cond (eqb kind 130) (settled_at (leb 256 value) value)
    (cond (eqb kind 131) (Value value)
    (cond (eqb kind 132) (Number value)
    (cond (eqb kind 133) Quiet Unfit)))))))

abbrev heard : Said → Answer
heard s = answer_at s.kind s.value

refusal_again : (r : Refusal) → heard (said (Refused r)) ≡ Refused r
refusal_again Gap = refl
refusal_again Cut = refl
refusal_again Check = refl
refusal_again Selector = refl
refusal_again Tie = refl
refusal_again Changed = refl
refusal_again Echo = refl
refusal_again None = refl
refusal_again Roles = refl
refusal_again Register = refl
refusal_again Turn = refl
refusal_again Room = refl
refusal_again Wide = refl
refusal_again Mode = refl
refusal_again Odd = refl
refusal_again Toggle = refl
refusal_again Symbol = refl
refusal_again Count = refl
refusal_again Run = refl
refusal_again Length = refl

settled_again : (a : ℕ) (m : Bool) → a < 256 → heard (said (Settled a m)) ≡ Settled a m
settled_again a true h = let e : leb 256 (a + 256) ≡ true = le-leb 256 (a + 256) (omega arith) in let d : a + 256 - 256 ≡ a = omega arith in rw e (rw d refl)
settled_again a false h = rw (lt-leb 256 a h) refl

again : (a : Answer) → ability_is_byte a ≡ true → heard (said a) ≡ a
again Nothing h = refl
again (Refused r) h = refusal_again r
again (Page w) h = refl
again (Order w) h = refl
again (Settled a m) h = settled_again a m (ltb-true a 256 h)
again (Value v) h = refl
again (Number n) h = refl
again Quiet h = refl
again Unfit h = refl

pub one_answer : (a b : Answer) → ability_is_byte a ≡ true → ability_is_byte b ≡ true → said a ≡ said b → a ≡ b
one_answer a b ha hb e = sym (again a ha) ∙ ap heard e ∙ again b hb

-- What an answer says to a call that counts or refuses; only these two cases are looked at.
counted_in : Answer → Result ℕ Refusal
counted_in (Number n) = Ok n
counted_in (Refused refusal) = Err refusal
counted_in _ = Err Gap

-- So a call that counts or refuses has one result for what is said.
pub one_count : (a b : Result ℕ Refusal) → said_count a ≡ said_count b → a ≡ b
unfolding counted_in
one_count (Ok m) (Ok n) e = ap counted_in (one_answer (Number m) (Number n) refl refl e)
one_count (Ok m) (Err s) e = ap counted_in (one_answer (Number m) (Refused s) refl refl e)
one_count (Err r) (Ok n) e = ap counted_in (one_answer (Refused r) (Number n) refl refl e)
one_count (Err r) (Err s) e = ap counted_in (one_answer (Refused r) (Refused s) refl refl e)

-- A refusal says something: no refusal has the number 0.
pub never_zero : (r : Refusal) → eqb (number_of r) 0 ≡ false
never_zero Gap = refl
never_zero Cut = refl
never_zero Check = refl
never_zero Selector = refl
never_zero Tie = refl
never_zero Changed = refl
never_zero Echo = refl
never_zero None = refl
never_zero Roles = refl
never_zero Register = refl
never_zero Turn = refl
never_zero Room = refl
never_zero Wide = refl
never_zero Mode = refl
never_zero Odd = refl
never_zero Toggle = refl
never_zero Symbol = refl
never_zero Count = refl
never_zero Run = refl
never_zero Length = refl

-- The kind of an answer is read off its number.
pub kind_of_packed : (s : Said) → packed s / 2 ^ 56 ≡ s.kind
kind_of_packed s = digits_div s.kind (mod-lt s.value (pow_pos 56))
