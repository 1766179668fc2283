-- Computed: every number from 1 to 511 is a power of alpha, and none of the powers 1 to 510 is 1. So what holds of zero and of each power holds of each symbol.
use mathlib.Core.Path.{◌≡◌, refl, sym, ap, ◌∙◌, subst}
use mathlib.Core.Bool.{Bool, true, false, cond, false≢true}
use mathlib.Core.List.{List, [], ◌∷◌}
use Prim.Native.Nat.{ℕ, zero, suc, ◌+◌, ◌<◌}
use native.Mathlib.Nat.{le_of_suc-le-suc, not-suc-le-zero}
use native.Mathlib.Omega.{arith}
use lib.Dec.{eqb}
use borrow.Author.Tests.{eqb-true, eqb-false}
use Rattle.page_word.proofs.ComputedTest.{every_below, at_each}
use Rattle.frame_field.proofs.TimesAlpha.{times_alpha, alphas, power, alphas_add, alphas_swap, alphas_one, alphas_shift, alphas_same}

-- n powers from p on.
abbrev powers_from : ℕ → ℕ → List ℕ
powers_from zero p = []
powers_from (suc n) p = p ∷ powers_from n (times_alpha p)

abbrev found : ℕ → List ℕ → Bool
found x [] = false
found x (p ∷ l) = let rest = found x l in cond (eqb x p) true rest

-- x is alpha^exponent times p.
pub record PowerOf (p x : ℕ) : Type 0 where
  pub exponent : ℕ
  pub is : alphas exponent p ≡ x

found_power : (n p x : ℕ) → found x (powers_from n p) ≡ true → PowerOf p x
unfolding alphas
found_power zero p x e = absurd (false≢true e)
found_power (suc n) p x e = by (eqb x p) refl e (λ f. found_power n (times_alpha p) x f)
  where
    by : (t : Bool) → eqb x p ≡ t → cond t true (found x (powers_from n (times_alpha p))) ≡ true
        → (found x (powers_from n (times_alpha p)) ≡ true → PowerOf (times_alpha p) x) → PowerOf p x
    by true q e r = record { exponent = 0; is = sym (eqb-true x p q) }
    by false q e r = let o = r e in record { exponent = suc o.exponent; is = sym (alphas_shift o.exponent p) ∙ o.is }

not_found : (n p x k : ℕ) → found x (powers_from n p) ≡ false → k < n → alphas k p ≡ x → ⊥
unfolding alphas
not_found zero p x k e h f = absurd (not-suc-le-zero h)
not_found (suc n) p x zero e h f = by (eqb x p) refl e
  where
    by : (t : Bool) → eqb x p ≡ t → cond t true (found x (powers_from n (times_alpha p))) ≡ false → ⊥
    by true q e = false≢true (sym e)
    by false q e = eqb-false x p q (sym f)
not_found (suc n) p x (suc k) e h f = by (eqb x p) e (λ r. not_found n (times_alpha p) x k r (le_of_suc-le-suc h) (alphas_shift k p ∙ f))
  where
    by : (t : Bool) → cond t true (found x (powers_from n (times_alpha p))) ≡ false
        → (found x (powers_from n (times_alpha p)) ≡ false → ⊥) → ⊥
    by true e r = false≢true (sym e)
    by false e r = r e

all_powers : every_below 511 (λ x. found (suc x) (powers_from 511 1)) ≡ true
unfolding times_alpha
all_powers = refl

first_one : found 1 (powers_from 510 2) ≡ false
unfolding times_alpha
first_one = refl

pub two : times_alpha 1 ≡ 2
unfolding times_alpha
two = refl

-- Every symbol but zero is a power of alpha.
pub is_power : (x : ℕ) → x < 512 → (x ≡ 0 → ⊥) → PowerOf 1 x
is_power zero h n = absurd (n refl)
is_power (suc x) h n = found_power 511 1 (suc x) (at_each 511 (λ y. found (suc y) (powers_from 511 1)) all_powers x (omega arith))

-- No symbol but zero stays itself under alpha^d, 0 < d < 511.
pub moved : (d x : ℕ) → 0 < d → d < 511 → x < 512 → alphas d x ≡ x → x ≡ 0
moved zero x h k l e = absurd (not-suc-le-zero h)
moved (suc d) x h k l e = by (eqb x 0) refl
  where
    none : PowerOf 1 x → ⊥
    none p =
        not_found 510 2 1 d first_one (omega arith)
        (ap (alphas d) (sym (alphas_one 1 ∙ two)) ∙ sym (alphas_add 1 d 1) ∙ ap (λ (n : ℕ). alphas n 1) (let s : 1 + d ≡ suc d = omega arith in s)
        ∙ alphas_same p.exponent (alphas (suc d) 1) 1 (alphas_swap p.exponent (suc d) 1 ∙ ap (alphas (suc d)) p.is ∙ e ∙ sym p.is))

    by : (t : Bool) → eqb x 0 ≡ t → x ≡ 0
    by true q = eqb-true x 0 q
    by false q = absurd (none (is_power x l (eqb-false x 0 q)))

-- What holds of zero and of each power of alpha holds of each symbol.
pub by_power : (P : ℕ → Type 0) → P 0 → ((k : ℕ) → P (power k)) → (x : ℕ) → x < 512 → P x
by_power P z f zero h = z
by_power P z f (suc x) h = let p = is_power (suc x) h (λ e. omega arith) in subst P p.is (f p.exponent)
