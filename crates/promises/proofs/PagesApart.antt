-- The check bits and what they are worth, from the laws on remainders and on damage.
use Prim.Native.Nat.{ℕ, zero, suc, ◌+◌, ◌%◌, ◌^◌, ◌<◌, ◌≤◌}
use mathlib.Core.Path.{◌≡◌, refl, sym, ap, ◌∙◌, subst}
use mathlib.Core.Bool.{Bool, false, cond, xor}
use mathlib.Core.List.{List, ◌++◌}
use lib.ListN.{length, replicate}
use Rattle.page_word.specs.Word.{bits_of, among}
use Rattle.polynomials.specs.Polynomials.{multiplied}
use Rattle.polynomials.specs.Binary.{binary}
use Rattle.page_check_bits.specs.CheckBits.{generator, check_list}
use Rattle.page_check_bits.proofs.Remainders.{quotient, divisible, no_other}
use Rattle.page_check_bits.proofs.Strength.{differing}
use Rattle.line_mode.specs.declared.modes.LineMode.{LineMode}
use Rattle.line_writer.specs.Transitions.{sent_bits, transitions}
use Rattle.line_writer.proofs.Damage.{has_at, pages_apart}
use Rattle.promises.specs.SmallDamage.{changed_below, FarApart, SmallDamage}

same_changed : (n : ℕ) (page other : List ℕ) → changed_below n page other ≡ differing n (has_at page) (has_at other)
unfolding changed_below differing
same_changed zero page other = refl
same_changed (suc p) page other = ap (λ (k : ℕ). cond (xor (among p page) (among p other)) 1 0 + k) (same_changed p page other)

check_multiple : (w : ℕ) → (q : List Bool) × (multiplied binary q generator ≡ sent_bits w)
unfolding sent_bits check_list
check_multiple w =
    let q = quotient (length (bits_of 48 w)) (bits_of 48 w ++ replicate 16 false) in (q, divisible (bits_of 48 w))

check_alone : (w : ℕ) (q bits : List Bool) → length bits ≡ 16 → multiplied binary q generator ≡ bits_of 48 w ++ bits → bits ≡ check_list w
unfolding check_list
check_alone w q bits long e = no_other (bits_of 48 w) bits q long e

far_apart : (mode : LineMode) (w v : ℕ) → w < 2 ^ 48 → v < 2 ^ 48 → (w ≡ v → ⊥) → FarApart (transitions mode w) (transitions mode v)
far_apart mode w v word word' other =
    let apart = pages_apart w v word word' other mode in
    let counted = same_changed 158 (transitions mode w) (transitions mode v) in
    record {
      even = ap (λ (n : ℕ). n % 2) counted ∙ apart.even;
      four = subst (λ (n : ℕ). 4 ≤ n) (sym counted) apart.four;
      spread = apart.spread;
    }

pub small_damage : SmallDamage
small_damage = record { divides = check_multiple; no_other = check_alone; apart = far_apart }
