-- 01's worked examples of rate and role, computed from the definitions.
use mathlib.Core.Path.{◌≡◌, refl}
use mathlib.Core.Bool.{true, false}
use Rattle.page_word.specs.Fields.{part}
use Rattle.answers.specs.Answers.{refused, settled_on}
use Rattle.answers.specs.declared.Refusal.TheVariants.{Tie, None, Roles}
use Rattle.page_resolve.specs.Rates.{has_ability}
use Rattle.page_resolve.specs.Roles.{role_of}
use Rattle.page_resolve.specs.Resolving.{resolution_of, resolve_says}

-- "P9 own 850001, partner A90001 (hex): 1000BASE-T1, slave. P10 851001, A91001: Roles. P11 951001, A90001: master. P12 850001 twice: Tie.
-- P13 450001, A90001: None." 1000BASE-T1 is A2; P11, whose words have the same abilities, settles on it too.
pub record ResolveTable : Type 0 where
  pub p9 : resolve_says 0x850001 0xA90001 ≡ settled_on 2 false
  pub p10 : resolve_says 0x851001 0xA91001 ≡ refused Roles
  pub p11 : resolve_says 0x951001 0xA90001 ≡ settled_on 2 true
  pub p12 : resolve_says 0x850001 0x850001 ≡ refused Tie
  pub p13 : resolve_says 0x450001 0xA90001 ≡ refused None

pub resolve_table : ResolveTable
unfolding resolve_says resolution_of has_ability role_of part
resolve_table = record { p9 = refl; p10 = refl; p11 = refl; p12 = refl; p13 = refl }
