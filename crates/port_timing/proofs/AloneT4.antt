-- T4 as a number, 16 or 0, is what is left of T above its four lowest bits.
use Rattle.std.proofs.Common.{◌≡◌, ℕ, Bool, true, false, ◌*◌, ◌/◌, ◌%◌, ◌^◌, ◌<◌, refl, arith}
use Rattle.std.specs.Prelude.{if◌then◌else◌}
use borrow.Author.Tests.{eqb-true, eqb-false}
use lib.Dec.{eqb}
use Rattle.page_word.specs.Word.{has_bit}
use Rattle.page_word.specs.Fields.{field_of}
use Rattle.page_word.specs.declared.fields.Field.TheVariants.{Nonce}
use Rattle.page_word.proofs.FieldLaws.{part_below}
use Rattle.page_resolve.specs.Roles.{has_t4}

by_bit : (nonce : ℕ) → nonce < 2 ^ 5 → nonce / 16 * 16 ≡ (if has_bit nonce 4 then 16 else 0)
by_bit nonce short = by (eqb (nonce / 2 ^ 4 % 2) 1) refl
  where
    by : (t : Bool) → eqb (nonce / 2 ^ 4 % 2) 1 ≡ t → nonce / 16 * 16 ≡ (if t then 16 else 0)
    by true e = let o = eqb-true (nonce / 2 ^ 4 % 2) 1 e in omega arith
    by false e = let o = eqb-false (nonce / 2 ^ 4 % 2) 1 e in omega arith

pub t4_alone : (word : ℕ) → field_of Nonce word / 16 * 16 ≡ (if has_t4 word then 16 else 0)
t4_alone word = by_bit (field_of Nonce word) (part_below 16 5 word)
