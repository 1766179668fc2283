-- What resolving looks at in a word, and that nothing else of it matters: whether it is a word, S, M/S, T, and the abilities of the list.
use mathlib.Core.Path.{◌≡◌, refl, sym, ap, ap₂, ◌∙◌}
use mathlib.Core.Bool.{Bool, true, false, cond, ◌&&◌}
use mathlib.Core.List.{List, [], ◌∷◌}
use Prim.Native.Nat.{ℕ, suc, ◌<◌, ◌^◌}
use native.Mathlib.Omega.{arith}
use lib.Dec.{eqb, ltb}
use Rattle.std.specs.Prelude.{Some}
use lib.ListN.{length, get_or}
use borrow.Author.Tests.{lt-leb}
use Rattle.page_word.specs.Word.{is_wide, has_bit}
use Rattle.page_word.specs.Fields.{field_of, with_field}
use Rattle.page_word.specs.declared.fields.Field.{Field}
use Rattle.page_word.specs.declared.fields.Field.TheVariants.{Selector, EchoedNonce, Pause, ForcedRole, RemoteFault, Ack, NextPage, Nonce, Abilities}
use Rattle.page_word.proofs.FieldLaws.{rank, set_keeps, set_stays_word}
use Rattle.page_resolve.specs.Rates.{has_ability, common_of}
use Rattle.page_resolve.specs.Roles.{is_forced, has_t4, master_if, both_forced, role_by, role_of}
use Rattle.page_resolve.specs.Resolving.{resolution_of}
use Rattle.page_resolve.proofs.Exchange.{opposite, exchanged}

-- Two numbers that are the same as far as resolving looks.
pub record Alike (order : List ℕ) (a b : ℕ) : Type 0 where
  pub word : is_wide a ≡ is_wide b
  pub selector : field_of Selector a ≡ field_of Selector b
  pub forced : field_of ForcedRole a ≡ field_of ForcedRole b
  pub nonce : field_of Nonce a ≡ field_of Nonce b
  pub abilities : (k : ℕ) → k < length order → has_ability a (get_or order k 0) ≡ has_ability b (get_or order k 0)

same_common : (order : List ℕ) (a b partner : ℕ) → ((k : ℕ) → k < length order → has_ability a (get_or order k 0) ≡ has_ability b (get_or order k 0))
    → common_of order a partner ≡ common_of order b partner
same_common [] a b partner h = refl
same_common (n ∷ order) a b partner h =
    ap₂ (λ (t : Bool) (rest : List ℕ). cond t (n ∷ rest) rest) (ap (λ (t : Bool). t && has_ability partner n) (h 0 (omega arith)))
    (same_common order a b partner (λ k l. h (suc k) (omega arith)))

same_role_by : (f g : Bool) (a b partner : ℕ) → field_of Nonce a ≡ field_of Nonce b → role_by f g a partner ≡ role_by f g b partner
same_role_by false false a b partner h = ap (λ (t : ℕ). Some (master_if (ltb (field_of Nonce partner) t))) h
same_role_by true false a b partner h = ap (λ (t : ℕ). Some (master_if (has_bit t 4))) h
same_role_by false true a b partner h = refl
same_role_by true true a b partner h = ap (λ (t : ℕ). both_forced (has_bit t 4) (has_t4 partner)) h

same_role : (order : List ℕ) (a b partner : ℕ) → Alike order a b → role_of a partner ≡ role_of b partner
unfolding role_of
same_role order a b partner h =
    same_role_by (is_forced a) (is_forced partner) a b partner h.nonce
    ∙ ap (λ (x : ℕ). role_by (eqb x 1) (is_forced partner) b partner) h.forced

-- Own words that are alike resolve alike,
pub same_own : (order : List ℕ) (a b partner : ℕ) → Alike order a b → resolution_of order a partner ≡ resolution_of order b partner
unfolding resolution_of
same_own order a b partner h =
    rw (h.word, h.selector, h.nonce, same_common order a b partner h.abilities, same_role order a b partner h)

-- and so do a partner's.
pub same_partner : (order : List ℕ) (own a b : ℕ) → Alike order a b → resolution_of order own a ≡ resolution_of order own b
same_partner order own a b h = exchanged order a own ∙ ap opposite (same_own order a b own h) ∙ sym (exchanged order b own)

-- The fields that are looked at.
abbrev pub is_looked_at : Field → Bool
is_looked_at Selector = true
is_looked_at EchoedNonce = false
is_looked_at Pause = false
is_looked_at ForcedRole = true
is_looked_at RemoteFault = false
is_looked_at Ack = false
is_looked_at NextPage = false
is_looked_at Nonce = true
is_looked_at Abilities = true

-- No field that is looked at stands at the rank of one that is not.
apart : (f g : Field) → is_looked_at f ≡ false → is_looked_at g ≡ true → rank f ≡ rank g → ⊥
apart f g hf hg e =
    absurd (let z : ◌≡◌ {A = Bool} false true = sym hf ∙ looked_by_rank f ∙ ap looked_at e ∙ sym (looked_by_rank g) ∙ hg in let y : ◌≡◌ {A = ℕ} 0 1 = cc z in omega arith)
  where
    looked_at : ℕ → Bool
    looked_at n = get_or (true ∷ false ∷ false ∷ true ∷ false ∷ false ∷ false ∷ true ∷ true ∷ []) n false

    looked_by_rank : (h : Field) → is_looked_at h ≡ looked_at (rank h)
    looked_by_rank Selector = refl
    looked_by_rank EchoedNonce = refl
    looked_by_rank Pause = refl
    looked_by_rank ForcedRole = refl
    looked_by_rank RemoteFault = refl
    looked_by_rank Ack = refl
    looked_by_rank NextPage = refl
    looked_by_rank Nonce = refl
    looked_by_rank Abilities = refl

-- Echo, pause, remote fault, Ack and NP of a word, whatever they are set to, leave it alike.
pub not_looked_at : (order : List ℕ) (f : Field) (v w : ℕ) → is_looked_at f ≡ false → w < 2 ^ 48 → Alike order (with_field f v w) w
unfolding has_ability
not_looked_at order f v w h small =
    record {
      word = lt-leb (2 ^ 48) (with_field f v w) (set_stays_word f v w small) ∙ sym (lt-leb (2 ^ 48) w small);
      selector = set_keeps f Selector v w (apart f Selector h refl);
      forced = set_keeps f ForcedRole v w (apart f ForcedRole h refl);
      nonce = set_keeps f Nonce v w (apart f Nonce h refl);
      abilities = λ k l. ap (λ (x : ℕ). has_bit x (get_or order k 0)) (set_keeps f Abilities v w (apart f Abilities h refl));
    }
