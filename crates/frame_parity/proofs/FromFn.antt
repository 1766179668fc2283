-- An array that a closure gives, index by index, is the list whose entries the closure gives.
use mathlib.Core.Path.{◌≡◌, sym, ◌∙◌, subst}
use mathlib.Core.List.{List}
use Prim.Native.Nat.{ℕ, zero, suc, ◌+◌, ◌<◌}
use native.Mathlib.Omega.{arith}
use denote.Param.Members.{Mut, Called}
use lib.ListN.{length, get_or}
use Rattle.std.specs.Array.{IsFromFnResult, IsFromFnResultFrom}
use Rattle.std.proofs.lemmas.List.{ext_get_or}

module _ {F : Type 0} (g : Mut F (ℕ × Unit {0}) ℕ) (f : F) (ys entries : List ℕ) (n : ℕ)
    (gives : (i y : ℕ) (q : F) → i < n → Called g f (i, tt) y q → (q ≡ f) × (y ≡ get_or entries i 0)) where
  each_is : (i m : ℕ) → i + m ≡ n → IsFromFnResultFrom g f ys i m → (k : ℕ) → k < m → get_or ys (i + k) 0 ≡ get_or entries (i + k) 0
  each_is i zero e r k h = absurd (omega arith)
  each_is i (suc m) e r zero h =
      let here : i + 0 ≡ i = omega arith in
      let now = gives i r.1 r.0 (omega arith) r.3 in
      rw here (r.2.1 0 ∙ now.1)
  each_is i (suc m) e r (suc k) h =
      let now = gives i r.1 r.0 (omega arith) r.3 in
      let on : i + suc k ≡ i + 1 + k = omega arith in
      rw on (each_is (i + 1) m (omega arith) (subst (λ (q : F). IsFromFnResultFrom g q ys (i + 1) m) now.0 r.4) k (omega arith))

  pub filled : IsFromFnResult g f ys n → length entries ≡ n → ys ≡ entries
  filled r h = ext_get_or 0 ys entries (r.long ∙ sym h) (λ i l. let l2 : i < n = (let e = r.long in omega arith) in let z : 0 + i ≡ i = omega arith in rw z at (each_is 0 n (omega arith) r.each i l2))
