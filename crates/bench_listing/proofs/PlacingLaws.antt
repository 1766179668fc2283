-- Bytes put one after another into a list are put at once.
use mathlib.Core.Path.{◌≡◌, sym, ap, ap₂, ◌∙◌, subst}
use mathlib.Core.List.{List, [], ◌++◌, append-nil, append_assoc}
use Prim.Native.Nat.{ℕ, ◌+◌, ◌≤◌}
use native.Mathlib.Nat.{add-zero}
use native.Mathlib.Omega.{arith}
use lib.ListN.{length, take, drop, length-append, length-drop, take-append-drop}
use lib.Seq.{take_at, drop-append-add, drop-drop, length-take-le}
use Rattle.bench_listing.specs.Calls.{Puts}

module _ {before : List ℕ} {at : ℕ} {bytes after : List ℕ} {next : ℕ} (p : Puts before at bytes after next) where
  head_length : length (take at before ++ bytes) ≡ next
  head_length =
      let f = p.fits in
      let b = p.behind in
      let t = length-take-le at before (omega arith) in
      let a = length-append (take at before) bytes in omega arith

  -- The list keeps its length.
  pub same_long : length after ≡ length before
  same_long =
      let f = p.fits in
      let b = p.behind in
      let h = head_length in
      let c = ap length p.contents in
      let a = length-append (take at before ++ bytes) (drop (at + length bytes) before) in
      let d = length-drop (at + length bytes) before in omega arith

  pub puts_same : {other : List ℕ} → bytes ≡ other → Puts before at other after next
  puts_same {other} e = subst (λ (l : List ℕ). Puts before at l after next) e p

  pub puts_then : {more last : List ℕ} {end : ℕ} → Puts after next more last end → Puts before at (bytes ++ more) last end
  puts_then {more} {last} {end} q =
      record {
        fits = let s = same_long in let f = q.fits in let b = p.behind in let l = length-append bytes more in omega arith;
        contents =
            q.contents
            ∙ ap₂ (λ (x y : List ℕ). (x ++ more) ++ y) head_taken tail_left
            ∙ ap (λ (x : List ℕ). x ++ drop (at + length (bytes ++ more)) before) (append_assoc (take at before) bytes more);
        behind = let b = p.behind in let e = q.behind in let l = length-append bytes more in omega arith;
      }
    where
      rest : List ℕ
      rest = drop (at + length bytes) before

      head_taken : take next after ≡ take at before ++ bytes
      head_taken = ap (take next) p.contents ∙ take_at (take at before ++ bytes) (drop (at + length bytes) before) next head_length

      tail_left : drop (next + length more) after ≡ drop (at + length (bytes ++ more)) before
      tail_left =
          ap₂ (λ (n : ℕ) (l : List ℕ). drop (n + length more) l) (sym head_length) p.contents
          ∙ drop-append-add (take at before ++ bytes) (drop (at + length bytes) before) (length more)
          ∙ drop-drop (length more) (at + length bytes) before
          ∙ ap (λ (n : ℕ). drop n before) (let l = length-append bytes more in let e : (at + length bytes) + length more ≡ at + length (bytes ++ more) = omega arith in e)

-- No bytes are put by leaving the list as it is.
pub puts_none : (list : List ℕ) (at : ℕ) → at ≤ length list → Puts list at [] list at
puts_none list at h =
    record {
      fits = omega arith;
      contents = sym (ap (λ (n : ℕ). (take at list ++ []) ++ drop n list) (add-zero at) ∙ ap (λ (l : List ℕ). l ++ drop at list) (append-nil (take at list)) ∙ take-append-drop at list);
      behind = omega arith;
    }
