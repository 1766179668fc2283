-- However symbols are cut into bursts, the state after them is the same; from a new frame on it holds their parity, and the finish gives it.
use mathlib.Core.Path.{◌≡◌, refl, sym, ap, ap₂, ◌∙◌, subst}
use mathlib.Core.Bool.{Bool, true, false, cond, not, ◌&&◌}
use mathlib.Core.List.{List, [], ◌∷◌, ◌++◌}
use Prim.Native.Nat.{ℕ, ◌+◌, ◌≤◌}
use native.Mathlib.Nat.{add_assoc, add-zero, zero-add}
use native.Mathlib.Omega.{arith}
use lib.Dec.{eqb, ltb}
use borrow.Author.Tests.{ltb-false}
use lib.ListN.{length, length-append, drop, replicate, take-append-drop}
use lib.Seq.{take_at, drop_at, drop-cons, get_or_at, append_snoc, length-take-le}
use Rattle.answers.specs.Answers.{Said, Leaves, saying, number, leaving, put_at, kept}
use Rattle.answers.specs.declared.Refusal.TheVariants.{Room, Symbol, Count}
use Rattle.answers.proofs.PutAtStart.{put_at_start}
use Rattle.page_word.proofs.ComputedTest.{and_left, and_right}
use Rattle.polynomials.proofs.Division.{after_zeros}
use Rattle.frame_field.proofs.ExclusiveOr.{symbol_sums}
use Rattle.frame_polynomial.specs.Frame.{all_symbols, parity_of}
use Rattle.frame_polynomial.proofs.SymbolLists.{Symbols, as_symbols, all_symbols_law, first_symbols, last_symbols}
use Rattle.frame_polynomial.proofs.Roots.{lower, lower_long, parity_is, parity_length, parity_symbols}
use Rattle.frame_parity.specs.Taking.{register_of, count_of, register_after, entries_after, take_of, finish_of}
use Rattle.frame_parity.specs.AnyCutting.{new_frame, after_bursts, all_taken, together, AnyCutting}
use Rattle.frame_parity.proofs.RegisterLaws.{after_is, after_length, after_symbols, after_cut, after_none}
use Rattle.frame_parity.proofs.Answering.{take_good, finish_good}

-- Nothing is wrong with a burst: the state is long enough, the count stays within the data, register and burst are symbols.
pub record Good (state burst : List ℕ) : Type 0 where
  pub long : 45 ≤ length state
  pub most : count_of state + length burst ≤ 406
  pub register : Symbols (register_of state)
  pub all : Symbols burst

good_taken : (state burst : List ℕ) → Good state burst → take_of state burst ≡ leaving (number (count_of state + length burst)) (put_at 0 (entries_after state burst) state)
good_taken state burst g =
    take_good state burst g.long g.most (ap₂ ◌&&◌ (all_symbols_law (register_of state) g.register) (all_symbols_law burst g.all))

-- Only a burst that nothing is wrong with is answered by a number.
taken_good : (state burst : List ℕ) (n : ℕ) → (take_of state burst).says ≡ number n → Good state burst
unfolding take_of
taken_good state burst n = by (ltb (length state) 45) refl (ltb 406 (count_of state + length burst)) refl (all_symbols (register_of state) && all_symbols burst) refl
  where
    unsaid : (kind : ℕ) → (kind ≡ 0x84 → ⊥) → saying kind 0 ≡ number n → Good state burst
    unsaid kind other e = absurd (other (ap (λ (s : Said). s.kind) e))

    by : (t : Bool) → ltb (length state) 45 ≡ t → (u : Bool) → ltb 406 (count_of state + length burst) ≡ u
        → (v : Bool) → (all_symbols (register_of state) && all_symbols burst) ≡ v
        → (cond t (kept Room state) (cond u (kept Count state) (cond (not v) (kept Symbol state) (leaving (number (count_of state + length burst)) (put_at 0 (entries_after state burst) state))))).says ≡ number n
        → Good state burst
    by true a u b v c e = unsaid 12 (λ k. omega arith) e
    by false a true b v c e = unsaid 21 (λ k. omega arith) e
    by false a false b false c e = unsaid 20 (λ k. omega arith) e
    by false a false b true c e =
        record {
          long = ltb-false (length state) 45 a;
          most = ltb-false 406 (count_of state + length burst) b;
          register = as_symbols (register_of state) (and_left (all_symbols (register_of state)) (all_symbols burst) c);
          all = as_symbols burst (and_right (all_symbols (register_of state)) (all_symbols burst) c);
        }

-- ---- what is left, part by part
module _ (state burst : List ℕ) (g : Good state burst) where
  front : length (register_of state) ≡ 44
  front = length-take-le 44 state (let l = g.long in omega arith)

  behind : length (register_after (register_of state) burst) ≡ 44
  behind = after_length (register_of state) burst front

  forty_five : length (entries_after state burst) ≡ 45
  forty_five = length-append (register_after (register_of state) burst) ((count_of state + length burst) ∷ []) ∙ (let b = behind in omega arith)

  abbrev pub left : List ℕ
  left = (take_of state burst).list

  pub left_is : left ≡ register_after (register_of state) burst ++ ((count_of state + length burst) ∷ drop 45 state)
  left_is =
      ap (λ (l : Leaves). l.list) (good_taken state burst g)
      ∙ put_at_start (entries_after state burst) state
      ∙ ap (λ (n : ℕ). entries_after state burst ++ drop n state) forty_five
      ∙ append_snoc (register_after (register_of state) burst) (count_of state + length burst) (drop 45 state)

  pub left_register : register_of left ≡ register_after (register_of state) burst
  left_register = ap register_of left_is ∙ take_at (register_after (register_of state) burst) ((count_of state + length burst) ∷ drop 45 state) 44 behind

  pub left_count : count_of left ≡ count_of state + length burst
  left_count = ap count_of left_is ∙ get_or_at (register_after (register_of state) burst) (count_of state + length burst) (drop 45 state) 0 44 behind

  pub left_rest : drop 45 left ≡ drop 45 state
  left_rest =
      ap (drop 45) (left_is ∙ sym (append_snoc (register_after (register_of state) burst) (count_of state + length burst) (drop 45 state)))
      ∙ drop_at (entries_after state burst) (drop 45 state) 45 forty_five

  pub left_long : 45 ≤ length left
  left_long =
      let l = ap length left_is ∙ length-append (register_after (register_of state) burst) ((count_of state + length burst) ∷ drop 45 state) in
      let b = behind in omega arith

-- ---- two bursts in the place of one
module _ (state first second : List ℕ) (g : Good state (first ++ second)) where
  pub first_good : Good state first
  first_good =
      record {
        long = g.long;
        most = let l = length-append first second in let m = g.most in omega arith;
        register = g.register;
        all = first_symbols first second g.all;
      }

  pub second_good : Good (left state first first_good) second
  second_good =
      record {
        long = left_long state first first_good;
        most = let l = length-append first second in let m = g.most in let c = left_count state first first_good in omega arith;
        register =
            subst Symbols (sym (left_register state first first_good)) (after_symbols (register_of state) first g.register (first_symbols first second g.all));
        all = last_symbols first second g.all;
      }

  pub two_bursts : left (left state first first_good) second second_good ≡ left state (first ++ second) g
  two_bursts =
      left_is (left state first first_good) second second_good
      ∙ ap₂ ◌++◌
      (ap (λ (r : List ℕ). register_after r second) (left_register state first first_good)
      ∙ sym (after_cut (register_of state) first second (length-take-le 44 state (let l = g.long in omega arith))))
      (ap₂ ◌∷◌
      (ap (λ (n : ℕ). n + length second) (left_count state first first_good)
      ∙ add_assoc (count_of state) (length first) (length second) ∙ ap (λ (n : ℕ). count_of state + n) (sym (length-append first second)))
      (left_rest state first first_good))
      ∙ sym (left_is state (first ++ second) g)

no_burst : (state : List ℕ) (g : Good state []) → left state [] g ≡ state
no_burst state g =
    left_is state [] g
    ∙ ap₂ ◌++◌ (after_none (register_of state) (length-take-le 44 state (let l = g.long in omega arith)))
    (ap (λ (n : ℕ). n ∷ drop 45 state) (add-zero (count_of state)) ∙ sym (drop-cons state 44 0 (let l = g.long in omega arith)))
    ∙ take-append-drop 44 state

-- ---- any number of bursts
same_state : (state : List ℕ) (bursts : List (List ℕ)) (g : Good state (together bursts)) → after_bursts state bursts ≡ left state (together bursts) g
unfolding after_bursts together
same_state state [] g = sym (no_burst state g)
same_state state (burst ∷ later) g =
    same_state (take_of state burst).list later (second_good state burst (together later) g) ∙ two_bursts state burst (together later) g

each_taken : (state : List ℕ) (bursts : List (List ℕ)) → Good state (together bursts) → all_taken state bursts ≡ true
unfolding all_taken together
each_taken state [] g = refl
each_taken state (burst ∷ later) g =
    ap₂ ◌&&◌ (ap (λ (l : Leaves). eqb l.says.kind 0x84) (good_taken state burst (first_good state burst (together later) g)))
    (each_taken (take_of state burst).list later (second_good state burst (together later) g))

-- ---- from a new frame on
new_register : (taken : List ℕ) → register_after (replicate 44 0) taken ≡ parity_of taken
new_register taken =
    ap (λ (n : ℕ). register_after (replicate n 0) taken) (sym lower_long)
    ∙ after_is (replicate (length lower) 0) taken ∙ after_zeros symbol_sums 1 lower taken ∙ sym (parity_is taken)

module _ (rest : List ℕ) (bursts : List (List ℕ)) (all : all_symbols (together bursts) ≡ true) (most : length (together bursts) ≤ 406) where
  new_good : Good (new_frame ++ rest) (together bursts)
  unfolding all_symbols
  new_good =
      record {
        long = let l = length-append new_frame rest in omega arith;
        most = omega arith;
        register = as_symbols (register_of (new_frame ++ rest)) refl;
        all = as_symbols (together bursts) all;
      }

  holds_parity : after_bursts (new_frame ++ rest) bursts ≡ parity_of (together bursts) ++ (length (together bursts) ∷ rest)
  holds_parity =
      same_state (new_frame ++ rest) bursts new_good
      ∙ left_is (new_frame ++ rest) (together bursts) new_good
      ∙ ap₂ ◌++◌ (new_register (together bursts)) (ap (λ (n : ℕ). n ∷ rest) (zero-add (length (together bursts))))

finishes : (rest : List ℕ) (bursts : List (List ℕ)) (parity : List ℕ) → all_symbols (together bursts) ≡ true → length (together bursts) ≡ 406 → 44 ≤ length parity
    → finish_of (after_bursts (new_frame ++ rest) bursts) parity ≡ leaving (number 44) (put_at 0 (parity_of (together bursts)) parity)
finishes rest bursts parity all l room =
    ap (λ (s : List ℕ). finish_of s parity) (holds_parity rest bursts all (omega arith))
    ∙ finish_good held parity long room (get_or_at found (length taken) rest 0 44 (parity_length taken) ∙ l)
    (sym (ap all_symbols register ∙ all_symbols_law found (parity_symbols taken (as_symbols taken all))))
    ∙ ap (λ (r : List ℕ). leaving (number 44) (put_at 0 r parity)) register
  where
    taken : List ℕ
    taken = together bursts

    found : List ℕ
    found = parity_of (together bursts)

    held : List ℕ
    held = parity_of (together bursts) ++ (length (together bursts) ∷ rest)

    long : 45 ≤ length (parity_of (together bursts) ++ (length (together bursts) ∷ rest))
    long = let a = length-append (parity_of (together bursts)) (length (together bursts) ∷ rest) in let p = parity_length (together bursts) in omega arith

    register : register_of (parity_of (together bursts) ++ (length (together bursts) ∷ rest)) ≡ parity_of (together bursts)
    register = take_at (parity_of (together bursts)) (length (together bursts) ∷ rest) 44 (parity_length (together bursts))

pub any_cutting : AnyCutting
any_cutting =
    record {
      same_state = λ state bursts n e. same_state state bursts (taken_good state (together bursts) n e);
      each_taken = λ state bursts n e. each_taken state bursts (taken_good state (together bursts) n e);
      holds_parity = holds_parity;
      finishes = finishes;
    }
