-- The register after one more symbol, place by place from the rows of the table; and after a burst, symbol by symbol.
use mathlib.Core.Path.{◌≡◌, refl, sym, ap, ap₂, ◌∙◌, subst}
use mathlib.Core.Bool.{true}
use mathlib.Core.List.{List, [], ◌∷◌, ◌++◌}
use Prim.Native.Nat.{ℕ, zero, suc, ◌+◌, ◌*◌, ◌/◌, ◌%◌, ◌≤◌, ◌<◌}
use native.Mathlib.Numerals.{add-one}
use native.Mathlib.Omega.{arith}
use lib.Bits.{xor_comm, xor_lt}
use lib.ListN.{length, length-append, length-map, length-replicate, take, drop, set, get_or, replicate}
use lib.Seq.{take-suc, take_all, take_at, get_or_at, length-take-le}
use Rattle.polynomials.specs.Polynomials.{plus, scaled, remainder_after}
use Rattle.polynomials.proofs.Sums.{plus_at, plus_append, plus_zeros, scaled_at}
use Rattle.polynomials.proofs.Division.{remainder_after_length, in_pieces}
use Rattle.frame_field.specs.Field.{◌⊕◌, ◌⊗◌, symbols}
use Rattle.frame_field.proofs.ExclusiveOr.{assoc, symbol_sums}
use Rattle.frame_polynomial.specs.Frame.{all_symbols}
use Rattle.frame_polynomial.proofs.SymbolLists.{Symbols, as_symbols, all_symbols_law, symbol_at, append_symbols, take_symbols, plus_symbols, zeros_symbols}
use Rattle.frame_polynomial.proofs.Roots.{lower, generator_is, lower_long, lower_symbols, divided_symbols}
use Rattle.frame_parity.specs.Taking.{register_of, register_after}
use Rattle.frame_parity.specs.Working.{rows_of, Ready, Going}
use Rattle.frame_parity.proofs.Putting.{put_more}
use Rattle.frame_parity.proofs.RowLaws.{low_row, middle_row, high_row, in_three}

-- ---- a burst, by the generator's lower coefficients
pub after_is : (register burst : List ℕ) → register_after register burst ≡ remainder_after symbols (1 ∷ lower) register burst
unfolding register_after
after_is register burst = ap (λ (g : List ℕ). remainder_after symbols g register burst) generator_is

pub after_length : (register burst : List ℕ) → length register ≡ 44 → length (register_after register burst) ≡ 44
after_length register burst h =
    ap length (after_is register burst) ∙ remainder_after_length symbol_sums 1 lower register burst (h ∙ sym lower_long) ∙ lower_long

pub after_symbols : (register burst : List ℕ) → Symbols register → Symbols burst → Symbols (register_after register burst)
after_symbols register burst b c =
    subst Symbols (sym (after_is register burst))
    (divided_symbols (length burst) (plus symbols register (burst ++ replicate (length lower) 0))
    (plus_symbols register (burst ++ replicate (length lower) 0) b (append_symbols burst (replicate (length lower) 0) c (zeros_symbols (length lower)))))

-- However it is cut.
pub after_cut : (register p q : List ℕ) → length register ≡ 44 → register_after register (p ++ q) ≡ register_after (register_after register p) q
after_cut register p q h =
    after_is register (p ++ q)
    ∙ in_pieces symbol_sums 1 lower register p q (h ∙ sym lower_long)
    ∙ ap (λ (r : List ℕ). remainder_after symbols (1 ∷ lower) r q) (sym (after_is register p))
    ∙ sym (after_is (register_after register p) q)

pub after_none : (register : List ℕ) → length register ≡ 44 → register_after register [] ≡ register
after_none register h =
    after_is register [] ∙ plus_zeros symbol_sums (length lower) register (let l = lower_long in omega arith)

-- ---- one symbol
-- A zero behind 43 symbols is all that is added to them.
zero_behind : (n : ℕ) (p : List ℕ) → length p ≡ n → plus symbols p (replicate (suc n) 0) ≡ p ++ (0 ∷ [])
zero_behind n p h =
    ap (plus symbols p) (last n)
    ∙ plus_append symbols p (replicate n 0) (0 ∷ []) (let l = length-replicate {A = ℕ} n 0 in omega arith)
    ∙ ap (λ (l : List ℕ). l ++ (0 ∷ [])) (plus_zeros symbol_sums n p (omega arith))
  where
    last : (n : ℕ) → replicate {A = ℕ} (suc n) 0 ≡ replicate n 0 ++ (0 ∷ [])
    last zero = refl
    last (suc n) = ap (λ (l : List ℕ). 0 ∷ l) (last n)

-- The register at work, less its first symbol, and the generator's multiple.
pub turned : (a s : ℕ) (r : List ℕ) → length r ≡ 44 → get_or r 43 0 ≡ 0 → register_after (take 44 (a ∷ r)) (s ∷ []) ≡ plus symbols (scaled symbols (a ⊕ s) lower) r
turned a s r l z =
    after_is (a ∷ take 43 r) (s ∷ [])
    ∙ ap (plus symbols (scaled symbols (a ⊕ s) lower))
    (ap (λ (n : ℕ). plus symbols (take 43 r) (replicate n 0)) lower_long
    ∙ zero_behind 43 (take 43 r) (length-take-le 43 r (omega arith))
    ∙ ap (λ (x : ℕ). take 43 r ++ (x ∷ [])) (sym z) ∙ sym (take-suc r 43 0 (omega arith)) ∙ take_all 44 r (omega arith))

-- Sums of four from the front.
regroup : (x a b c : ℕ) → ((x ⊕ a) ⊕ b) ⊕ c ≡ (a ⊕ (b ⊕ c)) ⊕ x
regroup x a b c = assoc (x ⊕ a) b c ∙ assoc x a (b ⊕ c) ∙ xor_comm x (a ⊕ (b ⊕ c))

front_length : (q : List ℕ) → Ready q → length (register_of q) ≡ 44
front_length q w = let l = w.long in length-take-le 44 q (omega arith)

first_symbol : (a : ℕ) (r : List ℕ) → Ready (a ∷ r) → a < 512
first_symbol a r w = (as_symbols (take 44 (a ∷ r)) w.all).0

cell : (rows : List (List ℕ)) (r : List ℕ) (s at : ℕ) → rows ≡ rows_of → Ready r → s < 512 → at < 44
    → let c = get_or r 0 0 ⊕ s in
    ((get_or r (at + 1) 0 ⊕ get_or (get_or rows (c % 8) []) at 0) ⊕ get_or (get_or rows (c / 8 % 8 + 8) []) at 0) ⊕ get_or (get_or rows (c / 64 % 8 + 16) []) at 0
    ≡ get_or (register_after (register_of r) (s ∷ [])) at 0
cell rows [] s at e w h k = absurd (let l = w.long in omega arith)
cell rows (a ∷ r) s at e w h k =
    ap (λ (t : List (List ℕ)).
    ((get_or (a ∷ r) (at + 1) 0 ⊕ get_or (get_or t ((a ⊕ s) % 8) []) at 0) ⊕ get_or (get_or t ((a ⊕ s) / 8 % 8 + 8) []) at 0)
    ⊕ get_or (get_or t ((a ⊕ s) / 64 % 8 + 16) []) at 0) e
    ∙ ap₂ ◌⊕◌ (ap₂ ◌⊕◌ (ap₂ ◌⊕◌ (ap (λ (n : ℕ). get_or (a ∷ r) n 0) (add-one at)) (low_row c at k)) (middle_row c at k)) (high_row c at k)
    ∙ regroup (get_or r at 0) ((c % 8) ⊗ get_or lower at 0) ((c / 8 % 8 * 8) ⊗ get_or lower at 0) ((c / 64 % 8 * 64) ⊗ get_or lower at 0)
    ∙ ap (λ (x : ℕ). x ⊕ get_or r at 0)
    (sym (in_three c (get_or lower at 0) (xor_lt 9 a s (first_symbol a r w) h) (symbol_at lower at lower_symbols (let g = lower_long in omega arith)))
    ∙ sym (scaled_at symbols c lower at 0 (let g = lower_long in omega arith)))
    ∙ sym (plus_at symbol_sums (scaled symbols c lower) r at (let g = lower_long in let m = length-map lower (symbols.product c) in let l = w.long in omega arith))
    ∙ ap (λ (q : List ℕ). get_or q at 0) (sym (turned a s r (let l = w.long in omega arith) w.last))
  where
    c : ℕ
    c = a ⊕ s

-- The loop over the 44 places.
pub push_more : (rows : List (List ℕ)) (r : List ℕ) (s : ℕ) (out : List ℕ) (at : ℕ) → Going r s rows
    → out ≡ take at (register_after (register_of r) (s ∷ [])) ++ drop at (replicate 45 0) → at < 44
    → let c = get_or r 0 0 ⊕ s in
    set out at (((get_or r (at + 1) 0 ⊕ get_or (get_or rows (c % 8) []) at 0) ⊕ get_or (get_or rows (c / 8 % 8 + 8) []) at 0) ⊕ get_or (get_or rows (c / 64 % 8 + 16) []) at 0)
    ≡ take (at + 1) (register_after (register_of r) (s ∷ [])) ++ drop (at + 1) (replicate 45 0)
push_more rows r s out at g p h =
    put_more (register_after (register_of r) (s ∷ [])) (replicate 45 0) out at _ p
    (let l = after_length (register_of r) (s ∷ []) (front_length r g.ready) in omega arith) (omega arith)
    (cell rows r s at g.table g.ready g.symbol_below h)

pub push_done : (rows : List (List ℕ)) (r : List ℕ) (s : ℕ) (out : List ℕ) (at : ℕ) → Going r s rows
    → out ≡ take at (register_after (register_of r) (s ∷ [])) ++ drop at (replicate 45 0) → at ≤ 44 → 44 ≤ at
    → out ≡ register_after (register_of r) (s ∷ []) ++ (0 ∷ [])
push_done rows r s out at g p m h =
    p
    ∙ ap (λ (n : ℕ). take n (register_after (register_of r) (s ∷ [])) ++ drop n (replicate 45 0)) (let e : at ≡ 44 = omega arith in e)
    ∙ ap (λ (l : List ℕ). l ++ (0 ∷ []))
    (take_all 44 (register_after (register_of r) (s ∷ [])) (let l = after_length (register_of r) (s ∷ []) (front_length r g.ready) in omega arith))

-- ---- the loop over the symbols of a burst
pub ready : (register : List ℕ) → length register ≡ 44 → Symbols register → Ready (register ++ (0 ∷ []))
ready register h b =
    record {
      long = length-append register (0 ∷ []) ∙ omega arith;
      all = all_symbols_law (take 44 (register ++ (0 ∷ []))) (subst Symbols (sym (take_at register (0 ∷ []) 44 h)) b);
      last = get_or_at register 0 [] 0 44 h;
    }

whole : (q : List ℕ) → Ready q → q ≡ register_of q ++ (0 ∷ [])
whole q w =
    let l = w.long in
    sym (ap (λ (x : ℕ). take 44 q ++ (x ∷ [])) (sym w.last) ∙ sym (take-suc q 44 0 (omega arith)) ∙ take_all 45 q (omega arith))

-- So many symbols of a burst have been pushed.
pub none_pushed : (q : List ℕ) → Ready q → q ≡ register_after (register_of q) [] ++ (0 ∷ [])
none_pushed q w = whole q w ∙ sym (ap (λ (l : List ℕ). l ++ (0 ∷ [])) (after_none (register_of q) (front_length q w)))

module _ (burst first q : List ℕ) (at : ℕ) (w : Ready first) (b : all_symbols burst ≡ true) (is : q ≡ register_after (register_of first) (take at burst) ++ (0 ∷ [])) (h : at < length burst) where
  pub going : (rows : List (List ℕ)) → rows ≡ rows_of → Going q (get_or burst at 0) rows
  going rows e =
      record {
        ready =
            subst Ready (sym is)
            (ready (register_after (register_of first) (take at burst)) (after_length (register_of first) (take at burst) (front_length first w))
            (after_symbols (register_of first) (take at burst) (as_symbols (register_of first) w.all) (take_symbols at burst (as_symbols burst b))));
        symbol_below = symbol_at burst at (as_symbols burst b) h;
        table = e;
      }

  pub one_pushed : (next : List ℕ) → next ≡ register_after (register_of q) (get_or burst at 0 ∷ []) ++ (0 ∷ [])
      → next ≡ register_after (register_of first) (take (at + 1) burst) ++ (0 ∷ [])
  one_pushed next e = e ∙ ap (λ (l : List ℕ). l ++ (0 ∷ [])) (front ∙ longer)
    where
      front : register_after (register_of q) (get_or burst at 0 ∷ []) ≡ register_after (register_after (register_of first) (take at burst)) (get_or burst at 0 ∷ [])
      front =
          ap (λ (l : List ℕ). register_after l (get_or burst at 0 ∷ []))
          (ap (take 44) is
          ∙ take_at (register_after (register_of first) (take at burst)) (0 ∷ []) 44 (after_length (register_of first) (take at burst) (front_length first w)))

      longer : register_after (register_after (register_of first) (take at burst)) (get_or burst at 0 ∷ []) ≡ register_after (register_of first) (take (at + 1) burst)
      longer =
          sym (after_cut (register_of first) (take at burst) (get_or burst at 0 ∷ []) (front_length first w))
          ∙ ap (register_after (register_of first)) (sym (take-suc burst at 0 h) ∙ ap (λ (n : ℕ). take n burst) (sym (add-one at)))

pub all_pushed : (burst first q : List ℕ) (at : ℕ) → q ≡ register_after (register_of first) (take at burst) ++ (0 ∷ []) → length burst ≤ at
    → q ≡ register_after (register_of first) burst ++ (0 ∷ [])
all_pushed burst first q at is h = is ∙ ap (λ (l : List ℕ). register_after (register_of first) l ++ (0 ∷ [])) (take_all at burst h)
