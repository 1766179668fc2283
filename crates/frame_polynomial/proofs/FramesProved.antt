-- All that is said of frames, and two frames that differ in just 45 places.
use mathlib.Core.Path.{◌≡◌, refl, sym, ap, ap₂, ◌∙◌, subst}
use mathlib.Core.Bool.{true}
use mathlib.Core.List.{List, ◌∷◌, ◌++◌}
use Prim.Native.Nat.{ℕ, ◌*◌, ◌<◌}
use native.Mathlib.Omega.{arith}
use lib.ListN.{length, length-append, replicate}
use Rattle.polynomials.specs.Polynomials.{scaled, multiplied}
use Rattle.polynomials.proofs.Quotients.{Monic, quotient, quotient_fits, divisible, no_other}
use Rattle.frame_field.specs.Field.{◌⊕◌, symbols}
use Rattle.frame_field.proofs.ExclusiveOr.{symbol_sums}
use Rattle.frame_field.proofs.Products.{product_one}
use Rattle.frame_field.proofs.TimesAlpha.{alphas, alphas_zero}
use Rattle.frame_polynomial.specs.Frame.{all_symbols, generator, parity_of, IsFrame, changes_in}
use Rattle.frame_polynomial.specs.FrameFacts.{FrameFacts}
use Rattle.frame_polynomial.proofs.SymbolLists.{Symbols, as_symbols, all_symbols_law, append_symbols, zeros_symbols, plus_symbols, scaled_symbols}
use Rattle.frame_polynomial.proofs.Distance.{value}
use Rattle.frame_polynomial.proofs.Values.{value_is, value_append, value_zeros}
use Rattle.frame_polynomial.proofs.Roots.{lower, generator_is, lower_long, whole_symbols, whole_roots, parity_is}
use Rattle.frame_polynomial.proofs.GeneratorList.{lower_list, lower_list_law}
use Rattle.frame_polynomial.proofs.Frames.{is_frame, zero_at_the_powers, no_others, changed}

all_zeros : IsFrame (replicate 450 0)
all_zeros =
    no_others (replicate 450 0) (all_symbols_law (replicate 450 0) (zeros_symbols 450)) refl
    (λ i h. value_is i (replicate 450 0) (zeros_symbols 450) ∙ value_zeros i 450)

generator_symbols : Symbols generator
generator_symbols = subst Symbols (sym generator_is) whole_symbols

last_one : IsFrame (replicate 405 0 ++ generator)
last_one =
    no_others (replicate 405 0 ++ generator) (all_symbols_law (replicate 405 0 ++ generator) b)
    (length-append (replicate 405 0) generator ∙ (let l = lower_long in let g = ap length generator_is in omega arith))
    (λ i h.
    value_is i (replicate 405 0 ++ generator) b
    ∙ value_append i (replicate 405 0) generator
    ∙ ap₂ (λ (x y : ℕ). alphas (i * length generator) x ⊕ y) (value_zeros i 405) (ap (value i) generator_is ∙ whole_roots i h)
    ∙ ap (λ (x : ℕ). x ⊕ 0) (alphas_zero (i * length generator)))
  where
    b : Symbols (replicate 405 0 ++ generator)
    b = append_symbols (replicate 405 0) generator (zeros_symbols 405) generator_symbols

reached : changes_in (replicate 450 0) (replicate 405 0 ++ generator) ≡ 45
unfolding changes_in lower_list
reached = ap (λ (g : List ℕ). changes_in (replicate 450 0) (replicate 405 0 ++ g)) (generator_is ∙ ap (λ (l : List ℕ). 1 ∷ l) lower_list_law)

-- The generator's highest coefficient is one.
generator_monic : Monic symbols (λ s. s < 512) 1 lower
generator_monic =
    record {
      whole = product_one;
      step = λ c p h b. plus_symbols (scaled symbols c lower) p (scaled_symbols c lower) b;
    }

divides : (taken : List ℕ) → all_symbols taken ≡ true → (q : List ℕ) × ((all_symbols q ≡ true) × (multiplied symbols q generator ≡ taken ++ parity_of taken))
divides taken all = (
  found,
  (
    all_symbols_law found (quotient_fits symbol_sums 1 lower generator_monic (length taken) (taken ++ replicate (length lower) 0) fit),
    ap (multiplied symbols found) generator_is ∙ divisible symbol_sums 1 lower generator_monic taken fit ∙ ap (λ (l : List ℕ). taken ++ l) (sym (parity_is taken)),
  ),
)
  where
    found : List ℕ
    found = quotient symbols lower (length taken) (taken ++ replicate (length lower) 0)

    fit : Symbols (taken ++ replicate (length lower) 0)
    fit = append_symbols taken (replicate (length lower) 0) (as_symbols taken all) (zeros_symbols (length lower))

no_other_parity : (taken q parity : List ℕ) → all_symbols q ≡ true → length parity ≡ 44 → multiplied symbols q generator ≡ taken ++ parity → parity ≡ parity_of taken
no_other_parity taken q parity all l e =
    no_other symbol_sums 1 lower generator_monic taken parity q (as_symbols q all) (l ∙ sym lower_long) (sym (ap (multiplied symbols q) generator_is) ∙ e)
    ∙ sym (parity_is taken)

pub frame_facts : FrameFacts
frame_facts =
    record {
      finished = λ taken all l. is_frame taken (as_symbols taken all) l;
      divides = divides;
      no_other_parity = no_other_parity;
      zero_at_powers = zero_at_the_powers;
      no_others = no_others;
      changed = changed;
      all_zeros = all_zeros;
      with_generator = last_one;
      reached = reached;
    }
