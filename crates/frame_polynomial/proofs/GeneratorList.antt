-- The generator, worked out: its 44 coefficients below the highest. Computed.
use mathlib.Core.Path.{◌≡◌, refl}
use mathlib.Core.Bool.{xor}
use mathlib.Core.List.{List, [], ◌∷◌}
use Prim.Native.Nat.{ℕ}
use Rattle.frame_field.specs.Field.{◌⊗◌, raised}
use Rattle.frame_polynomial.specs.Frame.{generator, product_below}
use Rattle.frame_polynomial.proofs.Roots.{lower}

unfoldable pub lower_list : List ℕ
lower_list =
    208 ∷ 296 ∷ 68 ∷ 454 ∷ 338 ∷ 441 ∷ 123 ∷ 486 ∷ 328 ∷ 343 ∷ 226 ∷ 42 ∷ 196 ∷ 496 ∷ 34 ∷ 451 ∷ 480 ∷ 362 ∷ 268 ∷ 264 ∷ 128 ∷ 311 ∷ 159 ∷ 483 ∷ 394 ∷ 239 ∷ 178 ∷ 63 ∷ 484 ∷ 26 ∷ 391 ∷ 194
    ∷ 312 ∷ 421 ∷ 105 ∷ 384 ∷ 148 ∷ 356 ∷ 350 ∷ 347 ∷ 237 ∷ 335 ∷ 89 ∷ 355 ∷ []

pub lower_list_law : lower ≡ lower_list
unfolding lower lower_list generator product_below raised ◌⊗◌ xor
lower_list_law = refl
