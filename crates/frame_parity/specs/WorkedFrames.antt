-- Bursts and finishes worked out. 7 is what a list holds where nothing has been written; 600, which is no symbol, stands behind a state, where it does not matter.
use Rattle.std.specs.Prelude.{ℕ, ◌≡◌, List, [], ◌∷◌, ◌++◌, replicate}
use Rattle.answers.specs.declared.Refusal.{Refusal}
use Rattle.answers.specs.declared.Refusal.TheVariants.{Room, Symbol, Count}
use Rattle.answers.specs.Answers.{saying, number, leaving, kept}
use Rattle.frame_parity.specs.Taking.{take_of, finish_of}
use Rattle.frame_parity.specs.AnyCutting.{new_frame}

-- A state whose register has one entry at all of its places, and this count.
abbrev pub all_of : (entry count : ℕ) → List ℕ
all_of entry count = replicate 44 entry ++ (count ∷ [])

-- A burst that has this refusal, and the state is kept.
abbrev pub StateKept : (state burst : List ℕ) (refusal : Refusal) → Type 0
StateKept state burst refusal = take_of state burst ≡ kept refusal state

-- A finish that has this refusal, and the list is kept.
abbrev pub ParityKept : (state list : List ℕ) (refusal : Refusal) → Type 0
ParityKept state list refusal = finish_of state list ≡ kept refusal list

pub record WorkedFrames : Type 0 where
  -- The one symbol 1 into a new frame: Z^44 leaves the generator below its highest power, here as numbers.
  pub one_symbol : take_of (new_frame ++ (600 ∷ [])) (1 ∷ [])
      ≡ leaving (number 1)
      (208 ∷ 296 ∷ 68 ∷ 454 ∷ 338 ∷ 441 ∷ 123 ∷ 486 ∷ 328 ∷ 343 ∷ 226 ∷ 42 ∷ 196 ∷ 496 ∷ 34 ∷ 451 ∷ 480 ∷ 362 ∷ 268 ∷ 264 ∷ 128 ∷ 311 ∷ 159 ∷ 483 ∷ 394 ∷ 239 ∷ 178 ∷ 63 ∷ 484 ∷ 26 ∷ 391 ∷ 194
      ∷ 312 ∷ 421 ∷ 105 ∷ 384 ∷ 148 ∷ 356 ∷ 350 ∷ 347 ∷ 237 ∷ 335 ∷ 89 ∷ 355 ∷ 1 ∷ 600 ∷ [])
  -- A state that no call has made, since its register is not zero at count 0: the symbol and the register's first add up to zero, so that the others only move up.
  pub not_made : take_of (all_of 511 0 ++ (600 ∷ [])) (511 ∷ []) ≡ leaving (number 1) (replicate 43 511 ++ (0 ∷ 1 ∷ 600 ∷ []))
  -- The last data symbol of a frame.
  pub last_symbol : take_of (all_of 511 405) (511 ∷ []) ≡ leaving (number 406) (replicate 43 511 ++ (0 ∷ 406 ∷ []))
  -- An empty burst after all data is taken, and changes nothing.
  pub empty : take_of (all_of 3 406) [] ≡ leaving (number 406) (all_of 3 406)
  -- "12 if the state has fewer than 45 entries; 21 if count + length is over 406; 20 if an entry of the burst or of the register is 512 or more" (fixed interfaces)
  pub take_room : StateKept (replicate 44 0) [] Room
  pub too_many : StateKept (all_of 0 406) (0 ∷ []) Count
  pub too_many_at_once : StateKept new_frame (replicate 407 0) Count
  pub count_past : StateKept (all_of 0 407) [] Count
  pub burst_symbol : StateKept new_frame (0 ∷ 512 ∷ []) Symbol
  pub register_first : StateKept (512 ∷ replicate 44 0) [] Symbol
  pub register_last : StateKept (replicate 43 0 ++ (512 ∷ 0 ∷ [])) [] Symbol
  -- "Count first", also where the count is 512 or more; the room before both.
  pub count_first : StateKept (all_of 512 406) (512 ∷ []) Count
  pub count_is_no_symbol : StateKept (all_of 512 65535) [] Count
  pub take_room_first : StateKept (replicate 44 512) (replicate 407 512) Room
  -- The finish gives the register, whatever symbols it has, and leaves what is behind.
  pub finish : finish_of (all_of 5 406 ++ (600 ∷ [])) (replicate 46 7) ≡ leaving (number 44) (replicate 44 5 ++ (7 ∷ 7 ∷ []))
  -- "12 if the state has fewer than 45 entries or `parity` fewer than 44; 21 if the count is not 406; 20 if an entry of the register is 512 or more" (fixed interfaces)
  pub finish_no_state : ParityKept (replicate 44 406) (replicate 44 7) Room
  pub finish_no_room : ParityKept (all_of 0 406) (replicate 43 7) Room
  pub not_full : ParityKept (all_of 0 405) (replicate 44 7) Count
  pub too_full : ParityKept (all_of 0 407) (replicate 44 7) Count
  pub finish_register_first : ParityKept (512 ∷ (replicate 43 0 ++ (406 ∷ []))) (replicate 44 7) Symbol
  pub finish_register_last : ParityKept (replicate 43 0 ++ (512 ∷ 406 ∷ [])) (replicate 44 7) Symbol
  -- Here too the count before the symbols, and the room before both.
  pub finish_count_first : ParityKept (all_of 512 405) (replicate 44 7) Count
  pub finish_count_is_no_symbol : ParityKept (all_of 512 65535) (replicate 44 7) Count
  pub finish_room_first : ParityKept (all_of 512 405) (replicate 43 7) Room
  -- "21 Count", "20 Symbol": the numbers.
  pub count_number : (take_of (all_of 0 407) []).says ≡ saying 21 0
  pub symbol_number : (take_of new_frame (512 ∷ [])).says ≡ saying 20 0
