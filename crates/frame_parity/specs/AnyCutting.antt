-- 02, request 10: "Symbols arrive in bursts, so it must take them as they come, however cut; the parity is the same."
use Rattle.std.specs.Prelude.{ℕ, ◌≤◌, ◌≡◌, Bool, true, ◌&&◌, List, [], ◌∷◌, ◌++◌, length, replicate}
use Rattle.answers.specs.Choices.{◌=?◌}
use Rattle.answers.specs.Answers.{number, leaving, put_at}
use Rattle.frame_polynomial.specs.Frame.{all_symbols, parity_of}
use Rattle.frame_parity.specs.Taking.{take_of, finish_of}

-- "All zero is a new frame." (fixed interfaces)
abbrev pub new_frame : List ℕ
new_frame = replicate 45 0

-- What is left of a state after bursts, in order,
unfoldable pub after_bursts : (state : List ℕ) (bursts : List (List ℕ)) → List ℕ
after_bursts state [] = state
after_bursts state (burst ∷ later) = after_bursts (take_of state burst).list later

-- whether each of them was taken, and not refused,
unfoldable pub all_taken : (state : List ℕ) (bursts : List (List ℕ)) → Bool
all_taken state [] = true
all_taken state (burst ∷ later) = (take_of state burst).says.kind =? 0x84 && all_taken (take_of state burst).list later

-- and all their symbols in one list.
unfoldable pub together : (bursts : List (List ℕ)) → List ℕ
together [] = []
together (burst ∷ later) = burst ++ together later

pub record AnyCutting : Type 0 where
  -- "however cut": where all symbols are taken in one burst, they are taken in any pieces too, and leave the same state. This is so of every state, also of one that no call
  -- has made.
  pub same_state : (state : List ℕ) (bursts : List (List ℕ)) (n : ℕ) → (take_of state (together bursts)).says ≡ number n
      → after_bursts state bursts ≡ (take_of state (together bursts)).list
  pub each_taken : (state : List ℕ) (bursts : List (List ℕ)) (n : ℕ) → (take_of state (together bursts)).says ≡ number n → all_taken state bursts ≡ true
  -- From a new frame on, with any entries behind it, bursts of at most 406 symbols in all leave the parity of these symbols, and their number,
  pub holds_parity : (rest : List ℕ) (bursts : List (List ℕ)) → all_symbols (together bursts) ≡ true → length (together bursts) ≤ 406
      → after_bursts (new_frame ++ rest) bursts ≡ parity_of (together bursts) ++ (length (together bursts) ∷ rest)
  -- and after 406 of them the finish gives their parity, with which they are a frame (`FrameFacts`).
  pub finishes : (rest : List ℕ) (bursts : List (List ℕ)) (parity : List ℕ) → all_symbols (together bursts) ≡ true → length (together bursts) ≡ 406
      → 44 ≤ length parity → finish_of (after_bursts (new_frame ++ rest) bursts) parity ≡ leaving (number 44) (put_at 0 (parity_of (together bursts)) parity)
