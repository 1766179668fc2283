-- The readings are the numbers of the bytes four by four, and a list takes them one by one.
use Rattle.std.proofs.Common.{◌≡◌, ℕ, zero, suc, ◌+◌, ◌*◌, ◌/◌, ◌<◌, ◌≤◌, List, [], ◌∷◌, ◌++◌, length, get_or, set, map, take, drop, refl, sym, ap, ap₂, ◌∙◌, zero-add, add-one, length-set, arith}
use Rattle.std.proofs.Math.Seq.{paste, paste-zero, paste-suc, take-length}
use Rattle.std.proofs.lemmas.List.{get_or-map, length-map}
use Rattle.std.specs.Int.{from_le_bytes, w32}
use Rattle.std.specs.Simd.{first_chunks}
use Rattle.bench_listing.specs.Listing.{readings_of}
use Rattle.answers.specs.Answers.{put_at}

too_few : (l : List ℕ) → length l < 4 → readings_of l ≡ []
unfolding readings_of
too_few [] h = refl
too_few (a ∷ []) h = refl
too_few (a ∷ b ∷ []) h = refl
too_few (a ∷ b ∷ c ∷ []) h = refl
too_few (a ∷ b ∷ c ∷ d ∷ rest) h = absurd (omega arith)

by_fours : (k : ℕ) (bytes : List ℕ) → 4 * k ≤ length bytes → length bytes < 4 * k + 4 → readings_of bytes ≡ map (from_le_bytes w32) (first_chunks 4 k bytes)
unfolding readings_of
by_fours zero bytes h few = too_few bytes (omega arith)
by_fours (suc k) [] h few = absurd (omega arith)
by_fours (suc k) (a ∷ []) h few = absurd (omega arith)
by_fours (suc k) (a ∷ b ∷ []) h few = absurd (omega arith)
by_fours (suc k) (a ∷ b ∷ c ∷ []) h few = absurd (omega arith)
by_fours (suc k) (a ∷ b ∷ c ∷ d ∷ rest) h few =
    ap₂ (λ (n : ℕ) (l : List ℕ). n ∷ l) (omega arith) (by_fours k rest (omega arith) (omega arith))

module _ (bytes : List ℕ) (fours : List (List ℕ)) (cut : fours ≡ first_chunks 4 (length bytes / 4) bytes) where
  all_read : readings_of bytes ≡ map (from_le_bytes w32) fours
  all_read = by_fours (length bytes / 4) bytes (omega arith) (omega arith) ∙ ap (map (from_le_bytes w32)) (sym cut)

  pub as_many : length fours ≡ length (readings_of bytes)
  as_many = sym (ap length all_read ∙ length-map fours (from_le_bytes w32))

  pub read_at : (i : ℕ) → i < length fours → get_or (readings_of bytes) i 0 ≡ from_le_bytes w32 (get_or fours i [])
  read_at i h = ap (λ (l : List ℕ). get_or l i 0) all_read ∙ get_or-map (from_le_bytes w32) fours i [] 0 h

-- So many readings stand at the head of a list.
pub record Taken (readings before list : List ℕ) (i : ℕ) : Type 0 where
  pub most : i ≤ length readings
  pub contents : list ≡ paste before 0 readings i
  pub long : length list ≡ length before

pub none_taken : (readings before : List ℕ) → Taken readings before before 0
none_taken readings before = record { most = omega arith; contents = paste-zero before 0 readings; long = refl }

module _ (readings before list : List ℕ) (i : ℕ) (g : Taken readings before list i) (room : length readings ≤ length before) where
  pub one_taken : i < length readings → Taken readings before (set list i (get_or readings i 0)) (i + 1)
  one_taken h =
      record {
        most = omega arith;
        contents =
            ap₂ (λ (l : List ℕ) (n : ℕ). set l n (get_or readings i 0)) g.contents (sym (zero-add i))
            ∙ paste-suc before 0 readings i 0 (omega arith) h
            ∙ ap (paste before 0 readings) (sym (add-one i));
        long = length-set list i (get_or readings i 0) ∙ g.long;
      }

  pub all_taken : length readings ≤ i → list ≡ put_at 0 readings before
  all_taken h =
      let m = g.most in
      let all : i ≡ length readings = omega arith in
      g.contents ∙ ap (paste before 0 readings) all ∙ ap (λ (l : List ℕ). (take 0 before ++ l) ++ drop (0 + length readings) before) (take-length readings)

-- What the loop leaves.
pub record Decoded (bytes before list : List ℕ) (count : ℕ) : Type 0 where
  pub contents : list ≡ put_at 0 (readings_of bytes) before
  pub size : count ≡ length (readings_of bytes)

pub decoded : (bytes before list : List ℕ) (fours : List (List ℕ)) (i : ℕ) → fours ≡ first_chunks 4 (length bytes / 4) bytes
    → Taken (readings_of bytes) before list i → length fours ≤ length before → length fours ≤ i → Decoded bytes before list (length fours)
decoded bytes before list fours i cut g room h =
    let many = as_many bytes fours cut in
    record {
      contents = all_taken (readings_of bytes) before list i g (omega arith) (omega arith);
      size = many;
    }
