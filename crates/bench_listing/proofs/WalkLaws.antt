-- The walk from attempt to attempt: after each, its line stands behind those before it.
use Rattle.line_reader.specs.Endings.{Ending}
use Rattle.std.specs.Prelude.{Some, None, Ok, Err}
use mathlib.Core.Path.{◌≡◌, refl, sym, ap, ap₂, ◌∙◌}
use mathlib.Core.Bool.{Bool, true, false, cond}
use mir.Val.{bool_byte}
use Rattle.std.specs.Result.{is_ok}
use mathlib.Core.List.{List, [], ◌∷◌, ◌++◌, append-nil, append_assoc}
use Prim.Native.Nat.{ℕ, zero, suc, ◌+◌, ◌-◌, ◌*◌, ◌≤◌}
use native.Mathlib.Omega.{arith}
use lib.ListN.{length}
use Rattle.line_captures.specs.Captures.{read_of, onwards, attempts_from, attempts, ReadOutcome, attempt}
use Rattle.line_captures.proofs.Walk.{attempt_forward}
use Rattle.bench_listing.specs.declared.text.Text.{Text}
use Rattle.bench_listing.specs.Texts.{Adds}
use Rattle.bench_listing.specs.Listing.{is_good, attempt_line, attempt_lines, good_ones, bad_ones, first_line, last_line, capture_listing}
use Rattle.bench_listing.proofs.PlacingLaws.{same_long}
use Rattle.bench_listing.proofs.TextLaws.{adds_same, adds_then, adds_none}

-- What holds whenever the loop begins: the lines of so many attempts stand behind the first line, and the others are still to come.
pub record Walking (mode : ℕ) (capture : List ℕ) (before text : Text) (place attempted pages : ℕ) : Type 0 where
  pub lines : List ℕ
  pub more : ℕ
  pub enough : length capture ≤ place + more
  pub most : place ≤ length capture
  pub few : attempted ≤ place
  pub some : pages ≤ attempted
  pub short : text.length ≤ before.length + 23 * attempted
  pub long : length text.bytes.now ≡ length before.bytes.now
  pub adds : Adds before lines text
  pub same : attempt_lines 1 (attempts mode capture) ≡ lines ++ attempt_lines (attempted + 1) (attempts_from more mode capture place)
  pub good : good_ones (attempts mode capture) ≡ pages + good_ones (attempts_from more mode capture place)
  pub other : pages + bad_ones (attempts mode capture) ≡ attempted + bad_ones (attempts_from more mode capture place)

pub walk_start : (mode : ℕ) (capture : List ℕ) (text : Text) → text.length ≤ length text.bytes.now → Walking mode capture text text 0 0 0
unfolding attempts
walk_start mode capture text fits =
    record {
      lines = [];
      more = length capture;
      enough = omega arith;
      most = omega arith;
      few = omega arith;
      some = omega arith;
      short = omega arith;
      long = refl;
      adds = adds_none text fits;
      same = refl;
      good = omega arith;
      other = omega arith;
    }

-- One attempt, and others behind it.
module _ (n : ℕ) (ending : Ending) (rest : List Ending) where
  lines_more : attempt_lines n (ending ∷ rest) ≡ attempt_line n ending ++ attempt_lines (n + 1) rest
  unfolding attempt_lines
  lines_more = refl

  good_more : good_ones (ending ∷ rest) ≡ cond (is_good ending) 1 0 + good_ones rest
  unfolding good_ones
  good_more = refl

  bad_more : bad_ones (ending ∷ rest) ≡ cond (is_good ending) 0 1 + bad_ones rest
  unfolding bad_ones
  bad_more = refl

-- A good page counts as one, and another attempt as none.
pub one_if_good : (ending : Ending) → bool_byte (is_ok ending) ≡ cond (is_good ending) 1 0
one_if_good (Ok word) = refl
one_if_good (Err broken) = refl

one_of_two : (ending : Ending) → cond (is_good ending) 1 0 + cond (is_good ending) 0 1 ≡ 1
one_of_two (Ok word) = refl
one_of_two (Err broken) = refl

-- A call that brings an attempt, and one that brings none.
one_more : (more mode : ℕ) (capture : List ℕ) (place : ℕ) (ending : Ending) (next : ℕ) → read_of mode capture place ≡ attempt ending next
    → attempts_from (suc more) mode capture place ≡ ending ∷ attempts_from more mode capture next
unfolding attempts_from
one_more more mode capture place ending next h = rw h

abbrev pub is_attempt : ReadOutcome → Bool
is_attempt (Ok (Some attempt)) = true
is_attempt (Ok None) = false
is_attempt (Err refusal) = false

pub no_more : (mode : ℕ) (capture : List ℕ) (place : ℕ) (outcome : ReadOutcome) → outcome ≡ read_of mode capture place → is_attempt outcome ≡ false
    → (more : ℕ) → attempts_from more mode capture place ≡ []
unfolding attempts_from
no_more mode capture place outcome e none zero = refl
no_more mode capture place outcome e none (suc more) = rw (sym e) (by outcome none)
  where
    by : (outcome : ReadOutcome) → is_attempt outcome ≡ false → onwards outcome (attempts_from more mode capture) ≡ []
    by (Err refusal) none = refl
    by (Ok None) none = refl
    by (Ok (Some attempt)) none = cc

module _ (mode : ℕ) (capture : List ℕ) (before text : Text) (place attempted pages : ℕ) (w : Walking mode capture before text place attempted pages) where
  -- One attempt on.
  module _ (ending : Ending) (next : ℕ) (brought : read_of mode capture place ≡ attempt ending next) (good : ℕ) (counted : good ≡ cond (is_good ending) 1 0)
      (after : Text) (p : Adds text (attempt_line (attempted + 1) ending) after) (short : after.length ≤ text.length + 23)
    where
      pub walk_on : Walking mode capture before after next (attempted + 1) (pages + good)
      walk_on = by w.more w.enough w.same w.good w.other
        where
          by : (more : ℕ) → length capture ≤ place + more
              → attempt_lines 1 (attempts mode capture) ≡ w.lines ++ attempt_lines (attempted + 1) (attempts_from more mode capture place)
              → good_ones (attempts mode capture) ≡ pages + good_ones (attempts_from more mode capture place)
              → pages + bad_ones (attempts mode capture) ≡ attempted + bad_ones (attempts_from more mode capture place)
              → Walking mode capture before after next (attempted + 1) (pages + good)
          by zero enough same goods others = absurd (let f = attempt_forward mode capture place ending next brought in let a = f.0 in let b = f.1 in omega arith)
          by (suc more) enough same goods others =
              let f = attempt_forward mode capture place ending next brought in
              let ahead = f.0 in
              let inside = f.1 in
              let here = one_more more mode capture place ending next brought in
              let rest = attempts_from more mode capture next in
              let one = one_of_two ending in
              record {
                lines = w.lines ++ attempt_line (attempted + 1) ending;
                more = more;
                enough = omega arith;
                most = inside;
                few = let l = w.few in omega arith;
                some = let l = w.some in omega arith;
                short = let l = w.short in omega arith;
                long = same_long p.puts ∙ w.long;
                adds = adds_then w.adds p;
                same =
                    same ∙ ap (λ (l : List ℕ). w.lines ++ l) (ap (attempt_lines (attempted + 1)) here ∙ lines_more (attempted + 1) ending rest)
                    ∙ sym (append_assoc w.lines (attempt_line (attempted + 1) ending) (attempt_lines (attempted + 1 + 1) rest));
                good = let a = ap good_ones here ∙ good_more 0 ending rest in omega arith;
                other = let a = ap bad_ones here ∙ bad_more 0 ending rest in omega arith;
              }

  -- With the outer lines the walk leaves the whole listing.
  pub walked : (whole after : Text) → ((more : ℕ) → attempts_from more mode capture place ≡ []) → Adds whole (first_line mode (length capture)) before
      → Adds text (last_line pages (attempted - pages)) after → Adds whole (capture_listing mode capture) after
  unfolding capture_listing attempt_lines good_ones bad_ones
  walked whole after none first last =
      adds_same (adds_then (adds_then first w.adds) last)
      (ap₂ (λ (l m : List ℕ). first_line mode (length capture) ++ l ++ m)
      (sym (w.same ∙ ap (λ (l : List Ending). w.lines ++ attempt_lines (attempted + 1) l) (none w.more) ∙ append-nil w.lines))
      (ap₂ last_line pages_right bad_right))
    where
      pages_right : pages ≡ good_ones (attempts mode capture)
      pages_right = let g = w.good ∙ ap (λ (l : List Ending). pages + good_ones l) (none w.more) in omega arith

      bad_right : attempted - pages ≡ bad_ones (attempts mode capture)
      bad_right = let b = w.other ∙ ap (λ (l : List Ending). attempted + bad_ones l) (none w.more) in omega arith
