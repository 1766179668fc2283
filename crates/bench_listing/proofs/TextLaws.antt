-- Pieces put one after another into a text are put at once.
use Rattle.std.proofs.Common.{◌≡◌, ℕ, List, [], ◌++◌, length, ◌≤◌, ◌+◌, refl, sym, subst, ◌∙◌, arith}
use Rattle.bench_listing.specs.Calls.{Puts}
use Rattle.bench_listing.specs.declared.text.Text.{Text}
use Rattle.bench_listing.specs.Texts.{Adds}
use Rattle.bench_listing.proofs.PlacingLaws.{puts_then, puts_none}

module _ {before : Text} {piece : List ℕ} {after : Text} (p : Adds before piece after) where
  pub adds_same : {other : List ℕ} → piece ≡ other → Adds before other after
  adds_same e = subst (λ (l : List ℕ). Adds before l after) e p

  pub adds_then : {more : List ℕ} {last : Text} → Adds after more last → Adds before (piece ++ more) last
  adds_then q = record { same = q.same ∙ p.same; puts = puts_then p.puts q.puts }

-- A text gets no longer than its piece is.
pub adds_short : {before : Text} {piece : List ℕ} {after : Text} → Adds before piece after → {n : ℕ} → length piece ≤ n → after.length ≤ before.length + n
adds_short p h = let b = p.puts.behind in omega arith

-- Nothing is put by leaving a text as it is.
pub adds_none : (text : Text) → text.length ≤ length text.bytes.now → Adds text [] text
adds_none text h = record { same = refl; puts = puts_none text.bytes.now text.length h }

-- All that was put into a text since it was empty, seen where its bytes were lent.
pub all_put : {before : Text} {piece : List ℕ} {after : Text} → Adds before piece after → {lent back : List ℕ} {length-now : ℕ} → before.bytes.now ≡ lent → before.length ≡ 0
    → after.bytes.now ≡ back → length-now ≡ after.length → Puts lent 0 piece back length-now
all_put {before} {piece} {after} p {lent} {back} {length-now} bytes empty same counted =
    subst (λ (n : ℕ). Puts lent 0 piece back n) (sym counted)
    (subst (λ (l : List ℕ). Puts lent 0 piece l after.length) same
    (subst (λ (l : List ℕ). Puts l 0 piece after.bytes.now after.length) bytes
    (subst (λ (n : ℕ). Puts before.bytes.now n piece after.bytes.now after.length) empty p.puts)))
