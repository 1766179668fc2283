use Rattle.std.proofs.Common.{rules, ◌≡◌, false, sym, ap, ◌∙◌, arith}
use mir.Val.{bool_byte}
use Rattle.line_captures.proofs.Walk.{attempt_forward}
use Rattle.bench_listing.proofs.PlacingLaws.{same_long}
use Rattle.bench_listing.proofs.WalkLaws.{walk_start, one_if_good, walk_on, is_attempt, no_more, walked}
use Rattle.bench_listing.proofs.capture.put_capture.Goals as goal
use Rattle.bench_listing.proofs.capture.put_capture.Goals.{in_default, in_default-2}

pub loop-attempt-init : goal.loop-attempt-init
loop-attempt-init c =
    let long = same_long c.put_first_line.ensures.text.puts in
    let short = c.put_first_line.ensures.short in walk_start _ _ _ (omega arith)

pub put_attempt-requires : goal.put_attempt-requires
put_attempt-requires c =
    let ahead = attempt_forward _ _ _ _ _ (sym (rw c.in-Ok-Some.field-0-is at c.in-Ok-Some.ensures)) in
    let walking = c.loop-attempt.invariant in
    let few = walking.few in
    let short = walking.short in
    let long = walking.long in
    let start = c.put_first_line.ensures.short in
    let same = same_long c.put_first_line.ensures.text.puts in (omega arith, omega arith)

pub loop-attempt-smaller : goal.loop-attempt-smaller
loop-attempt-smaller c = let ahead = attempt_forward _ _ _ _ _ (sym (rw c.in-Ok-Some.field-0-is at c.in-Ok-Some.ensures)) in omega arith

pub loop-attempt-preserved : goal.loop-attempt-preserved
loop-attempt-preserved c =
    walk_on _ _ _ _ _ _ _ c.loop-attempt.invariant _ _ (sym (rw c.in-Ok-Some.field-0-is at c.in-Ok-Some.ensures)) _ (c.from-pages.ensures ∙ ap bool_byte c.is_ok.ensures.value ∙ one_if_good _) _ c.put_attempt.ensures.text
    c.put_attempt.ensures.short

pub returns : goal.returns
returns c =
    let none : is_attempt c.read.result ≡ false = elim c.match-read.branch [ in_default w ↦ search rules | in_default-2 w ↦ ap is_attempt w.in_default.is ] in
    walked _ _ _ _ _ _ _ c.loop-attempt.invariant _ _ (no_more _ _ _ _ c.read.ensures none) c.put_first_line.ensures.text c.put_last_line.ensures
