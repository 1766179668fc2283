use Rattle.std.proofs.Common.{rules, sym, ap, ◌∙◌, length, length-drop, arith}
use Rattle.bench_listing.specs.Listing.{readings_of, capture_listing, listing, listed_readings}
use Rattle.bench_listing.specs.Texts.{Adds}
use Rattle.bench_listing.proofs.TextLaws.{adds_same, all_put}
use Rattle.bench_listing.proofs.InputLaws.{all_behind, captures, head_taken}
use Rattle.bench_listing.proofs.input.list_input.Goals as goal
use Rattle.bench_listing.proofs.input.list_input.Goals.{in-Err, in-Ok}

pub slice_bounds-decode-count : goal.slice_bounds-decode-count
slice_bounds-decode-count c = (captures _ _ (sym c.in-Ok.ensures)).some

pub slice_bounds-decode-start : goal.slice_bounds-decode-start
slice_bounds-decode-start c = (captures _ _ (sym c.in-Ok.ensures)).some

pub decode-count-requires : goal.decode-count-requires
decode-count-requires c =
    let short = (captures _ _ (sym c.in-Ok.ensures)).short in
    let behind = ap length (all_behind c.args.input.now) in
    let one_less = length-drop 1 c.args.input.now in (omega arith, omega arith)

pub returns-clause-text : goal.returns-clause-text
unfolding listing
returns-clause-text c =
    let whole : Adds c.new-text.result (listing c.args.input.now) c.match-mode_given.text =
    elim c.match-mode_given.branch [
      | in-Err w ↦ rw (sym w.in-Err.ensures) (rw w.text-is w.put_refusal.ensures)
      | in-Ok w ↦
          let d = w.decode-count.ensures in
          rw (sym w.in-Ok.ensures) (rw w.text-is
          (adds_same w.put_capture.ensures (ap (capture_listing _) (head_taken _ _ _ _ d.contents d.count ∙ ap readings_of (all_behind _)))))
    ]
    in
    all_put whole c.new-text.ensures.bytes c.new-text.ensures.empty (search rules) c.length.ensures

pub returns-clause-readings : goal.returns-clause-readings
unfolding listed_readings
returns-clause-readings c =
    elim c.match-mode_given.branch [
      | in-Err w ↦ rw (sym w.in-Err.ensures) w.readings-is
      | in-Ok w ↦ rw (sym w.in-Ok.ensures) (w.readings-is ∙ (rw all_behind at w.decode-count.ensures.contents))
    ]
