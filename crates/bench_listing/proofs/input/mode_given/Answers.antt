use Rattle.std.proofs.Common.{rules, ◌≡◌, ap, sym, ◌∙◌, Some, None, Err, arith}
use Rattle.answers.specs.declared.Refusal.TheVariants.{Mode}
use Rattle.bench_listing.specs.Listing.{given_in}
use Rattle.bench_listing.proofs.InputLaws.{all_behind, nothing_given, by_mode_law}
use Rattle.bench_listing.proofs.input.mode_given.Goals as goal

pub returns-in_default : goal.returns-in_default
returns-in_default c = nothing_given _ (omega arith)

pub returns-in_err-ok_or : goal.returns-in_err-ok_or
returns-in_err-ok_or c =
    let refused : c.from_residual.result ≡ Err Mode = search rules in
    refused ∙ by_mode_law _ _ None (sym c.in_err-ok_or.ensures.ok_part ∙ c.mode_of.ensures) c.from-mode.ensures (omega arith)

pub returns : goal.returns
returns c =
    c.given_in.ensures ∙ ap (given_in _) (all_behind c.args.input.now)
    ∙ by_mode_law _ _ (Some _) (sym c.in_ok-ok_or.ensures.ok_part ∙ c.mode_of.ensures) c.from-mode.ensures (omega arith)
