use Rattle.std.proofs.Common.{◌≡◌, rules, map, ap, ◌∙◌, None}
use Rattle.report_cli.specs.Folding.{cause_text, causes_after}
use Rattle.report_cli.proofs.Folds.{is_folded}
use Rattle.report_cli.proofs.folding.folded.Goals as goal

pub returns : goal.returns
returns c =
    let slice : c.deref.result.now ≡ c.in_ok-causes.causes.items = search rules in
    is_folded (causes_after None c.args.entries.now) c.deref.result.now c.in_ok-printed.printed.items (ap (map cause_text) slice ∙ c.in_ok-causes.ensures) c.in_ok-printed.ensures
