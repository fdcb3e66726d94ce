use Rattle.std.proofs.Common.{◌<◌, ◌++◌, ◌∙◌, length, map, take_all, ap, rules}
use Rattle.graphql_faults.specs.DetailsView.{details_at}
use Rattle.graphql_report.specs.Warnings.{about_fault}
use Rattle.graphql_report.specs.WarningViews.{told_of}
use Rattle.graphql_report.proofs.Warning.{told_more}
use Rattle.graphql_report.proofs.warnings.with_faults.Goals as goal

pub loop-one-preserved : goal.loop-one-preserved
loop-one-preserved c =
    let all = c.args.faults.now in
    let index = c.loop-one.one-index in
    let less : index < length all = search rules in
    told_more details_at about_fault (told_of c.args.told) all index _ c.loop-one.told.items c.push.new.self.items _ less c.in_ok-push.ensures.items (ap (λ x. about_fault (details_at x)) c.one-item.is)
    c.loop-one.invariant

pub returns : goal.returns
returns c = c.loop-one.invariant ∙ ap (λ l. told_of c.args.told ++ map about_fault (map details_at l)) (take_all c.loop-one.one-index c.args.faults.now c.loop-one-test.false)
