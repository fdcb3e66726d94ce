use Rattle.std.proofs.Common.{◌<◌, ◌++◌, ◌∙◌, length, map, take_all, ap, rules}
use Rattle.rule_warnings.specs.Views.{use_tree}
use Rattle.graphql_report.specs.Warnings.{about_use}
use Rattle.graphql_report.specs.WarningViews.{told_of}
use Rattle.graphql_report.proofs.Warning.{told_more}
use Rattle.graphql_report.proofs.warnings.with_uses.Goals as goal

pub loop-one-preserved : goal.loop-one-preserved
loop-one-preserved c =
    let all = c.args.uses.now in
    let index = c.loop-one.one-index in
    let less : index < length all = search rules in
    told_more use_tree about_use (told_of c.args.told) all index _ c.loop-one.told.items c.push.new.self.items _ less c.in_ok-push.ensures.items (ap (λ x. about_use (use_tree x)) c.one-item.is)
    c.loop-one.invariant

pub returns : goal.returns
returns c = c.loop-one.invariant ∙ ap (λ l. told_of c.args.told ++ map about_use (map use_tree l)) (take_all c.loop-one.one-index c.args.uses.now c.loop-one-test.false)
