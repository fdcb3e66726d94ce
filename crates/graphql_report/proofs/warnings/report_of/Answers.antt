use Rattle.std.proofs.Common.{List, map, subst}
use Rattle.graphql_names.specs.Placed.{Place}
use Rattle.report_forms.specs.Order.{IsOrder}
use Rattle.report_forms.specs.declared.order.Rank.{Rank}
use Rattle.graphql_report.specs.Reports.{AreRanked}
use Rattle.graphql_report.specs.Warnings.{Warns}
use Rattle.graphql_report.specs.WarningViews.{told_at, told_in}
use Rattle.graphql_report.specs.declared.warnings.Warning.{Warning}
use Rattle.graphql_report.proofs.Warning.{in_order}
use Rattle.graphql_report.proofs.warnings.report_of.Goals as goal

pub returns : goal.returns
returns c =
    let told = c.in_ok-told.told.items in
    let ranks = c.in_ok-ranks.ranks.items in
    let entries = c.in_ok-entries.entries.items in
    let Says = Warns c.args.sources.now c.args.path.now in
    in_order c.args.sources.now c.args.path.now (told_in c.args.found.now) told ranks entries c.in_ok-told.ensures
    (subst (λ (l : List (Place × Warning)). IsOrder (map (λ (t : Place × Warning). t.0) l) ranks) c.deref.ensures.value c.in_ok-ranks.ensures)
    (subst (λ (l : List (Place × Warning)). AreRanked Says (map told_at l) ranks entries) c.deref-2.ensures.value
    (subst (λ (rs : List Rank). AreRanked Says (map told_at c.deref-2.result.now) rs entries) c.deref-3.ensures.value c.in_ok-entries.ensures))
