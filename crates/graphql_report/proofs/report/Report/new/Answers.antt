use Rattle.std.proofs.Common.{List, map, take_all, sym, ◌∙◌, ap, subst}
use Rattle.graphql_names.specs.Placed.{Place}
use Rattle.graphql_faults.specs.declared.details.Details.{Details}
use Rattle.graphql_faults.specs.DetailsView.{details_at, diagnostics_of}
use Rattle.report_forms.specs.Order.{IsOrder}
use Rattle.report_forms.specs.declared.order.Rank.{Rank}
use Rattle.graphql_report.proofs.Reporting.{all_reported}
use Rattle.graphql_report.proofs.report.Report.new.Goals as goal

pub returns : goal.returns
returns c =
    let told : List (Place × Details) = c.as_slice-told.result.now in
    all_reported c.args.sources.now c.args.path.now (diagnostics_of c.args.faults.now) told c.deref-rank-items.result.now c.loop-rank.rank-index c.loop-rank.entries.items
    (ap (map details_at) c.as_slice-told.ensures.value ∙ c.iter.ensures)
    (subst (λ (l : List Rank). IsOrder (map (λ (t : Place × Details). t.0) told) l) (sym c.deref-rank-items.ensures.value) c.in_ok-ranks.ensures)
    (take_all c.loop-rank.rank-index c.deref-rank-items.result.now c.loop-rank-test.false)
    c.loop-rank.invariant
