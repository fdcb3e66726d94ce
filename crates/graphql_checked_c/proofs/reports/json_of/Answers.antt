use Rattle.std.specs.Prelude.{is_some}
use Rattle.std.proofs.lemmas.Result.{IfOk-weaker}
use Rattle.graphql_faults.specs.DetailsView.{diagnostics_of}
use Rattle.graphql_checked_c.proofs.JsonLines.{json_told}
use Rattle.graphql_checked_c.proofs.reports.json_of.Goals as goal

pub returns : goal.returns
returns c =
    IfOk-weaker c.json_lines.result _ _
    (λ bytes lines. json_told (is_some c.args.over) c.args.texts.now c.args.path.now c.args.document.now (diagnostics_of c.args.faults.now) c.in_ok-sources.sources.items c.deref.result.now
    c.in_ok-report.report c.entries.result.now bytes.items c.in_ok-sources.ensures.paths c.in_ok-sources.ensures.texts c.deref.ensures.value c.in_ok-report.ensures c.entries.ensures lines)
    c.json_lines.ensures
