use Rattle.std.proofs.Common.{map, ap, sym, ◌∙◌}
use Rattle.std.proofs.lemmas.List.{take-map}
use Rattle.graphql_faults.specs.DetailsView.{details_at}
use Rattle.graphql_faults.proofs.diagnostic_list.DiagnosticList.truncate.Goals as goal

pub returns : goal.returns
returns c = ap (map details_at) c.truncate.ensures.items ∙ sym (take-map details_at c.args.len c.args.self.now.diagnostics.items)
