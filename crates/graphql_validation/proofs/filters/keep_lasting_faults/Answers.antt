use Rattle.std.proofs.Common.{map, ap, ◌∙◌, rules}
use Rattle.std.proofs.lemmas.Fn.{filter_same}
use Rattle.fault_data.specs.FaultView.{fault_of}
use Rattle.graphql_validation.specs.Lasts.{fault_lasts}
use Rattle.graphql_validation.proofs.Filtered.{filter_view}
use Rattle.graphql_validation.proofs.filters.keep_lasting_faults.Goals as goal

pub returns : goal.returns
returns c =
    ap (map fault_of) (filter_same _ (λ x. fault_lasts (fault_of x)) _ (λ x b f' k. search rules) _ _ c.retain.ensures.filtered)
    ∙ filter_view fault_of fault_lasts c.args.faults.now.items
