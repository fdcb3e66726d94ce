use Rattle.std.proofs.Common.{map, ◌++◌, ap, ◌∙◌}
use Rattle.std.proofs.lemmas.Result.{on_ok_weaker}
use Rattle.rule_merging.specs.in_faults.DetailsTree.{of_document}
use Rattle.rule_merging.specs.in_faults.DetailsView.{diagnostics_of}
use Rattle.graphql_validation.proofs.told.append_all.Goals as goal

pub returns-clause-added : goal.returns-clause-added
returns-clause-added c =
    on_ok_weaker c.append_told.result
    (λ h. h ∙ ap (λ l. diagnostics_of c.args.list.now ++ map of_document l) c.keep_first-is_told.ensures)
    c.append_told.ensures.added
