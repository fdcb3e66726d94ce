use Rattle.std.proofs.Common.{sym, ◌∙◌}
use Rattle.rule_selection_queries.specs.in_reach.in_typed_operations.DocumentView.{document_meant}
use Rattle.rule_fragments.proofs.Bounded.{nests_passes, too_deep}
use Rattle.rule_fragments.proofs.path_bound.passes_path_bound.Goals as goal

pub returns-clause-right : goal.returns-clause-right
returns-clause-right c = λ e. nests_passes (document_meant c.args.document.now) (sym c.some_nests.ensures ∙ e)

pub returns-clause-found : goal.returns-clause-found
returns-clause-found c = λ h. c.some_nests.ensures ∙ too_deep (document_meant c.args.document.now) h
