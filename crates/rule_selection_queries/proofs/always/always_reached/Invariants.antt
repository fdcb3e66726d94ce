use Rattle.std.proofs.Common.{◌+◌, ◌-◌, length}
use Rattle.document_typed_operations.specs.TypedDocument.{typed_document_tree}
use Rattle.document_typed_operations.specs.Reached.{document_fragments}
use Rattle.rule_reach.specs.in_typed_operations.DocumentView.{document_meant, operation_meant}
use Rattle.rule_reach.specs.NotedNames.{noted_names}
use Rattle.rule_selection_queries.specs.Always.{Found, to_come}
use Rattle.rule_selection_queries.specs.Lent.{lent_all}
use Rattle.rule_selection_queries.proofs.always.always_reached.Given as goal

abbrev pub invariant-walk : goal.invariant-walk
invariant-walk l = Found (document_meant l.document) (operation_meant l.operation) (document_fragments (typed_document_tree l.document)) (lent_all l.found.items) l.passed (noted_names l.entered)

abbrev pub decreases-walk : goal.decreases-walk
decreases-walk l = (length (lent_all l.found.items) - l.passed) + to_come (document_fragments (typed_document_tree l.document)) (noted_names l.entered)
