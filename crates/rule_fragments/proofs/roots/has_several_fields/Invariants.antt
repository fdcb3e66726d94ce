use Rattle.std.proofs.Common.{◌≡◌, ◌+◌, false, List}
use Rattle.graphql_names.specs.Node.{content}
use Rattle.graphql_names.specs.Placed.{Place}
use Rattle.document_typed_operations.specs.TypedDocument.{typed_document_tree}
use Rattle.document_typed_selections.specs.TypedTree.{typed_set_tree}
use Rattle.document_typed_operations.specs.Reached.{Member, IsMemberWalk, document_fragments}
use Rattle.document_typed_operations.specs.Lending.{selections_left}
use Rattle.rule_fragments.specs.ListedBreaches.{field_count}
use Rattle.rule_fragments.proofs.Counted.{one_if}
use Rattle.rule_fragments.proofs.Lent.{members_lent}
use Rattle.rule_fragments.proofs.roots.has_several_fields.Given as goal

abbrev pub invariant-loop-selection : goal.invariant-loop-selection
invariant-loop-selection l = (given : List (Member Place)) × (IsMemberWalk false (document_fragments (typed_document_tree l.document)) (typed_set_tree (content l.operation).selection_set) given
    × (one_if l.has_one + field_count (members_lent (selections_left l.selection-iterator)) ≡ field_count (members_lent given)))
