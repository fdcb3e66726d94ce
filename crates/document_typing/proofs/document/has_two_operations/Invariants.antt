use Rattle.std.proofs.Common.{◌≡◌, ◌+◌, length, map, drop, if◌then◌else◌}
use Rattle.std.specs.List.{filter}
use Rattle.tree_definitions.specs.DefinitionTree.{definition_tree}
use Rattle.document_typing.specs.KeptDocument.{is_operation}
use Rattle.document_typing.proofs.document.has_two_operations.Given as goal

abbrev pub invariant-loop-definition : goal.invariant-loop-definition
invariant-loop-definition l =
    (if l.seen then 1 else 0) + length (filter is_operation (map definition_tree (drop l.definition-index l.definitions)))
    ≡ length (filter is_operation (map definition_tree l.definitions))
