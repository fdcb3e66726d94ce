use Rattle.std.proofs.Common.{◌≡◌}
use Rattle.std.specs.List.{flat_map}
use Rattle.graphql_schema.specs.SchemaOf.{schema_tree}
use Rattle.document_typed_operations.specs.OperationsByName.{left_operations}
use Rattle.document_typed_operations.specs.DocumentView.{document_meant}
use Rattle.rule_definitions.specs.Room.{◌⊕◌}
use Rattle.rule_document_definitions.specs.Selected.{operations}
use Rattle.rule_warnings.specs.Views.{uses_of}
use Rattle.rule_warnings.specs.Told.{operation_uses}
use Rattle.rule_warnings.specs.TellingDocuments.{operation_uses_of}
use Rattle.rule_warnings.proofs.document.tell_operations.Given as goal

abbrev pub invariant-loop-operation : goal.invariant-loop-operation
invariant-loop-operation l =
    uses_of l.fn.uses ⊕ flat_map (operation_uses (schema_tree l.schema)) (operations (document_meant l.document))
    ≡ uses_of l.uses ⊕ flat_map (operation_uses_of (schema_tree l.schema)) (left_operations l.operation-iterator)
