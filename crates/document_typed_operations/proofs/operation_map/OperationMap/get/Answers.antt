use Rattle.std.proofs.Common.{ap, sym, ◌∙◌}
use Rattle.std.specs.Option.{option_map, option_copied}
use Rattle.graphql_names.specs.Placed.{node_tree}
use Rattle.schema_types.specs.TypeView.{name_text}
use Rattle.document_typed_operations.specs.TypedDocument.{typed_operation_tree, typed_operations_tree}
use Rattle.document_typed_operations.specs.OperationsByName.{operation_called}
use Rattle.document_typed_operations.proofs.OperationMaps.{got}
use Rattle.document_typed_operations.proofs.operation_map.OperationMap.get.Goals as goal

pub returns-in-Some : goal.returns-in-Some
returns-in-Some c =
    got (node_tree typed_operation_tree) c.in-Some.name.now c.args.self.now.named c.get.result c.get.ensures.value
    ∙ sym (ap (λ o. operation_called (option_map name_text (option_copied o)) (typed_operations_tree c.args.self.now)) c.in-Some.is)
