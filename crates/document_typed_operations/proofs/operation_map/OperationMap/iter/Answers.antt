use Rattle.std.proofs.Common.{map, ◌∙◌}
use Rattle.std.specs.List.{cons_option}
use Rattle.graphql_names.specs.Placed.{node_tree}
use Rattle.document_typed_operations.specs.TypedDocument.{typed_operation_tree}
use Rattle.document_typed_operations.proofs.OperationMaps.{listed}
use Rattle.document_typed_operations.proofs.operation_map.OperationMap.iter.Goals as goal

pub returns : goal.returns
returns c =
    (λ i. map (node_tree typed_operation_tree) (cons_option (c.as_ref.ensures.value i) (c.values.ensures.rest i)))
    ∙ listed (node_tree typed_operation_tree) c.args.self.now.anonymous c.args.self.now.named.entries
