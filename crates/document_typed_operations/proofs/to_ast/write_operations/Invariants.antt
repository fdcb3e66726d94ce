use Rattle.std.proofs.Common.{◌≡◌, ◌++◌, map, take}
use Rattle.graphql_names.specs.Placed.{node_tree}
use Rattle.document_typed_selections.specs.in_definitions.DefinitionTree.{definition_tree}
use Rattle.document_typed_operations.specs.TypedDocument.{typed_operation_tree}
use Rattle.document_typed_operations.specs.ToAst.{ast_operation}
use Rattle.document_typed_operations.proofs.to_ast.write_operations.Given as goal

abbrev pub invariant-loop-operation : goal.invariant-loop-operation
invariant-loop-operation l = map definition_tree l.out.items ≡ map definition_tree l.fn.out.items ++ map (λ n. ast_operation (node_tree typed_operation_tree n)) (take l.operation-index l.operations)
