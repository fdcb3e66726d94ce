use Rattle.std.proofs.Common.{◌≡◌, ◌++◌, map, take}
use Rattle.graphql_names.specs.Placed.{node_tree}
use Rattle.document_typed_selections.specs.in_definitions.DefinitionTree.{definition_tree}
use Rattle.document_typed_operations.specs.TypedDocument.{typed_fragment_tree}
use Rattle.document_typed_operations.specs.ToAst.{ast_fragment}
use Rattle.document_typed_operations.proofs.to_ast.write_fragments.Given as goal

abbrev pub invariant-loop-fragment : goal.invariant-loop-fragment
invariant-loop-fragment l = map definition_tree l.out.items ≡ map definition_tree l.fn.out.items ++ map (λ n. ast_fragment (node_tree typed_fragment_tree n)) (take l.fragment-index l.fragments)
