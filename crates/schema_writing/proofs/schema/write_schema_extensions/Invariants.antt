use Rattle.std.proofs.Common.{◌≡◌, ◌++◌, map, take, Some}
use Rattle.tree_directives.specs.DirectiveTree.{directive_tree}
use Rattle.tree_definitions.specs.DefinitionTree.{definition_tree}
use Rattle.schema_components.specs.Given.{extension_tree}
use Rattle.schema_types.specs.TypeView.{schema_roots}
use Rattle.schema_writing.specs.Filed.{filed_under}
use Rattle.graphql_names.specs.Placed.{node_tree}
use Rattle.schema_writing.specs.SchemaParts.{schema_extended_from}
use Rattle.schema_writing.proofs.schema.write_schema_extensions.Given as goal

abbrev pub invariant-loop-id : goal.invariant-loop-id
invariant-loop-id l = map definition_tree l.out.items ≡ map definition_tree l.fn.out.items ++ map (λ id. schema_extended_from (schema_roots l.definition) (extension_tree id) (map (node_tree directive_tree) (filed_under (Some (extension_tree id)) l.directives.entries))) (take l.id-index l.extensions)
