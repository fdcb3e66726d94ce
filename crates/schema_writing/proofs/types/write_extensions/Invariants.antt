use Rattle.std.proofs.Common.{◌≡◌, ◌++◌, map, take, Some}
use Rattle.tree_definitions.specs.DefinitionTree.{definition_tree}
use Rattle.schema_components.specs.Given.{extension_tree, place_of}
use Rattle.schema_writing.specs.Contents.{type_contents, extended_from}
use Rattle.schema_writing.specs.ContentsView.{filed_parts}
use Rattle.schema_writing.proofs.types.write_extensions.Given as goal

abbrev pub invariant-loop-id : goal.invariant-loop-id
invariant-loop-id l = map definition_tree l.out.items ≡ map definition_tree l.fn.out.items ++ map (λ id. extended_from (type_contents l.t) (place_of id) (filed_parts (Some (extension_tree id)) l.filed)) (take l.id-index l.extensions)
