use Rattle.std.proofs.Common.{◌≡◌, ◌++◌, map, take}
use Rattle.std.specs.List.{flat_map}
use Rattle.tree_definitions.specs.DefinitionTree.{definition_tree}
use Rattle.schema_writing.specs.Contents.{type_contents, written_contents}
use Rattle.schema_writing.proofs.types.write_types.Given as goal

abbrev pub invariant-loop-t : goal.invariant-loop-t
invariant-loop-t l = map definition_tree l.out.items ≡ map definition_tree l.fn.out.items ++ flat_map (λ t. written_contents (type_contents t)) (take l.t-index l.types)
