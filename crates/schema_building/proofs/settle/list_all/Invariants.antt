use Rattle.std.proofs.Common.{◌≡◌, ◌++◌, map, take}
use Rattle.schema_built_in.specs.in_definitions.DefinitionTree.{definition_tree}
use Rattle.schema_built_in.specs.in_fold.ListedView.{listed_view}
use Rattle.schema_building.specs.Settling.{unnumbered}
use Rattle.schema_building.proofs.settle.list_all.Given as goal

abbrev pub invariant-loop-definition : goal.invariant-loop-definition
invariant-loop-definition l = map listed_view l.list.items ≡ map listed_view l.fn.list.items ++ map unnumbered (map definition_tree (take l.definition-index l.definitions))
