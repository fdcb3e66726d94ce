use Rattle.std.proofs.Common.{map, take}
use Rattle.schema_built_in.specs.in_definitions.DefinitionTree.{definition_tree}
use Rattle.schema_building.specs.KeptView.{KeepsIndex}
use Rattle.schema_building.specs.TextsView.{texts_view}
use Rattle.schema_building.specs.TextsList.{AddsDefinitions}
use Rattle.schema_building.proofs.building.add_document.Given as goal

abbrev pub invariant-loop-definition : goal.invariant-loop-definition
invariant-loop-definition l =
    AddsDefinitions (map definition_tree (take l.definition-index l.document.definitions.items)) (texts_view l.fn.texts) (texts_view l.texts)
    × KeepsIndex l.fn.texts l.texts
