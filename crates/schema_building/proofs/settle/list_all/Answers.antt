use Rattle.std.proofs.Common.{◌<◌, map, length, arith}
use Rattle.schema_built_in.specs.in_definitions.DefinitionTree.{definition_tree}
use Rattle.schema_built_in.specs.in_fold.ListedView.{listed_view}
use Rattle.schema_building.specs.Settling.{unnumbered}
use Rattle.schema_building.proofs.Growing.{mapped}
use Rattle.schema_building.proofs.settle.list_all.Goals as goal

pub loop-definition-preserved : goal.loop-definition-preserved
loop-definition-preserved c =
    let xs = c.args.definitions.now in
    let i = c.loop-definition.definition-index in
    let h : i < length xs = omega arith in
    mapped definition_tree xs i c.definition-item.result h c.definition-item.is (map listed_view c.args.list.now.items) (map listed_view c.loop-definition.list.items) _ unnumbered c.loop-definition.invariant c.in_ok-push_shared.ensures
