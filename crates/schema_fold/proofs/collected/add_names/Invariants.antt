use Rattle.std.proofs.Common.{◌≡◌, ◌++◌, map, take}
use Rattle.graphql_names.specs.Placed.{name_tree}
use Rattle.schema_types.specs.in_components.Given.{origin_tree, component_name_tree}
use Rattle.schema_fold.specs.Components.{all_given}
use Rattle.schema_fold.proofs.collected.add_names.Given as goal

abbrev pub invariant-loop-name : goal.invariant-loop-name
invariant-loop-name l = map component_name_tree l.all.items ≡ map component_name_tree l.fn.all.items ++ all_given (origin_tree l.origin) (map name_tree (take l.name-index l.names))
