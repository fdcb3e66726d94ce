use Rattle.std.proofs.Common.{◌≡◌, map, take}
use Rattle.graphql_names.specs.Placed.{name_tree}
use Rattle.schema_components.specs.Given.{component_name_tree}
use Rattle.schema_writing.specs.Filed.{without_givers}
use Rattle.schema_writing.proofs.filing.copy_names.Given as goal

abbrev pub invariant-loop-component : goal.invariant-loop-component
invariant-loop-component l = map name_tree l.out.items ≡ without_givers (map component_name_tree (take l.component-index l.components))
