use Rattle.std.proofs.Common.{◌≡◌, map, take, Option}
use Rattle.graphql_names.specs.Placed.{Place, name_tree}
use Rattle.schema_components.specs.Given.{ExtensionTree, component_name_tree}
use Rattle.schema_types.specs.Out.{given_by}
use Rattle.schema_writing.specs.Filed.{filed_under}
use Rattle.schema_writing.proofs.filing.file_names.Given as goal

abbrev pub invariant-loop-component : goal.invariant-loop-component
invariant-loop-component l = (giver : Option (ExtensionTree Place)) → map name_tree (filed_under giver l.filed.entries) ≡ given_by giver (map component_name_tree (take l.component-index l.components))
