use Rattle.std.proofs.Common.{◌≡◌, map, take, Option}
use Rattle.graphql_names.specs.Placed.{Place, node_tree}
use Rattle.schema_components.specs.Given.{ExtensionTree}
use Rattle.schema_types.specs.Out.{given_by}
use Rattle.schema_writing.specs.Filed.{filed_under, given_contents, itself}
use Rattle.schema_writing.proofs.filing.file_components.Given as goal

abbrev pub invariant-loop-component : goal.invariant-loop-component
invariant-loop-component g l = (giver : Option (ExtensionTree Place)) → map (node_tree itself) (filed_under giver l.filed.entries) ≡ given_by giver (given_contents (take l.component-index l.components))
