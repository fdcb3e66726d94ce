-- The keys of the entries of an object, in order.
use Rattle.std.proofs.Common.{List, map}
use Rattle.graphql_names.specs.Placed.{Place, Text, name_tree}
use Rattle.graphql_names.specs.declared.name.Name.{Name}
use Rattle.graphql_names.specs.declared.node.Node.{Node}
use Rattle.tree_literals.specs.declared.value.Value.{Value}

abbrev pub keys_of_entries : List (Name × Node Value) → List (Text Place)
keys_of_entries entries = map (λ e. name_tree e.0) entries
