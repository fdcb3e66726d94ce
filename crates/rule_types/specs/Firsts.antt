-- Private: leads to `InterfacesBreak`. The first argument definition of each name, in a map.
use Rattle.std.specs.Prelude.{◌≡◌}
use Rattle.std.specs.Option.{option_map}
use Rattle.indexmap.specs.IndexMap.{IndexMap, get}
use Rattle.graphql_names.specs.NameValue.{NameValue}
use Rattle.graphql_names.specs.Placed.{Place, node_tree}
use Rattle.graphql_names.specs.declared.node.Node.{Node}
use Rattle.tree_directives.specs.DirectiveTree.{InputValues, input_value_tree}
use Rattle.tree_directives.specs.declared.input_value.InputValueDefinition.{InputValueDefinition}
use Rattle.schema_components.specs.Names.{same_text}
use Rattle.schema_types.specs.TypeView.{name_text}
use Rattle.rule_types.specs.FaultLists.{first_named}

-- the map has under each name the first of these with that name
abbrev pub AreFirsts : {S : Type 0} → IndexMap NameValue (Node InputValueDefinition) S → InputValues Place → Type 0
AreFirsts firsts vs = (n : NameValue) → option_map (node_tree input_value_tree) (get (same_text name_text) firsts n) ≡ first_named vs n.text
