-- Private: leads to `Derives` and `Says`. The parts of definitions in memory, as trees of the grammar.
use Rattle.std.specs.Prelude.{List, map, Option, Vec}
use Rattle.std.specs.Option.{option_map}
use Rattle.std.specs.declared.alloc.Global.{Global}
use Rattle.graphql_names.specs.declared.node.Node.{Node}
use Rattle.graphql_names.specs.Placed.{Placed, Place, node_tree}
use Rattle.tree_literals.specs.ValueTree.{ValueTree, value_tree}
use Rattle.tree_literals.specs.TypeTree.{TypeTree, type_tree}
use Rattle.tree_literals.specs.declared.value.Value.{Value}
use Rattle.tree_literals.specs.declared.ty.«Type».{«Type»}
use Rattle.tree_directives.specs.DirectiveTree.{Directives, InputValues, directives_tree, input_value_tree}
use Rattle.tree_directives.specs.declared.directive.DirectiveList.{DirectiveList}
use Rattle.tree_directives.specs.declared.directive_location.DirectiveLocation.{DirectiveLocation}
use Rattle.tree_directives.specs.declared.input_value.InputValueDefinition.{InputValueDefinition}

-- argument definitions, if they are there
abbrev pub arguments_view : Option (Vec (Node InputValueDefinition) Global) → Option (InputValues Place)
arguments_view vs = option_map (λ v. map (node_tree input_value_tree) v.items) vs

-- what comes after the name of an input value: its type, default value and directives
abbrev pub input_value_rest_view : Node «Type» × Option (Node Value) × Option DirectiveList → Unit {0} × (Placed Place (TypeTree Place) × (Option (Placed Place (ValueTree Place)) × Option (Directives Place)))
input_value_rest_view x = (tt, (node_tree type_tree x.0, (option_map (node_tree value_tree) x.1, option_map directives_tree x.2)))

-- what comes after the name of a field: its arguments, type and directives
abbrev pub field_rest_view : Option (Vec (Node InputValueDefinition) Global) × «Type» × Option DirectiveList → Option (InputValues Place) × (Unit {0} × (TypeTree Place × Option (Directives Place)))
field_rest_view x = (arguments_view x.0, (tt, (type_tree x.1, option_map directives_tree x.2)))

-- what comes after the name of a directive: its arguments, directives, whether it is repeatable, and its locations
abbrev pub directive_rest_view : Option (Vec (Node InputValueDefinition) Global) × Option DirectiveList × Option (Unit {0}) × Vec DirectiveLocation Global → Option (InputValues Place) × (Option (Directives Place) × (Option (Unit {0}) × (Unit {0} × List DirectiveLocation)))
directive_rest_view x = (arguments_view x.0, (option_map directives_tree x.1, (x.2, (tt, x.3.items))))
