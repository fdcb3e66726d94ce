-- Arguments, directives and definitions of input values and directives (GraphQL, October 2021, sections 2.6, 2.12, 3.6.1, 3.10, 3.13).
use Rattle.std.specs.Prelude.{Bool, List, map, Option}
use Rattle.std.specs.Option.{option_map}
use Rattle.tree_literals.specs.in_names.declared.node.Node.{Node}
use Rattle.tree_literals.specs.in_names.Placed.{Placed, Place, Text, name_tree, text_tree, node_tree, unplaced_text, unplaced_node}
use Rattle.tree_literals.specs.TypeTree.{TypeTree, type_tree, unplaced_type}
use Rattle.tree_literals.specs.ValueTree.{ValueTree, value_tree, unplaced_value}
use Rattle.tree_directives.specs.declared.directive.Argument.{Argument}
use Rattle.tree_directives.specs.declared.directive.Directive.{Directive}
use Rattle.tree_directives.specs.declared.directive.DirectiveList.{DirectiveList}
use Rattle.tree_directives.specs.declared.directive.DirectiveDefinition.{DirectiveDefinition}
use Rattle.tree_directives.specs.declared.directive_location.DirectiveLocation.{DirectiveLocation}
use Rattle.tree_directives.specs.declared.input_value.InputValueDefinition.{InputValueDefinition}

-- name: value
pub record ArgumentTree (P : Type 0) : Type 0 where
  pub name : Text P
  pub value : Placed P (ValueTree P)

abbrev pub Arguments : Type 0 → Type 0
Arguments P = List (Placed P (ArgumentTree P))

-- @name(arguments)
pub record DirectiveTree (P : Type 0) : Type 0 where
  pub name : Text P
  pub arguments : Arguments P

abbrev pub Directives : Type 0 → Type 0
Directives P = List (Placed P (DirectiveTree P))

-- an argument's definition, or an input object's field
pub record InputValueTree (P : Type 0) : Type 0 where
  pub description : Option (Text P)
  pub name : Text P
  pub ty : Placed P (TypeTree P)
  pub default_value : Option (Placed P (ValueTree P))
  pub directives : Directives P

abbrev pub InputValues : Type 0 → Type 0
InputValues P = List (Placed P (InputValueTree P))

-- directive @name(arguments) @directives repeatable on locations (its own directives are not in October 2021)
pub record DirectiveDefinitionTree (P : Type 0) : Type 0 where
  pub description : Option (Text P)
  pub name : Text P
  pub arguments : InputValues P
  pub directives : Directives P
  pub repeatable : Bool
  pub locations : List DirectiveLocation

abbrev pub argument_tree : Argument → ArgumentTree Place
argument_tree a = record { name = name_tree a.name; value = node_tree value_tree a.value }

abbrev pub directive_tree : Directive → DirectiveTree Place
directive_tree d = record { name = name_tree d.name; arguments = map (node_tree argument_tree) d.arguments.items }

abbrev pub directives_tree : DirectiveList → Directives Place
directives_tree ds = map (node_tree directive_tree) ds.0.items

abbrev pub input_value_tree : InputValueDefinition → InputValueTree Place
input_value_tree v = record {
  description = option_map text_tree v.description;
  name = name_tree v.name;
  ty = node_tree type_tree v.ty;
  default_value = option_map (node_tree value_tree) v.default_value;
  directives = directives_tree v.directives;
}

-- the trees of nodes of input values, in order
abbrev pub input_value_trees : List (Node InputValueDefinition) → InputValues Place
input_value_trees nodes = map (node_tree input_value_tree) nodes

abbrev pub directive_definition_tree : DirectiveDefinition → DirectiveDefinitionTree Place
directive_definition_tree d = record {
  description = option_map text_tree d.description;
  name = name_tree d.name;
  arguments = map (node_tree input_value_tree) d.arguments.items;
  directives = directives_tree d.directives;
  repeatable = d.repeatable;
  locations = d.locations.items;
}

module _ {P : Type 0} where
  abbrev pub unplaced_argument : ArgumentTree P → ArgumentTree (Unit {0})
  unplaced_argument a = record { name = unplaced_text a.name; value = unplaced_node unplaced_value a.value }

  abbrev pub unplaced_arguments : Arguments P → Arguments (Unit {0})
  unplaced_arguments as' = map (unplaced_node unplaced_argument) as'

  abbrev pub unplaced_directive : DirectiveTree P → DirectiveTree (Unit {0})
  unplaced_directive d = record { name = unplaced_text d.name; arguments = unplaced_arguments d.arguments }

  abbrev pub unplaced_directives : Directives P → Directives (Unit {0})
  unplaced_directives ds = map (unplaced_node unplaced_directive) ds

  abbrev pub unplaced_input_value : InputValueTree P → InputValueTree (Unit {0})
  unplaced_input_value v = record {
    description = option_map unplaced_text v.description;
    name = unplaced_text v.name;
    ty = unplaced_node unplaced_type v.ty;
    default_value = option_map (unplaced_node unplaced_value) v.default_value;
    directives = unplaced_directives v.directives;
  }

  abbrev pub unplaced_directive_definition : DirectiveDefinitionTree P → DirectiveDefinitionTree (Unit {0})
  unplaced_directive_definition d = record {
    description = option_map unplaced_text d.description;
    name = unplaced_text d.name;
    arguments = map (unplaced_node unplaced_input_value) d.arguments;
    directives = unplaced_directives d.directives;
    repeatable = d.repeatable;
    locations = d.locations;
  }
