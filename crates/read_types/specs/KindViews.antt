-- Private: leads to `Derives` and `Says`. The parts of definitions of each kind in memory, as trees of the grammar.
use Rattle.std.specs.Prelude.{List, map, Option, Vec}
use Rattle.std.specs.Option.{option_map}
use Rattle.std.specs.declared.alloc.Global.{Global}
use Rattle.graphql_names.specs.declared.name.Name.{Name}
use Rattle.graphql_names.specs.declared.node.Node.{Node}
use Rattle.graphql_names.specs.Placed.{Placed, Place, Text, name_tree, node_tree}
use Rattle.tree_directives.specs.DirectiveTree.{Directives, InputValues, directives_tree, input_value_tree}
use Rattle.tree_directives.specs.declared.directive.DirectiveList.{DirectiveList}
use Rattle.tree_directives.specs.declared.input_value.InputValueDefinition.{InputValueDefinition}
use Rattle.tree_type_members.specs.TypeSystemTree.{field_definition_tree, enum_value_tree}
use Rattle.tree_type_members.specs.declared.field_definition.FieldDefinition.{FieldDefinition}
use Rattle.tree_type_members.specs.declared.enum_value.EnumValueDefinition.{EnumValueDefinition}
use Rattle.read_grammar.specs.TypeSystemGrammar.{Fields, Values}

-- names, if they are there
abbrev pub names_view : Option (Vec Name Global) → Option (List (Text Place))
names_view names = option_map (λ v. map name_tree v.items) names

-- what comes after the name of an object or an interface: its interfaces, directives and fields
abbrev pub fields_rest_view : Option (Vec Name Global) × Option DirectiveList × Option (Vec (Node FieldDefinition) Global) → Option (List (Text Place)) × (Option (Directives Place) × Option (Fields Place))
fields_rest_view x = (names_view x.0, (option_map directives_tree x.1, option_map (λ v. map (node_tree field_definition_tree) v.items) x.2))

-- what comes after the name of a union: its directives and members
abbrev pub union_rest_view : Option DirectiveList × Option (Vec Name Global) → Option (Directives Place) × Option (List (Text Place))
union_rest_view x = (option_map directives_tree x.0, names_view x.1)

-- what comes after the name of an enum: its directives and values
abbrev pub enum_rest_view : Option DirectiveList × Option (Vec (Node EnumValueDefinition) Global) → Option (Directives Place) × Option (Values Place)
enum_rest_view x = (option_map directives_tree x.0, option_map (λ v. map (node_tree enum_value_tree) v.items) x.1)

-- what comes after the name of an input object: its directives and fields
abbrev pub input_object_rest_view : Option DirectiveList × Option (Vec (Node InputValueDefinition) Global) → Option (Directives Place) × Option (InputValues Place)
input_object_rest_view x = (option_map directives_tree x.0, option_map (λ v. map (node_tree input_value_tree) v.items) x.1)
