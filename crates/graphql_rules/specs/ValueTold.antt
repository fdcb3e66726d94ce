-- What is told of a value that is given for a type (GraphQL, October 2021, sections 5.6 and 5.8.3).
use Rattle.std.specs.Prelude.{List}
use Rattle.graphql_names.specs.Placed.{Place}
use Rattle.graphql_names.specs.Node.{content, place}
use Rattle.graphql_names.specs.declared.node.Node.{Node}
use Rattle.tree_literals.specs.ValueTree.{value_tree}
use Rattle.tree_literals.specs.declared.value.Value.{Value}
use Rattle.tree_literals.specs.declared.ty.«Type».{«Type»}
use Rattle.tree_operations.specs.declared.operation.VariableDefinition.{VariableDefinition}
use Rattle.rule_definitions.specs.in_schema_types.SchemaTree.{SchemaTree}
use Rattle.rule_definitions.specs.in_schema_types.Addresses.{place_at}
use Rattle.rule_definitions.specs.Judged.{judged}
use Rattle.rule_definitions.specs.Accepts.{Accepts}
use Rattle.rule_definitions.specs.Values.{ValueBreaks}
use Rattle.rule_arguments.specs.in_rule_values.Wanting.{wanted_type, variables_of}
use Rattle.graphql_faults.specs.DetailsTree.{Telling}
use Rattle.graphql_rules.specs.Appends.{Appends}

module _ (s : SchemaTree Place) (variables : List (Node VariableDefinition)) (ty : Node «Type») (value : Node Value) where
  -- the new list is the old one, then the first 1,000 of the faults of the value, given for the type with these variables
  abbrev pub ValueTold : Telling → Telling → Type 0
  ValueTold old new =
      Appends old new (ValueBreaks (place_at s) (judged s) (variables_of variables) (wanted_type ty) (place value) (value_tree (content value)))

  -- the type accepts the value, with these variables
  abbrev pub TypeAccepts : Type 0
  TypeAccepts = Accepts (judged s) (variables_of variables) (wanted_type ty).it (value_tree (content value))
