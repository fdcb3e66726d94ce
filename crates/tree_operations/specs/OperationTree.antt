-- Operations and fragments (GraphQL, October 2021, sections 2.3, 2.8, 2.10).
use Rattle.std.specs.Prelude.{List, map, Option}
use Rattle.std.specs.Option.{option_map}
use Rattle.tree_directives.specs.in_literals.in_names.Placed.{Placed, Place, Text, name_tree, node_tree, unplaced_text, unplaced_node}
use Rattle.tree_directives.specs.in_literals.TypeTree.{TypeTree, type_tree, unplaced_type}
use Rattle.tree_directives.specs.in_literals.ValueTree.{ValueTree, value_tree, unplaced_value}
use Rattle.tree_directives.specs.DirectiveTree.{Directives, directives_tree, unplaced_directives}
use Rattle.tree_operations.specs.SelectionTree.{SelectionTrees, selection_trees, selection_tree, unplaced_selections}
use Rattle.tree_directives.specs.declared.operation_type.OperationType.{OperationType}
use Rattle.tree_operations.specs.declared.operation.VariableDefinition.{VariableDefinition}
use Rattle.tree_operations.specs.declared.operation.OperationDefinition.{OperationDefinition}
use Rattle.tree_operations.specs.declared.operation.FragmentDefinition.{FragmentDefinition}

-- $name: ty = default_value @directives
pub record VariableDefinitionTree (P : Type 0) : Type 0 where
  pub name : Text P
  pub ty : Placed P (TypeTree P)
  pub default_value : Option (Placed P (ValueTree P))
  pub directives : Directives P

-- operation_type name(variables) @directives { selections }
pub record OperationTree (P : Type 0) : Type 0 where
  pub operation_type : OperationType
  pub name : Option (Text P)
  pub variables : List (Placed P (VariableDefinitionTree P))
  pub directives : Directives P
  pub selections : SelectionTrees P

-- fragment name on type_condition @directives { selections }
pub record FragmentTree (P : Type 0) : Type 0 where
  pub name : Text P
  pub type_condition : Text P
  pub directives : Directives P
  pub selections : SelectionTrees P

abbrev pub variable_definition_tree : VariableDefinition → VariableDefinitionTree Place
variable_definition_tree v = record {
  name = name_tree v.name;
  ty = node_tree type_tree v.ty;
  default_value = option_map (node_tree value_tree) v.default_value;
  directives = directives_tree v.directives;
}

abbrev pub operation_tree : OperationDefinition → OperationTree Place
operation_tree o = record {
  operation_type = o.operation_type;
  name = option_map name_tree o.name;
  variables = map (node_tree variable_definition_tree) o.variables.items;
  directives = directives_tree o.directives;
  selections = selection_trees selection_tree o.selection_set.items;
}

abbrev pub fragment_tree : FragmentDefinition → FragmentTree Place
fragment_tree f = record {
  name = name_tree f.name;
  type_condition = name_tree f.type_condition;
  directives = directives_tree f.directives;
  selections = selection_trees selection_tree f.selection_set.items;
}

module _ {P : Type 0} where
  abbrev pub unplaced_variable_definition : VariableDefinitionTree P → VariableDefinitionTree (Unit {0})
  unplaced_variable_definition v = record {
    name = unplaced_text v.name;
    ty = unplaced_node unplaced_type v.ty;
    default_value = option_map (unplaced_node unplaced_value) v.default_value;
    directives = unplaced_directives v.directives;
  }

  abbrev pub unplaced_operation : OperationTree P → OperationTree (Unit {0})
  unplaced_operation o = record {
    operation_type = o.operation_type;
    name = option_map unplaced_text o.name;
    variables = map (unplaced_node unplaced_variable_definition) o.variables;
    directives = unplaced_directives o.directives;
    selections = unplaced_selections o.selections;
  }

  abbrev pub unplaced_fragment : FragmentTree P → FragmentTree (Unit {0})
  unplaced_fragment f = record {
    name = unplaced_text f.name;
    type_condition = unplaced_text f.type_condition;
    directives = unplaced_directives f.directives;
    selections = unplaced_selections f.selections;
  }
