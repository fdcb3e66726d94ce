-- `==` of operations, fragments and variables' definitions says whether their trees are the same, apart from places.
use Rattle.std.proofs.Common.{◌≡◌, Bool, ap}
use Rattle.std.specs.Bool.{Decides}
use denote.Enum.Bare.{same_true, true_same}
use Rattle.tree_directives.specs.in_literals.in_names.Placed.{name_tree, unplaced_text}
use Rattle.tree_directives.specs.in_literals.TypeTree.{type_tree, unplaced_type}
use Rattle.tree_directives.specs.in_literals.ValueTree.{value_tree, unplaced_value}
use Rattle.tree_operations.specs.OperationTree.{VariableDefinitionTree, OperationTree, FragmentTree, variable_definition_tree, operation_tree, fragment_tree, unplaced_variable_definition, unplaced_operation, unplaced_fragment}
use Rattle.tree_operations.proofs.Decided.{through, pair_decides, name_decides, node_decides, nodes_decide, options_decide}
use Rattle.tree_operations.proofs.TypeEquality.{type_eq, type_eq-Decides}
use Rattle.tree_operations.proofs.ValueEquality.{value_eq, value_eq-Decides}
use Rattle.tree_operations.proofs.DirectiveEquality.{directive_list_eq-Decides}
use Rattle.tree_operations.proofs.SelectionEquality.{selections_decide}
use Rattle.tree_directives.specs.declared.operation_type.OperationType.{OperationType}
use Rattle.tree_operations.specs.declared.operation.VariableDefinition.{VariableDefinition}
use Rattle.tree_operations.specs.declared.operation.OperationDefinition.{OperationDefinition}
use Rattle.tree_operations.specs.declared.operation.FragmentDefinition.{FragmentDefinition}
use Rattle.tree_directives.specs.contracts.operation_type.OperationType.{the_type}
use Rattle.tree_directives.specs.contracts.operation_type.OperationTypePartialEq.TheImpl as operation_type
use Rattle.tree_operations.specs.contracts.operation.VariableDefinitionPartialEq.TheImpl as variable
use Rattle.tree_operations.specs.contracts.operation.OperationDefinitionPartialEq.TheImpl as operation
use Rattle.tree_operations.specs.contracts.operation.FragmentDefinitionPartialEq.TheImpl as fragment

abbrev pub operation_type_eq : OperationType → OperationType → Bool
operation_type_eq = operation_type.ghosts.eq

abbrev pub variable_definition_eq : VariableDefinition → VariableDefinition → Bool
variable_definition_eq = variable.ghosts.eq

abbrev pub operation_eq : OperationDefinition → OperationDefinition → Bool
operation_eq = operation.ghosts.eq

abbrev pub fragment_eq : FragmentDefinition → FragmentDefinition → Bool
fragment_eq = fragment.ghosts.eq

pub operation_type_eq-Decides : (a b : OperationType) → Decides (operation_type_eq a b) (a ≡ b)
operation_type_eq-Decides a b = (same_true the_type tt a b, true_same the_type a b)

pub variable_definition_eq-Decides : (a b : VariableDefinition) → Decides (variable_definition_eq a b) (unplaced_variable_definition (variable_definition_tree a) ≡ unplaced_variable_definition (variable_definition_tree b))
variable_definition_eq-Decides a b =
    through
    (pair_decides _ _ (name_decides a.name b.name)
    (pair_decides _ _ (node_decides type_eq unplaced_type type_tree type_eq-Decides a.ty b.ty)
    (pair_decides _ _ (options_decide _ _ _ (node_decides value_eq unplaced_value value_tree value_eq-Decides) a.default_value b.default_value)
    (directive_list_eq-Decides a.directives b.directives))))
    (λ s i. record { name = s.0 i; ty = s.1.0 i; default_value = s.1.1.0 i; directives = s.1.1.1 i })
    (λ r. (ap (λ (t : VariableDefinitionTree (Unit {0})). t.name) r, (ap (λ (t : VariableDefinitionTree (Unit {0})). t.ty) r, (ap (λ (t : VariableDefinitionTree (Unit {0})). t.default_value) r, ap (λ (t : VariableDefinitionTree (Unit {0})). t.directives) r))))

pub operation_eq-Decides : (a b : OperationDefinition) → Decides (operation_eq a b) (unplaced_operation (operation_tree a) ≡ unplaced_operation (operation_tree b))
operation_eq-Decides a b =
    through
    (pair_decides _ _ (operation_type_eq-Decides a.operation_type b.operation_type)
    (pair_decides _ _ (options_decide _ unplaced_text name_tree name_decides a.name b.name)
    (pair_decides _ _ (nodes_decide variable_definition_eq unplaced_variable_definition variable_definition_tree variable_definition_eq-Decides a.variables.items b.variables.items)
    (pair_decides _ _ (directive_list_eq-Decides a.directives b.directives)
    (selections_decide a.selection_set.items b.selection_set.items)))))
    (λ s i. record { operation_type = s.0 i; name = s.1.0 i; variables = s.1.1.0 i; directives = s.1.1.1.0 i; selections = s.1.1.1.1 i })
    (λ r. (ap (λ (t : OperationTree (Unit {0})). t.operation_type) r, (ap (λ (t : OperationTree (Unit {0})). t.name) r, (ap (λ (t : OperationTree (Unit {0})). t.variables) r, (ap (λ (t : OperationTree (Unit {0})). t.directives) r, ap (λ (t : OperationTree (Unit {0})). t.selections) r)))))

pub fragment_eq-Decides : (a b : FragmentDefinition) → Decides (fragment_eq a b) (unplaced_fragment (fragment_tree a) ≡ unplaced_fragment (fragment_tree b))
fragment_eq-Decides a b =
    through
    (pair_decides _ _ (name_decides a.name b.name)
    (pair_decides _ _ (name_decides a.type_condition b.type_condition)
    (pair_decides _ _ (directive_list_eq-Decides a.directives b.directives)
    (selections_decide a.selection_set.items b.selection_set.items))))
    (λ s i. record { name = s.0 i; type_condition = s.1.0 i; directives = s.1.1.0 i; selections = s.1.1.1 i })
    (λ r. (ap (λ (t : FragmentTree (Unit {0})). t.name) r, (ap (λ (t : FragmentTree (Unit {0})). t.type_condition) r, (ap (λ (t : FragmentTree (Unit {0})). t.directives) r, ap (λ (t : FragmentTree (Unit {0})). t.selections) r))))
