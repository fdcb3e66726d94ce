-- Private: leads to `Derives` and `Says`. The parts of operations in memory, as trees of the grammar.
use Rattle.std.specs.Prelude.{◌≡◌, List, map, Option, Vec, Result, Ok, Err}
use Rattle.std.specs.Option.{option_map}
use Rattle.std.specs.declared.alloc.Global.{Global}
use Rattle.graphql_names.specs.declared.name.Name.{Name}
use Rattle.graphql_names.specs.declared.node.Node.{Node}
use Rattle.graphql_names.specs.Placed.{Placed, Place, Text, name_tree, node_tree}
use Rattle.tree_literals.specs.ValueTree.{ValueTree, value_tree}
use Rattle.tree_literals.specs.TypeTree.{TypeTree, type_tree}
use Rattle.tree_literals.specs.declared.value.Value.{Value}
use Rattle.tree_literals.specs.declared.ty.«Type».{«Type»}
use Rattle.tree_directives.specs.DirectiveTree.{Directives, argument_tree, directives_tree}
use Rattle.tree_directives.specs.declared.directive.Argument.{Argument}
use Rattle.tree_directives.specs.declared.directive.DirectiveList.{DirectiveList}
use Rattle.tree_operations.specs.SelectionTree.{SelectionTree, SelectionTrees, selection_tree, selection_trees}
use Rattle.tree_operations.specs.OperationTree.{VariableDefinitionTree, variable_definition_tree}
use Rattle.tree_operations.specs.declared.operation.VariableDefinition.{VariableDefinition}
use Rattle.tree_operations.specs.declared.selection.Selection.{Selection}
use Rattle.read_grammar.specs.declared.parse_error.ParseError.{ParseError}
use Rattle.read_grammar.specs.declared.parse_error.ParseError.TheVariants.{Memory}
use Rattle.read_operations.specs.SelectionSteps.{FieldRead, InlineRead, alias_view}

-- selections; a selection set, if there is one; variable definitions, if they are there
abbrev pub selections_view : Vec Selection Global → SelectionTrees Place
selections_view v = selection_trees selection_tree v.items

abbrev pub set_view : Option (Vec Selection Global) → Option (SelectionTrees Place)
set_view set = option_map selections_view set

abbrev pub variables_view : Option (Vec (Node VariableDefinition) Global) → Option (List (Placed Place (VariableDefinitionTree Place)))
variables_view variables = option_map (λ v. map (node_tree variable_definition_tree) v.items) variables

-- directives, if they are there, and selections
abbrev pub directives_and_set_view : Option DirectiveList × Vec Selection Global → Option (Directives Place) × SelectionTrees Place
directives_and_set_view x = (option_map directives_tree x.0, selection_trees selection_tree x.1.items)

-- what comes before the selections of a field, and of an inline fragment
abbrev pub field_head_view : (Option Name × Name) × (Option (Vec (Node Argument) Global) × Option DirectiveList) → FieldRead Place
field_head_view x = (alias_view x.0, (option_map (λ v. map (node_tree argument_tree) v.items) x.1.0, option_map directives_tree x.1.1))

abbrev pub inline_head_view : Option Name × Option DirectiveList → InlineRead Place
inline_head_view x = (option_map name_tree x.0, option_map directives_tree x.1)

-- the answer is a selection made of what was read, or `Memory`; if the reading stopped, the answer is the same stop
abbrev pub Ends : {X A : Type 0} → (X → A) → (A → SelectionTree Place) → Result X ParseError → Result Selection ParseError → Type 0
Ends view whole (Ok x) (Ok s) = selection_tree s ≡ whole (view x)
Ends view whole (Ok x) (Err e) = e ≡ Memory
Ends view whole (Err stop) (Ok s) = ⊥
Ends view whole (Err stop) (Err e) = e ≡ stop

-- what comes after the name of an operation, and after that of a fragment
abbrev pub variables_and_set_view : Option (Vec (Node VariableDefinition) Global) × (Option DirectiveList × Vec Selection Global) → Option (List (Placed Place (VariableDefinitionTree Place))) × (Option (Directives Place) × SelectionTrees Place)
variables_and_set_view x = (variables_view x.0, directives_and_set_view x.1)

abbrev pub condition_and_set_view : Name × (Option DirectiveList × Vec Selection Global) → Text Place × (Option (Directives Place) × SelectionTrees Place)
condition_and_set_view x = (name_tree x.0, directives_and_set_view x.1)

-- what comes after the colon of a variable definition
abbrev pub type_and_default_view : Node «Type» × (Option (Node Value) × Option DirectiveList) → Placed Place (TypeTree Place) × (Option (Placed Place (ValueTree Place)) × Option (Directives Place))
type_and_default_view x = (node_tree type_tree x.0, (option_map (node_tree value_tree) x.1.0, option_map directives_tree x.1.1))
