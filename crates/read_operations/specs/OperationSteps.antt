-- Private: leads to `Derives` and `Says`. How parts of operations, fragments and variable definitions are read.
use Rattle.std.specs.Prelude.{ℕ, List, Option}
use Rattle.graphql_names.specs.Placed.{Placed, Text}
use Rattle.tree_literals.specs.ValueTree.{ValueTree}
use Rattle.tree_literals.specs.TypeTree.{TypeTree}
use Rattle.tree_directives.specs.DirectiveTree.{Directives}
use Rattle.tree_operations.specs.SelectionTree.{SelectionTrees}
use Rattle.tree_operations.specs.OperationTree.{VariableDefinitionTree, OperationTree}
use Rattle.read_grammar.specs.Meaning.{Meaning}
use Rattle.read_grammar.specs.Kinds.{is_name, is_at, is_dollar, is_equals, is_open_paren}
use Rattle.read_grammar.specs.OperationGrammar.{short_of, operation_of}
use Rattle.read_grammar.specs.OperationReading.{operation_type, type_condition, variable_definition, variable_definitions, selection_set}
use Rattle.read_grammar.specs.Reading.{Parser, some, try, placed, ◌⊙◌, ◌<&>◌}
use Rattle.read_grammar.specs.ValueGrammar.{constant, with_variables}
use Rattle.read_grammar.specs.ValueReading.{name, default_value, directives, type}

module _ {P : Type 0} (m : Meaning P) where
  -- a query that is written as its selection set only
  abbrev pub short_operation : ℕ → Parser (OperationTree P)
  short_operation n = short_of <&> selection_set m n

  -- an operation with its type
  abbrev pub full_operation : ℕ → Parser (OperationTree P)
  full_operation n = operation_of <&> operation_type ⊙ try is_name (name m) ⊙ try is_open_paren (variable_definitions m n) ⊙ try is_at (directives m with_variables n) ⊙ selection_set m n

  -- what follows the type and name of an operation: VariableDefinitions? Directives? SelectionSet
  abbrev pub variables_and_set : ℕ → Parser (Option (List (Placed P (VariableDefinitionTree P))) × (Option (Directives P) × SelectionTrees P))
  variables_and_set n = try is_open_paren (variable_definitions m n) ⊙ try is_at (directives m with_variables n) ⊙ selection_set m n

  -- what follows the name of a fragment: TypeCondition Directives? SelectionSet
  abbrev pub condition_and_set : ℕ → Parser (Text P × (Option (Directives P) × SelectionTrees P))
  condition_and_set n = type_condition m ⊙ try is_at (directives m with_variables n) ⊙ selection_set m n

  -- what follows the colon of a variable definition: Type DefaultValue? Directives[Const]?
  abbrev pub type_and_default : ℕ → Parser (Placed P (TypeTree P) × (Option (Placed P (ValueTree P)) × Option (Directives P)))
  type_and_default n = placed m (type m n) ⊙ try is_equals (default_value m n) ⊙ try is_at (directives m constant n)

  -- VariableDefinitions?
  abbrev pub optional_variables : ℕ → Parser (Option (List (Placed P (VariableDefinitionTree P))))
  optional_variables n = try is_open_paren (variable_definitions m n)

  -- a variable definition with its place, and a list of them without its parentheses
  abbrev pub placed_variable : ℕ → Parser (Placed P (VariableDefinitionTree P))
  placed_variable n = placed m (variable_definition m n)

  abbrev pub some_variables : ℕ → Parser (List (Placed P (VariableDefinitionTree P)))
  some_variables n = some is_dollar (placed_variable n)
