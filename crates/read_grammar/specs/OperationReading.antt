-- Private: leads to `Derives` and `Says`. How selections, operations and fragments are read.
use Rattle.std.specs.Prelude.{ℕ, zero, suc, List, Option, Some, None, ◌⊎◌}
use Rattle.std.proofs.Common.{inl, inr}
use Rattle.graphql_names.specs.Placed.{Placed, Text}
use Rattle.graphql_ast.specs.in_directives.DirectiveTree.{Directives}
use Rattle.graphql_ast.specs.in_operations.SelectionTree.{SelectionTree, SelectionTrees}
use Rattle.graphql_ast.specs.in_operations.OperationTree.{VariableDefinitionTree, OperationTree, FragmentTree}
use Rattle.graphql_ast.specs.in_directives.declared.operation_type.OperationType.{OperationType}
use Rattle.graphql_ast.specs.in_directives.declared.operation_type.OperationType.TheVariants.{Query, Mutation, Subscription}
use Rattle.read_grammar.specs.Meaning.{Meaning, name_of}
use Rattle.read_grammar.specs.Kinds.{is_name, is_fragment_name, is_colon, is_spread, is_on, is_at, is_equals, is_dollar, is_fragment, is_query, is_mutation, is_subscription, is_open_brace, is_close_brace, is_open_paren, is_close_paren}
use Rattle.read_grammar.specs.Begins.{begins_selection}
use Rattle.read_grammar.specs.ValueGrammar.{constant, with_variables}
use Rattle.read_grammar.specs.OperationGrammar.{selections_of, field_of, spread_of, inline_of, variable_definition_of, short_of, operation_of, fragment_of}
use Rattle.read_grammar.specs.Reading.{Parser, and_then, pure, take, mark, when, try, refuse, too_deep, some, placed, between, ◌⊙◌, ◌<&>◌}
use Rattle.read_grammar.specs.ValueReading.{name, variable, default_value, arguments, directives, type}

unfoldable pub operation_type : Parser OperationType
operation_type =
    when is_query ((λ _. Query) <&> mark is_query)
    (when is_mutation ((λ _. Mutation) <&> mark is_mutation)
    (when is_subscription ((λ _. Subscription) <&> mark is_subscription) refuse))

-- what follows `...`
abbrev pub Dotted : Type 0 → Type 0
Dotted P = (Text P × Option (Directives P)) ⊎ (Option (Text P) × (Option (Directives P) × SelectionTrees P))

module _ {P : Type 0} where
  abbrev pub dotted_at : P → Dotted P → SelectionTree P
  dotted_at p (inl x) = spread_of (record { it = (tt, x); place = p })
  dotted_at p (inr x) = inline_of (record { it = (tt, x); place = p })

  abbrev pub dotted_of : Placed P (Unit {0} × Dotted P) → SelectionTree P
  dotted_of x = dotted_at x.place x.it.1

module _ {P : Type 0} (m : Meaning P) where
  -- a name; or, if a colon follows it, an alias and a name
  unfoldable pub alias_and_name : Parser (Option (Text P) × Text P)
  alias_and_name i = and_then (name m i) (λ first. when is_colon ((λ x. (Some first, x.1)) <&> mark is_colon ⊙ name m) (pure (None, first)))

  unfoldable pub field : ℕ → Parser (SelectionTrees P) → Parser (SelectionTree P)
  field n selection_set =
      field_of
      <&> placed m
      ((λ x. (x.0.0, (x.0.1, x.1)))
      <&> alias_and_name ⊙ try is_open_paren (arguments m with_variables n) ⊙ try is_at (directives m with_variables n) ⊙ try is_open_brace selection_set)

  unfoldable pub fragment_name : Parser (Text P)
  fragment_name = name_of m <&> take is_fragment_name

  unfoldable pub type_condition : Parser (Text P)
  type_condition = (λ x. x.1) <&> mark is_on ⊙ name m

  unfoldable pub dotted : ℕ → Parser (SelectionTrees P) → Parser (Dotted P)
  dotted n selection_set =
      when is_fragment_name (inl <&> fragment_name ⊙ try is_at (directives m with_variables n))
      (inr <&> try is_on type_condition ⊙ try is_at (directives m with_variables n) ⊙ selection_set)

  unfoldable pub selection : ℕ → Parser (SelectionTrees P) → Parser (SelectionTree P)
  selection n selection_set = when is_name (field n selection_set) (dotted_of <&> placed m (mark is_spread ⊙ dotted n selection_set))

  unfoldable pub selection_list : ℕ → Parser (SelectionTrees P) → Parser (SelectionTrees P)
  selection_list n selection_set = selections_of <&> some begins_selection (selection n selection_set)

  unfoldable pub selection_set : ℕ → Parser (SelectionTrees P)
  selection_set zero = when is_open_brace too_deep refuse
  selection_set (suc n) = between is_open_brace (selection_list n (selection_set n)) is_close_brace

  unfoldable pub selections : ℕ → Parser (SelectionTrees P)
  selections n = selection_list n (selection_set n)

  unfoldable pub variable_definition : ℕ → Parser (VariableDefinitionTree P)
  variable_definition n =
      variable_definition_of <&> variable m ⊙ mark is_colon ⊙ placed m (type m n) ⊙ try is_equals (default_value m n) ⊙ try is_at (directives m constant n)

  unfoldable pub variable_definitions : ℕ → Parser (List (Placed P (VariableDefinitionTree P)))
  variable_definitions zero = when is_open_paren too_deep refuse
  variable_definitions (suc n) = between is_open_paren (some is_dollar (placed m (variable_definition n))) is_close_paren

  unfoldable pub operation_definition : ℕ → Parser (OperationTree P)
  operation_definition n =
      when is_open_brace (short_of <&> selection_set n)
      (operation_of <&> operation_type ⊙ try is_name (name m) ⊙ try is_open_paren (variable_definitions n) ⊙ try is_at (directives m with_variables n) ⊙ selection_set n)

  unfoldable pub fragment_definition : ℕ → Parser (FragmentTree P)
  fragment_definition n =
      fragment_of <&> mark is_fragment ⊙ fragment_name ⊙ type_condition ⊙ try is_at (directives m with_variables n) ⊙ selection_set n
