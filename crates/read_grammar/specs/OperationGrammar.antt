-- The grammar of selections, operations and fragments (GraphQL, October 2021, appendix B): a rule for each symbol.
use Rattle.std.specs.Prelude.{ℕ, zero, suc, List, [], ◌∷◌, Option, None, unwrap_or}
use Rattle.graphql_names.specs.Placed.{Placed, Text}
use Rattle.graphql_ast.specs.in_literals.ValueTree.{ValueTree}
use Rattle.graphql_ast.specs.in_literals.TypeTree.{TypeTree}
use Rattle.graphql_ast.specs.in_directives.DirectiveTree.{Arguments, Directives}
use Rattle.graphql_ast.specs.in_operations.SelectionTree.{SelectionTree, SelectionTrees, FieldTree, SpreadTree, InlineTree, no_selections, selection_then}
use Rattle.graphql_ast.specs.in_operations.OperationTree.{VariableDefinitionTree, OperationTree, FragmentTree}
use Rattle.graphql_ast.specs.in_directives.declared.operation_type.OperationType.{OperationType}
use Rattle.graphql_ast.specs.in_directives.declared.operation_type.OperationType.TheVariants.{Query, Mutation, Subscription}
use Rattle.read_grammar.specs.Meaning.{Meaning, name_of}
use Rattle.read_grammar.specs.Kinds.{is_fragment_name, is_colon, is_spread, is_on, is_fragment, is_query, is_mutation, is_subscription, is_open_brace, is_close_brace, is_open_paren, is_close_paren}
use Rattle.read_grammar.specs.Rules.{Rule, one, mark, ◌·◌, ◌<$>◌, ◌∣◌, nothing, optional, some, between, placed}
use Rattle.read_grammar.specs.ValueGrammar.{constant, with_variables, name, variable, default_value, arguments, directives, type}

-- ---- the trees that the rules build

module _ {P : Type 0} where
  abbrev pub selections_of : List (SelectionTree P) → SelectionTrees P
  selections_of [] = no_selections
  selections_of (x ∷ xs) = selection_then x (selections_of xs)

  abbrev pub field_of : Placed P (Option (Text P) × (Text P × (Option (Arguments P) × (Option (Directives P) × Option (SelectionTrees P))))) → SelectionTree P
  field_of x = FieldTree x.place (record {
    alias = x.it.0;
    name = x.it.1.0;
    arguments = unwrap_or x.it.1.1.0 [];
    directives = unwrap_or x.it.1.1.1.0 [];
  }) (unwrap_or x.it.1.1.1.1 no_selections)

  abbrev pub spread_of : Placed P (Unit {0} × (Text P × Option (Directives P))) → SelectionTree P
  spread_of x = SpreadTree x.place x.it.1.0 (unwrap_or x.it.1.1 [])

  abbrev pub inline_of : Placed P (Unit {0} × (Option (Text P) × (Option (Directives P) × SelectionTrees P))) → SelectionTree P
  inline_of x = InlineTree x.place x.it.1.0 (unwrap_or x.it.1.1.0 []) x.it.1.1.1

  abbrev pub variable_definition_of : Text P × (Unit {0} × (Placed P (TypeTree P) × (Option (Placed P (ValueTree P)) × Option (Directives P)))) → VariableDefinitionTree P
  variable_definition_of x = record { name = x.0; ty = x.1.1.0; default_value = x.1.1.1.0; directives = unwrap_or x.1.1.1.1 [] }

  -- a query that is written as its selection set only
  abbrev pub short_of : SelectionTrees P → OperationTree P
  short_of selections = record { operation_type = Query; name = None; variables = []; directives = []; selections = selections }

  abbrev pub operation_of : OperationType × (Option (Text P) × (Option (List (Placed P (VariableDefinitionTree P))) × (Option (Directives P) × SelectionTrees P))) → OperationTree P
  operation_of x = record {
    operation_type = x.0;
    name = x.1.0;
    variables = unwrap_or x.1.1.0 [];
    directives = unwrap_or x.1.1.1.0 [];
    selections = x.1.1.1.1;
  }

  abbrev pub fragment_of : Unit {0} × (Text P × (Text P × (Option (Directives P) × SelectionTrees P))) → FragmentTree P
  fragment_of x = record { name = x.1.0; type_condition = x.1.1.0; directives = unwrap_or x.1.1.1.0 []; selections = x.1.1.1.1 }

-- OperationType: "query" / "mutation" / "subscription"
unfoldable pub operation_type : Rule OperationType
operation_type = (λ _. Query) <$> mark is_query ∣ (λ _. Mutation) <$> mark is_mutation ∣ (λ _. Subscription) <$> mark is_subscription

module _ {P : Type 0} (m : Meaning P) where
  -- Alias: Name ":"
  abbrev pub alias : Rule (Text P)
  alias = (λ x. x.0) <$> name m · mark is_colon

  -- Field: Alias? Name Arguments? Directives? SelectionSet?
  unfoldable pub field : ℕ → Rule (SelectionTrees P) → Rule (SelectionTree P)
  field n selection_set =
      field_of <$> placed m (optional alias · name m · optional (arguments m with_variables n) · optional (directives m with_variables n) · optional selection_set)

  -- FragmentName: Name but not "on"
  abbrev pub fragment_name : Rule (Text P)
  fragment_name = name_of m <$> one is_fragment_name

  -- TypeCondition: "on" Name
  abbrev pub type_condition : Rule (Text P)
  type_condition = (λ x. x.1) <$> mark is_on · name m

  -- FragmentSpread: "..." FragmentName Directives?
  unfoldable pub fragment_spread : ℕ → Rule (SelectionTree P)
  fragment_spread n = spread_of <$> placed m (mark is_spread · fragment_name · optional (directives m with_variables n))

  -- InlineFragment: "..." TypeCondition? Directives? SelectionSet
  unfoldable pub inline_fragment : ℕ → Rule (SelectionTrees P) → Rule (SelectionTree P)
  inline_fragment n selection_set = inline_of <$> placed m (mark is_spread · optional type_condition · optional (directives m with_variables n) · selection_set)

  -- Selection: Field / FragmentSpread / InlineFragment
  unfoldable pub selection : ℕ → Rule (SelectionTrees P) → Rule (SelectionTree P)
  selection n selection_set = field n selection_set ∣ fragment_spread n ∣ inline_fragment n selection_set

  -- Selection+
  unfoldable pub selection_list : ℕ → Rule (SelectionTrees P) → Rule (SelectionTrees P)
  selection_list n selection_set = selections_of <$> some (selection n selection_set)

  -- SelectionSet: "{" Selection+ "}"
  unfoldable pub selection_set : ℕ → Rule (SelectionTrees P)
  selection_set zero = nothing
  selection_set (suc n) = between is_open_brace (selection_list n (selection_set n)) is_close_brace

  -- Selection+, without braces
  unfoldable pub selections : ℕ → Rule (SelectionTrees P)
  selections n = selection_list n (selection_set n)

  -- VariableDefinition: Variable ":" Type DefaultValue? Directives[Const]?
  unfoldable pub variable_definition : ℕ → Rule (VariableDefinitionTree P)
  variable_definition n =
      variable_definition_of <$> variable m · mark is_colon · placed m (type m n) · optional (default_value m n) · optional (directives m constant n)

  -- VariableDefinitions: "(" VariableDefinition+ ")"
  unfoldable pub variable_definitions : ℕ → Rule (List (Placed P (VariableDefinitionTree P)))
  variable_definitions zero = nothing
  variable_definitions (suc n) = between is_open_paren (some (placed m (variable_definition n))) is_close_paren

  -- OperationDefinition: SelectionSet / OperationType Name? VariableDefinitions? Directives? SelectionSet
  unfoldable pub operation_definition : ℕ → Rule (OperationTree P)
  operation_definition n =
      short_of <$> selection_set n
      ∣ operation_of <$> operation_type · optional (name m) · optional (variable_definitions n) · optional (directives m with_variables n) · selection_set n

  -- FragmentDefinition: "fragment" FragmentName TypeCondition Directives? SelectionSet
  unfoldable pub fragment_definition : ℕ → Rule (FragmentTree P)
  fragment_definition n =
      fragment_of <$> mark is_fragment · fragment_name · type_condition · optional (directives m with_variables n) · selection_set n
