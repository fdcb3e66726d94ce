-- Selections, operations and fragments are read alike.
use Rattle.std.proofs.Common.{◌≡◌, ℕ, zero, suc, List, [], ◌∷◌, map, refl, ap}
use Rattle.graphql_names.specs.Placed.{unplaced_text, unplaced_node}
use Rattle.tree_operations.specs.SelectionTree.{SelectionTree, SelectionTrees, no_selections, selection_then, unplaced_selection, unplaced_selections}
use Rattle.tree_operations.specs.OperationTree.{unplaced_variable_definition, unplaced_operation, unplaced_fragment}
use Rattle.read_tokens.specs.Input.{Token}
use Rattle.read_grammar.specs.Meaning.{Meaning}
use Rattle.read_grammar.specs.Kinds.{is_fragment_name, is_colon, is_spread, is_on, is_fragment, is_open_brace, is_close_brace, is_open_paren, is_close_paren}
use Rattle.read_grammar.specs.Rules.{Rule}
use Rattle.read_grammar.specs.ValueGrammar.{constant, with_variables}
use Rattle.read_grammar.specs.OperationGrammar as g
use Rattle.read_grammar.specs.OperationGrammar.{selections_of, field_of, spread_of, inline_of, variable_definition_of, short_of, operation_of, fragment_of}
use Rattle.verdict_laws.proofs.Alike.{Alike, fixed, skipped, made, seq, choice, never, maybe, maybe_or, one_or_more, enclosed, following, located}
use Rattle.verdict_laws.proofs.ValuesAlike.{named, name_alike, variable_alike, default_alike, arguments_alike, directives_alike, type_alike}

selections_same : {P : Type 0} (xs : List (SelectionTree P)) → unplaced_selections (selections_of xs) ≡ selections_of (map unplaced_selection xs)
selections_same [] = refl
selections_same (x ∷ xs) = ap (selection_then (unplaced_selection x)) (selections_same xs)

module _ {P : Type 0} (string : Token → List ℕ) (at other : ℕ → ℕ → P) where
  abbrev m : Meaning P
  m = record { place = at; string = string }

  abbrev k : Meaning P
  k = record { place = other; string = string }

  alias_alike : Alike (g.alias m) (g.alias k) unplaced_text
  alias_alike = made (λ x. x.0) (seq (name_alike string at other) (skipped is_colon)) (λ x. x.0) (λ x. refl)

  condition_alike : Alike (g.type_condition m) (g.type_condition k) unplaced_text
  condition_alike = following (name_alike string at other) is_on

  fragment_name_alike : Alike (g.fragment_name m) (g.fragment_name k) unplaced_text
  fragment_name_alike = named string at other is_fragment_name

  field_alike : (n : ℕ) {r s : Rule (SelectionTrees P)} → Alike r s unplaced_selections → Alike (g.field m n r) (g.field k n s) unplaced_selection
  unfolding g.field
  field_alike n rr =
      made field_of (located (seq (maybe alias_alike) (seq (name_alike string at other) (seq (maybe_or [] (arguments_alike string at other with_variables n))
      (seq (maybe_or [] (directives_alike string at other with_variables n)) (maybe_or no_selections rr))))) m k) field_of (λ x. refl)

  spread_alike : (n : ℕ) → Alike (g.fragment_spread m n) (g.fragment_spread k n) unplaced_selection
  unfolding g.fragment_spread
  spread_alike n = made spread_of (located (seq (skipped is_spread) (seq fragment_name_alike (maybe_or [] (directives_alike string at other with_variables n)))) m k) spread_of (λ x. refl)

  inline_alike : (n : ℕ) {r s : Rule (SelectionTrees P)} → Alike r s unplaced_selections → Alike (g.inline_fragment m n r) (g.inline_fragment k n s) unplaced_selection
  unfolding g.inline_fragment
  inline_alike n rr =
      made inline_of (located (seq (skipped is_spread) (seq (maybe condition_alike) (seq (maybe_or [] (directives_alike string at other with_variables n)) rr))) m k) inline_of (λ x. refl)

  selection_alike : (n : ℕ) {r s : Rule (SelectionTrees P)} → Alike r s unplaced_selections → Alike (g.selection m n r) (g.selection k n s) unplaced_selection
  unfolding g.selection
  selection_alike n rr = choice (field_alike n rr) (choice (spread_alike n) (inline_alike n rr))

  list_alike : (n : ℕ) {r s : Rule (SelectionTrees P)} → Alike r s unplaced_selections → Alike (g.selection_list m n r) (g.selection_list k n s) unplaced_selections
  unfolding g.selection_list
  list_alike n rr = made selections_of (one_or_more (selection_alike n rr)) selections_of selections_same

  set_alike : (n : ℕ) → Alike (g.selection_set m n) (g.selection_set k n) unplaced_selections
  unfolding g.selection_set
  set_alike zero = never
  set_alike (suc n) = enclosed (list_alike n (set_alike n)) is_open_brace is_close_brace

  variable_definition_alike : (n : ℕ) → Alike (g.variable_definition m n) (g.variable_definition k n) unplaced_variable_definition
  unfolding g.variable_definition
  variable_definition_alike n =
      made variable_definition_of (seq (variable_alike string at other) (seq (skipped is_colon) (seq (located (type_alike string at other n) m k)
      (seq (maybe (default_alike string at other n)) (maybe_or [] (directives_alike string at other constant n)))))) variable_definition_of (λ x. refl)

  variables_alike : (n : ℕ) → Alike (g.variable_definitions m n) (g.variable_definitions k n) (map (unplaced_node unplaced_variable_definition))
  unfolding g.variable_definitions
  variables_alike zero = never
  variables_alike (suc n) = enclosed (one_or_more (located (variable_definition_alike n) m k)) is_open_paren is_close_paren

  pub operation_alike : (n : ℕ) → Alike (g.operation_definition m n) (g.operation_definition k n) unplaced_operation
  unfolding g.operation_definition
  operation_alike n =
      choice (made short_of (set_alike n) short_of (λ x. refl))
      (made operation_of (seq (fixed g.operation_type (λ x. x)) (seq (maybe (name_alike string at other)) (seq (maybe_or [] (variables_alike n))
      (seq (maybe_or [] (directives_alike string at other with_variables n)) (set_alike n))))) operation_of (λ x. refl))

  pub fragment_alike : (n : ℕ) → Alike (g.fragment_definition m n) (g.fragment_definition k n) unplaced_fragment
  unfolding g.fragment_definition
  fragment_alike n =
      made fragment_of (seq (skipped is_fragment) (seq fragment_name_alike (seq condition_alike (seq (maybe_or [] (directives_alike string at other with_variables n)) (set_alike n))))) fragment_of (λ x. refl)
