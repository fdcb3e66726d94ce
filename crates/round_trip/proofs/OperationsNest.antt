-- How deep selections, operations and fragments nest, by the grammar.
use Rattle.std.proofs.Common.{◌≡◌, ℕ, zero, suc, max, List, [], ◌∷◌, refl, sym, ap, ◌∙◌, arith}
use Rattle.read_operations.specs.in_operations.SelectionTree.{SelectionTree, SelectionTrees, no_selections}
use Rattle.read_operations.specs.in_tokens.Input.{Input}
use Rattle.read_operations.specs.in_grammar.Meaning.{Meaning, name_of}
use Rattle.read_operations.specs.in_grammar.Kinds.{is_fragment_name, is_colon, is_spread, is_on, is_fragment, is_query, is_mutation, is_subscription, is_open_brace, is_close_brace, is_open_paren, is_close_paren}
use Rattle.read_operations.specs.in_grammar.Rules.{Rule, some}
use Rattle.read_operations.specs.in_grammar.ValueGrammar.{constant, with_variables}
use Rattle.read_operations.specs.in_grammar.OperationGrammar as g
use Rattle.read_operations.specs.in_grammar.OperationGrammar.{selections_of, field_of, spread_of, inline_of, variable_definition_of, short_of, operation_of, fragment_of}
use Rattle.round_trip.specs.TreeDepth.{deepest, selection_depth, selections_depth, set_depth, variable_depth, variables_depth, operation_depth, fragment_depth}
use Rattle.round_trip.proofs.Nests.{Nests, Flat, token, flat, mapped, both, skip, choice, never, maybe, maybe_or, maybe_flat, located, one_or_more, enclosed_by, enclosed_some}
use Rattle.round_trip.proofs.ValuesNest.{name_flat, variable_flat, default_nests, arguments_nests, directives_nests, type_nests}

pub operation_type_flat : Flat g.operation_type
unfolding g.operation_type
operation_type_flat = choice (mapped (λ _. _) (flat is_query refl) (λ x. refl)) (choice (mapped (λ _. _) (flat is_mutation refl) (λ x. refl)) (mapped (λ _. _) (flat is_subscription refl) (λ x. refl)))

module _ {P : Type 0} (m : Meaning P) where
  alias_flat : Flat (g.alias m)
  alias_flat = mapped (λ x. x.0) (skip (name_flat m) (flat is_colon refl)) (λ x. refl)

  condition_flat : Flat (g.type_condition m)
  condition_flat = mapped (λ x. x.1) (skip (flat is_on refl) (name_flat m)) (λ x. refl)

  fragment_name_flat : Flat (g.fragment_name m)
  fragment_name_flat = mapped (name_of m) (token is_fragment_name refl) (λ x. refl)

  field_nests : (n : ℕ) {set : Rule (SelectionTrees P)} → Nests set set_depth → Nests (g.field m n set) selection_depth
  unfolding g.field
  field_nests n s = mapped field_of (located m (skip (maybe_flat alias_flat) (skip (name_flat m) (both (maybe_or [] refl (arguments_nests m with_variables n)) (both (maybe_or [] refl (directives_nests m with_variables n)) (maybe_or no_selections refl s)))))) (λ x. refl)

  spread_nests : (n : ℕ) → Nests (g.fragment_spread m n) selection_depth
  unfolding g.fragment_spread
  spread_nests n = mapped spread_of (located m (skip (flat is_spread refl) (skip fragment_name_flat (maybe_or [] refl (directives_nests m with_variables n))))) (λ x. refl)

  inline_nests : (n : ℕ) {set : Rule (SelectionTrees P)} → Nests set set_depth → Nests (g.inline_fragment m n set) selection_depth
  unfolding g.inline_fragment
  inline_nests n s = mapped inline_of (located m (skip (flat is_spread refl) (skip (maybe_flat condition_flat) (both (maybe_or [] refl (directives_nests m with_variables n)) s)))) (λ x. refl)

  selection_nests : (n : ℕ) {set : Rule (SelectionTrees P)} → Nests set set_depth → Nests (g.selection m n set) selection_depth
  unfolding g.selection
  selection_nests n s = choice (field_nests n s) (choice (spread_nests n) (inline_nests n s))

  selections_same : (xs : List (SelectionTree P)) → deepest selection_depth xs ≡ selections_depth (selections_of xs)
  selections_same [] = refl
  selections_same (x ∷ xs) = ap (max (selection_depth x)) (selections_same xs)

  selection_list_nests : (n : ℕ) {set : Rule (SelectionTrees P)} → Nests set set_depth → Nests (g.selection_list m n set) selections_depth
  unfolding g.selection_list
  selection_list_nests n s = mapped selections_of (one_or_more (selection_nests n s)) selections_same

  -- a list of selections is not empty
  braced : (n : ℕ) (set : Rule (SelectionTrees P)) (i : Input) (ts : SelectionTrees P) (o : Input) → g.selection_list m n set i ts o → suc (selections_depth ts) ≡ set_depth ts
  unfolding g.selection_list
  braced n set i ts o h = ap (λ us. suc (selections_depth us)) h.2 ∙ by_case h.0 h.1 ∙ ap set_depth (sym h.2)
    where
      by_case : (xs : List (SelectionTree P)) → some (g.selection m n set) i xs o → suc (selections_depth (selections_of xs)) ≡ set_depth (selections_of xs)
      by_case [] k = absurd k
      by_case (x ∷ xs) k = refl

  set_nests : (n : ℕ) → Nests (g.selection_set m n) set_depth
  unfolding g.selection_set
  set_nests zero = never
  set_nests (suc n) = enclosed_by is_open_brace is_close_brace refl refl (selection_list_nests n (set_nests n)) (braced n (g.selection_set m n))

  pub selections_nests : (n : ℕ) → Nests (g.selections m n) selections_depth
  unfolding g.selections
  selections_nests n = selection_list_nests n (set_nests n)

  variable_nests : (n : ℕ) → Nests (g.variable_definition m n) variable_depth
  unfolding g.variable_definition
  variable_nests n = mapped variable_definition_of (skip (variable_flat m) (skip (flat is_colon refl) (both (located m (type_nests m n)) (both (maybe (default_nests m n)) (maybe_or [] refl (directives_nests m constant n)))))) (λ x. refl)

  variables_nests : (n : ℕ) → Nests (g.variable_definitions m n) variables_depth
  unfolding g.variable_definitions
  variables_nests zero = never
  variables_nests (suc n) = enclosed_some is_open_paren is_close_paren refl refl (located m (variable_nests n))

  pub operation_nests : (n : ℕ) → Nests (g.operation_definition m n) operation_depth
  unfolding g.operation_definition
  operation_nests n =
      choice (mapped short_of (set_nests n) (λ x. omega arith))
      (mapped operation_of (skip operation_type_flat (skip (maybe_flat (name_flat m)) (both (maybe_or [] refl (variables_nests n)) (both (maybe_or [] refl (directives_nests m with_variables n)) (set_nests n))))) (λ x. refl))

  pub fragment_nests : (n : ℕ) → Nests (g.fragment_definition m n) fragment_depth
  unfolding g.fragment_definition
  fragment_nests n = mapped fragment_of (skip (flat is_fragment refl) (skip fragment_name_flat (skip condition_flat (both (maybe_or [] refl (directives_nests m with_variables n)) (set_nests n))))) (λ x. refl)
