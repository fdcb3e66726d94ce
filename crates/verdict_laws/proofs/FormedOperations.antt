-- Selections, operations and fragments of the tokens of a text are well-formed.
use Rattle.std.proofs.Common.{◌≡◌, ℕ, zero, suc, Bool, true, ◌&&◌, List, [], ◌∷◌, unwrap_or, refl}
use Rattle.std.specs.List.{list_all}
use Rattle.std.proofs.lemmas.Bool.{and_from, and_parts}
use Rattle.graphql_names.specs.NameSyntax as names
use Rattle.tree_operations.specs.SelectionTree.{SelectionTree, SelectionTrees, no_selections}
use Rattle.tree_operations.specs.in_directives.declared.operation_type.OperationType.TheVariants.{Query, Mutation, Subscription}
use Rattle.read_grammar.specs.Meaning.{Meaning, name_of}
use Rattle.read_grammar.specs.Kinds.{is_fragment_name, is_colon, is_spread, is_on, is_fragment, is_query, is_mutation, is_subscription, is_open_brace, is_close_brace, is_open_paren, is_close_paren}
use Rattle.read_grammar.specs.Rules.{Rule}
use Rattle.read_grammar.specs.ValueGrammar.{constant, with_variables}
use Rattle.read_grammar.specs.OperationGrammar as g
use Rattle.read_grammar.specs.OperationGrammar.{selections_of, field_of, spread_of, inline_of, variable_definition_of, short_of, operation_of, fragment_of}
use Rattle.round_trip.specs.WellFormed.{name_well_formed, type_well_formed, default_well_formed, arguments_well_formed, directives_well_formed, selection_well_formed, selections_well_formed, variables_well_formed, operation_well_formed, fragment_well_formed}
use Rattle.verdict_laws.proofs.Taken.{Makes, token, mapped, mapped_any, mark, seq, choice, never, maybe, or_none, some_all, enclosed, located, three, four, five}
use Rattle.verdict_laws.proofs.FormedValues.{named, word_says, name_makes, variable_makes, maybe_arguments, maybe_directives, default_value_makes, type_makes}

pub operation_type_makes : Makes g.operation_type (λ x. true)
unfolding g.operation_type
operation_type_makes = choice (mapped_any (λ _. Query) (mark is_query)) (choice (mapped_any (λ _. Mutation) (mark is_mutation)) (mapped_any (λ _. Subscription) (mark is_subscription)))

module _ {P : Type 0} (m : Meaning P) where
  abbrev set_good : SelectionTrees P → Bool
  set_good ts = selections_well_formed ts

  alias_makes : Makes (g.alias m) (named m)
  alias_makes = mapped (λ x. x.0) (seq (name_makes m) (mark is_colon)) (λ x h. (and_parts (named m x.0) true h).0)

  fragment_name_makes : Makes (g.fragment_name m) (named m)
  fragment_name_makes = mapped (name_of m) (token is_fragment_name (λ t. names.is_name t.text) (word_says is_fragment_name refl)) (λ t h. h)

  type_condition_makes : Makes (g.type_condition m) (named m)
  type_condition_makes = mapped (λ x. x.1) (seq (mark is_on) (name_makes m)) (λ x h. h)

  field_makes : (n : ℕ) {r : Rule (SelectionTrees P)} → Makes r set_good → Makes (g.field m n r) (λ x. selection_well_formed x)
  unfolding g.field
  field_makes n rr =
      mapped field_of
      (located m (seq (maybe (λ x. name_well_formed x) refl alias_makes) (seq (name_makes m) (seq (maybe_arguments m with_variables n) (seq (maybe_directives m with_variables n)
      (maybe (λ x. set_good (unwrap_or x no_selections)) refl rr))))))
      (λ x h. five (name_well_formed x.it.0) (named m x.it.1.0) (arguments_well_formed (unwrap_or x.it.1.1.0 [])) (directives_well_formed (unwrap_or x.it.1.1.1.0 [])) (set_good (unwrap_or x.it.1.1.1.1 no_selections)) h)

  fragment_spread_makes : (n : ℕ) → Makes (g.fragment_spread m n) (λ x. selection_well_formed x)
  unfolding g.fragment_spread
  fragment_spread_makes n = mapped spread_of (located m (seq (mark is_spread) (seq fragment_name_makes (maybe_directives m with_variables n)))) (λ x h. h)

  inline_fragment_makes : (n : ℕ) {r : Rule (SelectionTrees P)} → Makes r set_good → Makes (g.inline_fragment m n r) (λ x. selection_well_formed x)
  unfolding g.inline_fragment
  inline_fragment_makes n rr =
      mapped inline_of (located m (seq (mark is_spread) (seq (maybe (λ x. name_well_formed x) refl type_condition_makes) (seq (maybe_directives m with_variables n) rr))))
      (λ x h. three (name_well_formed x.it.1.0) (directives_well_formed (unwrap_or x.it.1.1.0 [])) (set_good x.it.1.1.1) h)

  selection_makes : (n : ℕ) {r : Rule (SelectionTrees P)} → Makes r set_good → Makes (g.selection m n r) (λ x. selection_well_formed x)
  unfolding g.selection
  selection_makes n rr = choice (field_makes n rr) (choice (fragment_spread_makes n) (inline_fragment_makes n rr))

  all_good : (xs : List (SelectionTree P)) → list_all (λ x. selection_well_formed x) xs ≡ true → set_good (selections_of xs) ≡ true
  all_good [] h = refl
  all_good (x ∷ xs) h =
      let k = and_parts (selection_well_formed x) (list_all (λ y. selection_well_formed y) xs) h in
      and_from (selection_well_formed x) (set_good (selections_of xs)) k.0 (all_good xs k.1)

  selection_list_makes : (n : ℕ) {r : Rule (SelectionTrees P)} → Makes r set_good → Makes (g.selection_list m n r) set_good
  unfolding g.selection_list
  selection_list_makes n rr = mapped selections_of (some_all (selection_makes n rr)) all_good

  selection_set_makes : (n : ℕ) → Makes (g.selection_set m n) set_good
  unfolding g.selection_set
  selection_set_makes zero = never
  selection_set_makes (suc n) = enclosed is_open_brace is_close_brace (selection_list_makes n (selection_set_makes n))

  variable_definition_makes : (n : ℕ) → Makes (g.variable_definition m n) (λ v. named m v.name && type_well_formed v.ty.it && default_well_formed v.default_value && directives_well_formed v.directives)
  unfolding g.variable_definition
  variable_definition_makes n =
      mapped variable_definition_of
      (seq (variable_makes m) (seq (mark is_colon) (seq (located m (type_makes m n)) (seq (maybe (λ x. default_well_formed x) refl (default_value_makes m n)) (maybe_directives m constant n)))))
      (λ x h. four (named m x.0) (type_well_formed x.1.1.0.it) (default_well_formed x.1.1.1.0) (directives_well_formed (unwrap_or x.1.1.1.1 [])) h)

  variable_definitions_makes : (n : ℕ) → Makes (g.variable_definitions m n) (λ vs. variables_well_formed vs)
  unfolding g.variable_definitions
  variable_definitions_makes zero = never
  variable_definitions_makes (suc n) = enclosed is_open_paren is_close_paren (some_all (located m (variable_definition_makes n)))

  pub operation_makes : (n : ℕ) → Makes (g.operation_definition m n) (λ x. operation_well_formed x)
  unfolding g.operation_definition
  operation_makes n =
      choice (mapped short_of (selection_set_makes n) (λ x h. h))
      (mapped operation_of
      (seq operation_type_makes (seq (maybe (λ x. name_well_formed x) refl (name_makes m)) (seq (or_none (λ vs. variables_well_formed vs) refl (variable_definitions_makes n)) (seq (maybe_directives m with_variables n) (selection_set_makes n)))))
      (λ x h. four (name_well_formed x.1.0) (variables_well_formed (unwrap_or x.1.1.0 [])) (directives_well_formed (unwrap_or x.1.1.1.0 [])) (set_good x.1.1.1.1) h))

  pub fragment_makes : (n : ℕ) → Makes (g.fragment_definition m n) (λ x. fragment_well_formed x)
  unfolding g.fragment_definition
  fragment_makes n =
      mapped fragment_of (seq (mark is_fragment) (seq fragment_name_makes (seq type_condition_makes (seq (maybe_directives m with_variables n) (selection_set_makes n)))))
      (λ x h. four (named m x.1.0) (named m x.1.1.0) (directives_well_formed (unwrap_or x.1.1.1.0 [])) (set_good x.1.1.1.1) h)
