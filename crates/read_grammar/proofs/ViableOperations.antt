-- Where a parser of selections, operations or fragments stops, the tokens before begin some text of its rule.
use Rattle.std.proofs.Common.{◌≡◌, ℕ, zero, suc, Bool, true, false, cond, [], Option, Some, None, Ok, refl, sym, ap, subst, ◌∙◌, arith, inl, inr, ◌⊎◌}
use Rattle.graphql_names.specs.Placed.{Text}
use Rattle.graphql_ast.specs.in_directives.DirectiveTree.{Arguments, Directives}
use Rattle.graphql_ast.specs.in_operations.SelectionTree.{SelectionTree, SelectionTrees}
use Rattle.graphql_ast.specs.in_directives.declared.operation_type.OperationType.TheVariants.{Query, Mutation, Subscription}
use Rattle.read_tokens.specs.declared.terminal.Terminal.TheVariants as k
use Rattle.read_tokens.specs.Input.{Input, next}
use Rattle.read_grammar.specs.Meaning.{Meaning, name_of, place_between}
use Rattle.read_grammar.specs.Kinds.{next_is, is_name, is_fragment_name, is_colon, is_spread, is_on, is_at, is_equals, is_dollar, is_fragment, is_query, is_mutation, is_subscription, is_open_brace, is_close_brace, is_open_paren, is_close_paren}
use Rattle.read_grammar.specs.Begins.{begins_selection}
use Rattle.read_grammar.specs.Rules as rule
use Rattle.read_grammar.specs.Rules.{Rule, ◌·◌, ◌<$>◌, ◌∣◌}
use Rattle.read_grammar.specs.ValueGrammar as vg
use Rattle.read_grammar.specs.OperationGrammar as g
use Rattle.read_grammar.specs.OperationGrammar.{selections_of, field_of, variable_definition_of, short_of, operation_of, fragment_of}
use Rattle.read_grammar.specs.Reading as read
use Rattle.read_grammar.specs.Reading.{Parser, ◌⊙◌, ◌<&>◌}
use Rattle.read_grammar.specs.ValueReading as v
use Rattle.read_grammar.specs.OperationReading as o
use Rattle.read_grammar.specs.OperationReading.{Dotted, dotted_at, dotted_of}
use Rattle.read_grammar.proofs.Tests.{any}
use Rattle.read_grammar.proofs.Viable.{Viable, Fills, FillsFrom, Goes, token, mapped, mark, seq, bound, into, loose, restated, alternative, only, maybe, located, mapped_fills, mark_fills, seq_fills, left_fills, located_fills, none_fills}
use Rattle.read_grammar.proofs.ViableLists.{one_or_more, enclosed, none_deep, some_fills, enclosed_from}
use Rattle.read_grammar.proofs.ViableValues.{name_viable, variable_viable, type_viable, type_fills, default_value_viable, arguments_viable, directives_viable}

pub operation_type_viable : Viable true g.operation_type o.operation_type any
unfolding g.operation_type o.operation_type
operation_type_viable =
    alternative is_query (mapped (λ _. Query) (mark is_query k.Query refl))
    (alternative is_mutation (mapped (λ _. Mutation) (mark is_mutation k.Mutation refl)) (only is_subscription (mapped (λ _. Subscription) (mark is_subscription k.Subscription refl))))

module _ {P : Type 0} (m : Meaning P) where
  -- ---- a name before a colon is an alias

  abbrev aliased : Rule (Option (Text P) × Text P)
  aliased = rule.optional (g.alias m) · vg.name m

  abbrev renamed : Text P → Rule (Option (Text P) × Text P)
  renamed first = (λ x. (Some first, x.1)) <$> rule.mark is_colon · vg.name m

  abbrev second : Text P → Parser (Option (Text P) × Text P)
  second first = (λ x. (Some first, x.1)) <&> read.mark is_colon ⊙ v.name m

  -- what follows the first name
  abbrev after_name : Text P → Rule (Option (Text P) × Text P)
  after_name first i y z = (renamed first i y z) ⊎ ((y ≡ (None, first)) × (z ≡ i))

  after_name_at : (first : Text P) (i : Input) → Goes false (after_name first) any i (read.when is_colon (second first) (read.pure (None, first)) i)
  after_name_at first i = by_case (next_is is_colon (next i))
    where
      by_case : (b : Bool) → Goes false (after_name first) any i (cond b (second first i) (Ok ((None, first), i)))
      by_case true = into false {r = renamed first} {s = after_name first} any (λ i x z h. inl h) i _ ((loose (mapped (λ x. (Some first, x.1)) (seq (mark is_colon k.Colon refl) (name_viable m)))).at i)
      by_case false = ([], refl, λ never. absurd cc, λ rest fo. inr (refl, refl))

  aliased_by : (i : Input) (x : Text P) (mid : Input) (y : Option (Text P) × Text P) (z : Input) → vg.name m i x mid → after_name x mid y z → aliased i y z
  aliased_by i x mid y z a (inl h) = subst (λ (w : Option (Text P) × Text P). aliased i w z) (sym h.2) (h.1.0, ((x, h.0.0), (mid, a, h.1.1), refl), h.1.2)
  aliased_by i x mid y z a (inr h) = subst (λ (w : Option (Text P) × Text P). aliased i w z) (sym h.0) (subst (λ (w : Input). aliased i (None, x) w) (sym h.1) (i, refl, a))

  pub alias_viable : Viable true aliased (o.alias_and_name m) any
  unfolding o.alias_and_name
  alias_viable =
      bound false after_name aliased (λ first. read.when is_colon (second first) (read.pure (None, first))) any aliased_by
      (λ rest fo. (rest, omega arith, λ x i e. ((None, x), i, e, inr (refl, refl)))) (name_viable m) after_name_at

  -- ---- fields

  abbrev FieldRest : Type 0
  FieldRest = Option (Arguments P) × (Option (Directives P) × Option (SelectionTrees P))

  abbrev shifted : (Option (Text P) × Text P) × FieldRest → Option (Text P) × (Text P × FieldRest)
  shifted x = (x.0.0, (x.0.1, x.1))

  module _ (s : Rule FieldRest) where
    abbrev joined : Rule (Option (Text P) × (Text P × FieldRest))
    joined = shifted <$> aliased · s

    abbrev in_order : Rule (Option (Text P) × (Text P × FieldRest))
    in_order = rule.optional (g.alias m) · vg.name m · s

    to_order : (i : Input) (x : Option (Text P) × (Text P × FieldRest)) (z : Input) → joined i x z → in_order i x z
    to_order i x z h = subst (λ (w : Option (Text P) × (Text P × FieldRest)). in_order i w z) (sym h.2) (h.1.1.0, h.1.1.1, (h.1.0, h.1.1.2, h.1.2))

  pub field_viable : (n : ℕ) {r : Rule _} {q : Parser _} → Viable true r q any → Viable true (g.field m (suc n) r) (o.field m n q) any
  unfolding g.field o.field
  field_viable n set =
      mapped field_of
      (located m
      (restated (in_order _) (to_order _)
      (mapped shifted (seq alias_viable (seq (maybe is_open_paren (arguments_viable m false n)) (seq (maybe is_at (directives_viable m false n)) (maybe is_open_brace set)))))))

  field_fills : (n : ℕ) (r : Rule (SelectionTrees P)) → Fills (g.field m n r) any
  unfolding g.field
  field_fills n r = mapped_fills field_of (located_fills m (seq_fills (none_fills _) (seq_fills (name_viable m).fills (seq_fills (none_fills _) (seq_fills (none_fills _) (none_fills r))))))

  -- ---- spreads and inline fragments

  pub fragment_name_viable : Viable true (g.fragment_name m) (o.fragment_name m) any
  unfolding o.fragment_name
  fragment_name_viable = mapped (name_of m) (token is_fragment_name k.Name refl)

  pub type_condition_viable : Viable true (g.type_condition m) (o.type_condition m) any
  unfolding o.type_condition
  type_condition_viable = mapped (λ x. x.1) (seq (mark is_on k.On refl) (name_viable m))

  abbrev dotted_rule : ℕ → Rule (SelectionTrees P) → Rule (Dotted P)
  dotted_rule n set = inl <$> g.fragment_name m · rule.optional (vg.directives m false n) ∣ inr <$> rule.optional (g.type_condition m) · rule.optional (vg.directives m false n) · set

  dotted_viable : (n : ℕ) {r : Rule _} {q : Parser _} → Viable true r q any → Viable true (dotted_rule (suc n) r) (o.dotted m n q) any
  unfolding o.dotted
  dotted_viable n set =
      alternative is_fragment_name (mapped inl (seq fragment_name_viable (maybe is_at (directives_viable m false n))))
      (mapped inr (seq (maybe is_on type_condition_viable) (seq (maybe is_at (directives_viable m false n)) set)))

  module _ (n : ℕ) (r : Rule (SelectionTrees P)) where
    abbrev spread_or_inline : Rule (SelectionTree P)
    spread_or_inline = g.fragment_spread m n ∣ g.inline_fragment m n r

    abbrev together : Rule (SelectionTree P)
    together = dotted_of <$> rule.placed m (rule.mark is_spread · dotted_rule n r)

    to_spread_or_inline_by : (i : Input) (x : SelectionTree P) (z mid : Input) (place : P) (y : Dotted P) → rule.mark is_spread i tt mid → place ≡ place_between m i z → x ≡ dotted_at place y → dotted_rule n r mid y z → spread_or_inline i x z
    unfolding g.fragment_spread g.inline_fragment
    to_spread_or_inline_by i x z mid place y mk at same (inl h) = inl (record { it = (tt, h.0); place = place }, ((mid, mk, h.1), at), same ∙ ap (dotted_at place) h.2)
    to_spread_or_inline_by i x z mid place y mk at same (inr h) = inr (record { it = (tt, h.0); place = place }, ((mid, mk, h.1), at), same ∙ ap (dotted_at place) h.2)

    to_spread_or_inline : (i : Input) (x : SelectionTree P) (z : Input) → together i x z → spread_or_inline i x z
    to_spread_or_inline i x z h = to_spread_or_inline_by i x z h.1.0.0 h.0.place h.0.it.1 h.1.0.1 h.1.1 h.2 h.1.0.2

  pub selection_viable : (n : ℕ) {r : Rule _} {q : Parser _} → Viable true r q any → Viable true (g.selection m (suc n) r) (o.selection m n q) any
  unfolding g.selection o.selection
  selection_viable n {r} set =
      alternative is_name (field_viable n set)
      (restated (spread_or_inline (suc n) r) (to_spread_or_inline (suc n) r) (mapped dotted_of (located m (seq (mark is_spread k.Spread refl) (dotted_viable n set)))))

  pub selection_list_viable : (n : ℕ) {r : Rule _} {q : Parser _} → Viable true r q any → Viable false (g.selection_list m (suc n) r) (o.selection_list m n q) any
  unfolding g.selection_list o.selection_list
  selection_list_viable n set = mapped selections_of (one_or_more begins_selection (selection_viable n set))

  selection_set_from : (n : ℕ) → FillsFrom is_open_brace (g.selection_set m (suc n)) any
  unfolding g.selection_set g.selection_list g.selection
  selection_set_from n = enclosed_from is_open_brace is_close_brace k.CloseBrace refl (mapped_fills selections_of (some_fills (left_fills _ (field_fills n (g.selection_set m n)))))

  pub selection_set_viable : (n : ℕ) → Viable true (g.selection_set m (suc n)) (o.selection_set m n) any
  unfolding g.selection_set o.selection_set
  selection_set_viable zero = none_deep is_open_brace k.OpenBrace refl (selection_set_from zero)
  selection_set_viable (suc n) = enclosed is_open_brace is_close_brace k.OpenBrace k.CloseBrace refl refl (selection_list_viable n (selection_set_viable n))

  pub selections_viable : (n : ℕ) → Viable false (g.selections m (suc n)) (o.selections m n) any
  unfolding g.selections o.selections
  selections_viable n = selection_list_viable n (selection_set_viable n)

  -- ---- operations and fragments

  pub variable_definition_viable : (n : ℕ) → Viable true (g.variable_definition m (suc n)) (o.variable_definition m n) any
  unfolding g.variable_definition o.variable_definition
  variable_definition_viable n =
      mapped variable_definition_of
      (seq (variable_viable m)
      (seq (mark is_colon k.Colon refl) (seq (located m (type_viable m n)) (seq (maybe is_equals (default_value_viable m n)) (maybe is_at (directives_viable m true n))))))

  variable_definitions_from : (n : ℕ) → FillsFrom is_open_paren (g.variable_definitions m (suc n)) any
  unfolding g.variable_definitions g.variable_definition
  variable_definitions_from n =
      enclosed_from is_open_paren is_close_paren k.CloseParen refl
      (some_fills (located_fills m
      (mapped_fills variable_definition_of
      (seq_fills (variable_viable m).fills (seq_fills (mark_fills is_colon k.Colon refl) (seq_fills (located_fills m (type_fills m n)) (seq_fills (none_fills _) (none_fills _))))))))

  pub variable_definitions_viable : (n : ℕ) → Viable true (g.variable_definitions m (suc n)) (o.variable_definitions m n) any
  unfolding g.variable_definitions o.variable_definitions
  variable_definitions_viable zero = none_deep is_open_paren k.OpenParen refl (variable_definitions_from zero)
  variable_definitions_viable (suc n) = enclosed is_open_paren is_close_paren k.OpenParen k.CloseParen refl refl (one_or_more is_dollar (located m (variable_definition_viable n)))

  pub operation_definition_viable : (n : ℕ) → Viable true (g.operation_definition m (suc n)) (o.operation_definition m n) any
  unfolding g.operation_definition o.operation_definition
  operation_definition_viable n =
      let set = selection_set_viable n in
      alternative is_open_brace (mapped short_of set)
      (mapped operation_of
      (seq operation_type_viable
      (seq (maybe is_name (name_viable m)) (seq (maybe is_open_paren (variable_definitions_viable n)) (seq (maybe is_at (directives_viable m false n)) set)))))

  pub fragment_definition_viable : (n : ℕ) → Viable true (g.fragment_definition m (suc n)) (o.fragment_definition m n) any
  unfolding g.fragment_definition o.fragment_definition
  fragment_definition_viable n =
      mapped fragment_of
      (seq (mark is_fragment k.Fragment refl)
      (seq fragment_name_viable (seq type_condition_viable (seq (maybe is_at (directives_viable m false n)) (selection_set_viable n)))))
