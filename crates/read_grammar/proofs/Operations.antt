-- Selections, operations and fragments are read exactly, steadily, and within the limit.
use Rattle.std.proofs.Common.{◌≡◌, ℕ, zero, suc, ◌≤◌, Bool, true, false, cond, Option, Some, None, Ok, refl, sym, ap, subst, ◌∙◌, inl, inr, arith}
use Rattle.graphql_names.specs.Placed.{Text}
use Rattle.graphql_ast.specs.in_directives.DirectiveTree.{Arguments, Directives}
use Rattle.graphql_ast.specs.in_operations.SelectionTree.{SelectionTree, SelectionTrees}
use Rattle.graphql_ast.specs.in_directives.declared.operation_type.OperationType.TheVariants.{Query, Mutation, Subscription}
use Rattle.read_tokens.specs.Input.{Input, next}
use Rattle.read_grammar.specs.Meaning.{Meaning, name_of, place_between}
use Rattle.read_grammar.specs.Kinds.{next_is, is_name, is_fragment_name, is_colon, is_spread, is_on, is_at, is_equals, is_dollar, is_fragment, is_query, is_mutation, is_subscription, is_operation_type, is_open_brace, is_close_brace, is_open_paren, is_close_paren}
use Rattle.read_grammar.specs.Begins.{begins_selection, begins_operation}
use Rattle.read_grammar.specs.Rules as rule
use Rattle.read_grammar.specs.Rules.{Rule, ◌·◌, ◌<$>◌, ◌∣◌}
use Rattle.read_grammar.specs.ValueGrammar as vg
use Rattle.read_grammar.specs.OperationGrammar as g
use Rattle.read_grammar.specs.OperationGrammar.{selections_of, field_of, variable_definition_of, short_of, operation_of, fragment_of}
use Rattle.read_grammar.specs.Reading as read
use Rattle.read_grammar.specs.Reading.{Parser, Outcome, ◌⊙◌, ◌<&>◌}
use Rattle.read_grammar.specs.ValueReading as v
use Rattle.read_grammar.specs.OperationReading as o
use Rattle.read_grammar.specs.OperationReading.{Dotted, dotted_at, dotted_of}
use Rattle.read_grammar.proofs.Tests.{Test, any, either, at_end}
use Rattle.read_grammar.proofs.Exact as e
use Rattle.read_grammar.proofs.Exact.{Exact}
use Rattle.read_grammar.proofs.Steady as t
use Rattle.read_grammar.proofs.Nests as l
use Rattle.read_grammar.proofs.Keeps as kept
use Rattle.read_grammar.proofs.Parses.{Parses, token, mapped, mark, weaker, seq, opt, alternative, only, maybe, located, one_or_more, enclosed, none_deep, one_deep, restated}
use Rattle.read_grammar.proofs.Values.{lacking, name_parses, variable_parses, type_parses, default_value_parses, arguments_parses, directives_parses}

-- what may follow a selection
abbrev pub after_selection : Test
after_selection = either (next_is begins_selection) (either (next_is is_close_brace) at_end)

-- what may follow the definition of a variable
abbrev pub after_variable : Test
after_variable = either (next_is is_dollar) (next_is is_close_paren)

pub operation_type_parses : {n : ℕ} → Parses 1 n g.operation_type o.operation_type o.operation_type (next_is is_operation_type) any
unfolding g.operation_type o.operation_type
operation_type_parses =
    weaker (next_is is_operation_type) any refl refl
    (alternative is_query refl refl (mapped (λ _. Query) (mark is_query refl))
    (alternative is_mutation refl refl (mapped (λ _. Mutation) (mark is_mutation refl)) (only is_subscription refl (mapped (λ _. Subscription) (mark is_subscription refl)))))

module _ {P : Type 0} (m : Meaning P) where
  -- ---- a name before a colon is an alias

  abbrev second : Text P → Parser (Option (Text P) × Text P)
  second first = (λ x. (Some first, x.1)) <&> read.mark is_colon ⊙ v.name m

  name_exact : Exact (vg.name m) (v.name m) (next_is is_name) any
  name_exact = (name_parses m {n = 0}).exact

  second_exact : (first : Text P) → Exact ((λ x. (Some first, x.1)) <$> rule.mark is_colon · vg.name m) (second first) (next_is is_colon) any
  second_exact first = e.mapped (λ x. (Some first, x.1)) (e.seq (e.weaker (next_is is_colon) (next_is is_name) refl refl (e.mark is_colon)) name_exact)

  abbrev aliased : Rule (Option (Text P) × Text P)
  aliased = rule.optional (g.alias m) · vg.name m

  alias_sound : (i : Input) (x : Option (Text P) × Text P) (z : Input) → o.alias_and_name m i ≡ Ok (x, z) → aliased i x z
  unfolding o.alias_and_name
  alias_sound i x z at =
      let h = e.then_ok (v.name m i) (λ first. read.when is_colon (second first) (read.pure (None, first))) (x, z) at in
      by_test h.0 h.1 (name_exact.sound i h.0 h.1 h.2) (next_is is_colon (next h.1)) h.3
    where
      by_test : (first : Text P) (mid : Input) → vg.name m i first mid → (b : Bool) → cond b (second first mid) (Ok ((None, first), mid)) ≡ Ok (x, z) → aliased i x z
      by_test first mid h true at =
          let k = (second_exact first).sound mid x z at in
          subst (λ (w : Option (Text P) × Text P). aliased i w z) (sym k.2) (k.1.0, ((first, k.0.0), (mid, h, k.1.1), refl), k.1.2)
      by_test first mid h false at = subst (λ (w : (Option (Text P) × Text P) × Input). aliased i w.0 w.1) (e.ok_is ((None, first), mid) (x, z) at) (i, refl, h)

  abbrev pair_at : Text P → Text P → Input → Outcome (Option (Text P) × Text P)
  pair_at w n z = Ok ((Some w, n), z)

  not_colon : (b : Bool) → cond b false true ≡ true → b ≡ false
  not_colon true h = absurd cc
  not_colon false h = refl

  alias_complete : (i : Input) (x : Option (Text P) × Text P) (z : Input) → aliased i x z → lacking is_colon (next z) ≡ true → o.alias_and_name m i ≡ Ok (x, z)
  unfolding o.alias_and_name
  alias_complete i (None, n) z h at =
      let is : v.name m i ≡ Ok (n, z) = name_exact.complete i n z (subst (λ (w : Input). vg.name m w n z) h.1 h.2) refl in
      rw is (rw (not_colon (next_is is_colon (next z)) at) refl)
  alias_complete i (Some a, n) z h at =
      let k = h.1 in
      let is : v.name m i ≡ Ok (k.0.0, k.1.0) = name_exact.complete i k.0.0 k.1.0 k.1.1 refl in
      let colon : next_is is_colon (next k.1.0) ≡ true = (e.mark is_colon).first k.1.0 tt h.0 k.1.2 refl in
      let then : second k.0.0 k.1.0 ≡ Ok ((Some k.0.0, n), z) = (second_exact k.0.0).complete k.1.0 (Some k.0.0, n) z ((tt, n), (h.0, k.1.2, h.2), refl) refl in
      rw is (rw colon (then ∙ ap (λ (w : Text P). pair_at w n z) (sym k.2)))

  alias_first : (i : Input) (x : Option (Text P) × Text P) (z : Input) → aliased i x z → lacking is_colon (next z) ≡ true → next_is is_name (next i) ≡ true
  alias_first i (None, n) z h at = name_exact.first i n z (subst (λ (w : Input). vg.name m w n z) h.1 h.2) refl
  alias_first i (Some a, n) z h at = name_exact.first i h.1.0.0 h.1.1.0 h.1.1.1 refl

  pub alias_parses : {n : ℕ} → Parses 1 n aliased (o.alias_and_name m) (o.alias_and_name m) (next_is is_name) (lacking is_colon)
  unfolding o.alias_and_name
  alias_parses {n} = record {
    exact = record { sound = alias_sound; complete = alias_complete; first = alias_first };
    steady = t.counted 1 (omega arith) (t.bound (name_parses m {n = n}).steady (λ first. t.choice is_colon (t.counted 0 (omega arith) (t.mapped (λ x. (Some first, x.1)) (t.seq (t.mark is_colon) (name_parses m {n = n}).steady))) (t.given (None, first))));
    nested = l.bound (name_parses m {n = n}).nested (λ first. l.choice is_colon (l.mapped (λ x. (Some first, x.1)) (l.seq (l.mark n is_colon refl) (name_parses m {n = n}).nested)) (l.given n (None, first)));
    keeps = kept.bound (name_parses m {n = n}).keeps (λ first. kept.choice is_colon (kept.mapped (λ x. (Some first, x.1)) (kept.seq (kept.mapped (λ _. tt) (kept.token is_colon)) (name_parses m {n = n}).keeps)) (kept.given (None, first)));
  }

  -- ---- fields

  abbrev FieldRest : Type 0
  FieldRest = Option (Arguments P) × (Option (Directives P) × Option (SelectionTrees P))

  abbrev shifted : (Option (Text P) × Text P) × FieldRest → Option (Text P) × (Text P × FieldRest)
  shifted x = (x.0.0, (x.0.1, x.1))

  module _ (s : Rule FieldRest) where
    abbrev joined : Rule (Option (Text P) × (Text P × FieldRest))
    joined = shifted <$> aliased · s

    abbrev in_order : Rule (Option (Text P) × (Text P × FieldRest))
    in_order = rule.optional (g.alias m) · vg.name m · s

    to_order : (i : Input) (x : Option (Text P) × (Text P × FieldRest)) (z : Input) → joined i x z → in_order i x z
    to_order i x z h = subst (λ (w : Option (Text P) × (Text P × FieldRest)). in_order i w z) (sym h.2) (h.1.1.0, h.1.1.1, (h.1.0, h.1.1.2, h.1.2))

    from_order : (i : Input) (x : Option (Text P) × (Text P × FieldRest)) (z : Input) → in_order i x z → joined i x z
    from_order i x z h = (((x.0, x.1.0), x.1.1), (h.2.0, (h.0, h.1, h.2.1), h.2.2), refl)

  pub field_parses : (n h : ℕ) → n ≤ h → {r : Rule _} {q q' : Parser _} → Parses 1 n r q q' (next_is is_open_brace) any → Parses 1 n (g.field m n r) (o.field m n q) (o.field m h q') (next_is is_name) after_selection
  unfolding g.field o.field
  field_parses n h le set =
      mapped field_of
      (located m
      (restated (in_order _) (to_order _) (from_order _)
      (mapped shifted
      (seq refl alias_parses
      (opt is_open_paren refl refl refl (arguments_parses m false n h le)
      (opt is_at refl refl refl (directives_parses m false n h le) (maybe is_open_brace after_selection refl refl refl set)))))))

  -- ---- spreads and inline fragments

  pub fragment_name_parses : {n : ℕ} → Parses 1 n (g.fragment_name m) (o.fragment_name m) (o.fragment_name m) (next_is is_fragment_name) any
  unfolding o.fragment_name
  fragment_name_parses = mapped (name_of m) (token is_fragment_name refl)

  pub type_condition_parses : {n : ℕ} → Parses 1 n (g.type_condition m) (o.type_condition m) (o.type_condition m) (next_is is_on) any
  unfolding o.type_condition
  type_condition_parses = mapped (λ x. x.1) (seq refl (mark is_on refl) (name_parses m))

  abbrev dotted_rule : ℕ → Rule (SelectionTrees P) → Rule (Dotted P)
  dotted_rule n set = inl <$> g.fragment_name m · rule.optional (vg.directives m false n) ∣ inr <$> rule.optional (g.type_condition m) · rule.optional (vg.directives m false n) · set

  abbrev begins_dotted : Test
  begins_dotted = either (next_is is_fragment_name) (either (next_is is_on) (either (next_is is_at) (next_is is_open_brace)))

  pub dotted_parses : (n h : ℕ) → n ≤ h → {r : Rule _} {q q' : Parser _} → Parses 1 n r q q' (next_is is_open_brace) any → Parses 1 n (dotted_rule n r) (o.dotted m n q) (o.dotted m h q') begins_dotted after_selection
  unfolding o.dotted
  dotted_parses n h le set =
      alternative is_fragment_name refl refl
      (mapped inl (seq refl fragment_name_parses (maybe is_at after_selection refl refl refl (directives_parses m false n h le))))
      (mapped inr
      (opt is_on refl refl refl type_condition_parses
      (opt is_at refl refl refl (directives_parses m false n h le) (weaker (next_is is_open_brace) after_selection refl refl set))))

  -- one rule for both that begin with the dots
  module _ (n : ℕ) (r : Rule (SelectionTrees P)) where
    abbrev spread_or_inline : Rule (SelectionTree P)
    spread_or_inline = g.fragment_spread m n ∣ g.inline_fragment m n r

    abbrev together : Rule (SelectionTree P)
    together = dotted_of <$> rule.placed m (rule.mark is_spread · dotted_rule n r)

    to_spread_or_inline_by : (i : Input) (x : SelectionTree P) (z mid : Input) (place : P) (y : Dotted P) → rule.mark is_spread i tt mid → place ≡ place_between m i z → x ≡ dotted_at place y → dotted_rule n r mid y z → spread_or_inline i x z
    unfolding g.fragment_spread g.inline_fragment
    to_spread_or_inline_by i x z mid place y mk at same (inl h) = inl (record { it = (tt, h.0); place = place }, ((mid, mk, h.1), at), same ∙ ap (dotted_at place) h.2)
    to_spread_or_inline_by i x z mid place y mk at same (inr h) = inr (record { it = (tt, h.0); place = place }, ((mid, mk, h.1), at), same ∙ ap (dotted_at place) h.2)

    to_spread_or_inline : (i : Input) (x : SelectionTree P) (z : Input) → together i x z → spread_or_inline i x z
    to_spread_or_inline i x z h = to_spread_or_inline_by i x z h.1.0.0 h.0.place h.0.it.1 h.1.0.1 h.1.1 h.2 h.1.0.2

    from_spread_or_inline : (i : Input) (x : SelectionTree P) (z : Input) → spread_or_inline i x z → together i x z
    unfolding g.fragment_spread g.inline_fragment
    from_spread_or_inline i x z (inl h) = (record { it = (tt, inl h.0.it.1); place = h.0.place }, ((h.1.0.0, h.1.0.1, inl (h.0.it.1, h.1.0.2, refl)), h.1.1), h.2)
    from_spread_or_inline i x z (inr h) = (record { it = (tt, inr h.0.it.1); place = h.0.place }, ((h.1.0.0, h.1.0.1, inr (h.0.it.1, h.1.0.2, refl)), h.1.1), h.2)

  pub selection_parses : (n h : ℕ) → n ≤ h → {r : Rule _} {q q' : Parser _} → Parses 1 n r q q' (next_is is_open_brace) any → Parses 1 n (g.selection m n r) (o.selection m n q) (o.selection m h q') (next_is begins_selection) after_selection
  unfolding g.selection o.selection
  selection_parses n h le {r} set =
      weaker (next_is begins_selection) after_selection refl refl
      (alternative is_name refl refl (field_parses n h le set)
      (restated (spread_or_inline n r) (to_spread_or_inline n r) (from_spread_or_inline n r) (mapped dotted_of (located m (seq refl (mark is_spread refl) (dotted_parses n h le set))))))

  pub selection_list_parses : (n h : ℕ) → n ≤ h → {r : Rule _} {q q' : Parser _} → Parses 1 n r q q' (next_is is_open_brace) any → Parses 0 n (g.selection_list m n r) (o.selection_list m n q) (o.selection_list m h q') (next_is begins_selection) (either (next_is is_close_brace) at_end)
  unfolding g.selection_list o.selection_list
  selection_list_parses n h le set =
      mapped selections_of (one_or_more begins_selection (either (next_is is_close_brace) at_end) refl refl refl refl (selection_parses n h le set))

  pub selection_set_parses : (n h : ℕ) → n ≤ h → Parses 1 n (g.selection_set m n) (o.selection_set m n) (o.selection_set m h) (next_is is_open_brace) any
  unfolding g.selection_set o.selection_set
  selection_set_parses zero zero le = none_deep is_open_brace refl
  selection_set_parses zero (suc h) le = one_deep is_open_brace is_close_brace _ refl
  selection_set_parses (suc n) zero le = absurd (omega arith)
  selection_set_parses (suc n) (suc h) le = enclosed is_open_brace is_close_brace refl refl refl (selection_list_parses n h (omega arith) (selection_set_parses n h (omega arith)))

  pub selections_parses : (n h : ℕ) → n ≤ h → Parses 0 n (g.selections m n) (o.selections m n) (o.selections m h) (next_is begins_selection) at_end
  unfolding g.selections o.selections
  selections_parses n h le = weaker (next_is begins_selection) at_end refl refl (selection_list_parses n h le (selection_set_parses n h le))

  -- ---- operations and fragments

  pub variable_definition_parses : (n h : ℕ) → n ≤ h → Parses 1 n (g.variable_definition m n) (o.variable_definition m n) (o.variable_definition m h) (next_is is_dollar) after_variable
  unfolding g.variable_definition o.variable_definition
  variable_definition_parses n h le =
      mapped variable_definition_of
      (seq refl (variable_parses m)
      (seq refl (mark is_colon refl)
      (seq refl (located m (type_parses m n h le))
      (opt is_equals refl refl refl (default_value_parses m n h le) (maybe is_at after_variable refl refl refl (directives_parses m true n h le))))))

  pub variable_definitions_parses : (n h : ℕ) → n ≤ h → Parses 1 n (g.variable_definitions m n) (o.variable_definitions m n) (o.variable_definitions m h) (next_is is_open_paren) any
  unfolding g.variable_definitions o.variable_definitions
  variable_definitions_parses zero zero le = none_deep is_open_paren refl
  variable_definitions_parses zero (suc h) le = one_deep is_open_paren is_close_paren _ refl
  variable_definitions_parses (suc n) zero le = absurd (omega arith)
  variable_definitions_parses (suc n) (suc h) le =
      enclosed is_open_paren is_close_paren refl refl refl (one_or_more is_dollar (next_is is_close_paren) refl refl refl refl (located m (variable_definition_parses n h (omega arith))))

  pub operation_definition_parses : (n h : ℕ) → n ≤ h → Parses 1 n (g.operation_definition m n) (o.operation_definition m n) (o.operation_definition m h) (next_is begins_operation) any
  unfolding g.operation_definition o.operation_definition
  operation_definition_parses n h le =
      let set = selection_set_parses n h le in
      weaker (next_is begins_operation) any refl refl
      (alternative is_open_brace refl refl (mapped short_of set)
      (mapped operation_of
      (seq refl operation_type_parses
      (opt is_name refl refl refl (name_parses m)
      (opt is_open_paren refl refl refl (variable_definitions_parses n h le) (opt is_at refl refl refl (directives_parses m false n h le) set))))))

  pub fragment_definition_parses : (n h : ℕ) → n ≤ h → Parses 1 n (g.fragment_definition m n) (o.fragment_definition m n) (o.fragment_definition m h) (next_is is_fragment) any
  unfolding g.fragment_definition o.fragment_definition
  fragment_definition_parses n h le =
      mapped fragment_of
      (seq refl (mark is_fragment refl)
      (seq refl fragment_name_parses
      (seq refl type_condition_parses (opt is_at refl refl refl (directives_parses m false n h le) (selection_set_parses n h le)))))
