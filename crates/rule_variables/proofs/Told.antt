-- The lists of faults of variables tell the rules on them.
use Rattle.std.proofs.Common.{◌≡◌, ◌↔◌, ◌⊎◌, inl, inr, ℕ, ◌<◌, true, false, List, [], ◌∷◌, take, find, bytes_eq, Option, None, Some, refl, sym, ap, subst, ◌∙◌, true≢false, is_some, Contains, if◌then◌else◌}
use Rattle.std.specs.Option.{option_map, option_map_or}
use Rattle.graphql_names.specs.Placed.{Placed, Place, node_tree}
use Rattle.graphql_names.specs.Places.{Recomposes}
use Rattle.graphql_names.specs.declared.node.Node.{Node}
use Rattle.tree_literals.specs.ValueTree.{ValueTree, value_tree}
use Rattle.tree_literals.specs.declared.value.Value.{Value}
use Rattle.schema_components.specs.Lists.{each_place}
use Rattle.tree_operations.specs.OperationTree.{variable_definition_tree}
use Rattle.tree_operations.specs.declared.operation.VariableDefinition.{VariableDefinition}
use Rattle.std.proofs.lemmas.Option.{same_Some}
use Rattle.schema_types.specs.SchemaTree.{SchemaType, SchemaTree, is_input_kind}
use Rattle.schema_types.specs.Looks.{TypeLooks}
use Rattle.schema_types.specs.Addresses.{type_at}
use Rattle.rule_definitions.specs.Diagnostics.{UndefinedDefinition, UniqueVariable, UnusedVariable}
use Rattle.rule_definitions.specs.Words.{Present, AtSomeIndex, FirstNamed, Repeats}
use Rattle.rule_definitions.specs.Faults.{wrong}
use Rattle.rule_definitions.specs.Judged.{judged}
use Rattle.rule_definitions.specs.Names.{defined_name}
use Rattle.rule_definitions.specs.GivenValues.{Variables, wanted_name}
use Rattle.rule_definitions.specs.PlacedFaults.{PlacedFault}
use Rattle.rule_document_definitions.specs.UsedVariables.{wanted_by}
use Rattle.rule_arguments.specs.in_rule_values.Firsts.{first_told}
use Rattle.rule_arguments.proofs.in_rule_values.in_inputs.Noted.{told_found}
use Rattle.rule_arguments.proofs.in_rule_values.Looking.{inner_unplaced, type_absent, type_present}
use Rattle.rule_definitions.proofs.Firsts.{earlier_is_found}
use Rattle.rule_definitions.proofs.Listing.{Lists, lists_same, lists_nothing, lists_one, lists_where, lists_present, lists_unless, lists_places}
use Rattle.rule_variables.specs.VariableFaults.{Defined, repeated_variable, variable_again, UnusedAmong, type_name, told_input_type, undefined_definition, variable_input_type, is_of_input_type, UndefinedType, NoInputType}
use Rattle.rule_variables.proofs.Spans.{one_way}

-- ---- UniqueVariable

abbrev told_again : Defined → Defined → PlacedFault
told_again first later = wrong later.place (UniqueVariable (defined_name later) first.place later.place)

pub variable_again_is : (before : Variables Place) (later : Defined) (first : Option Place) → first ≡ first_told defined_name (λ j x. x.place) before (defined_name later) → variable_again first later ≡ repeated_variable before later
variable_again_is before later first e =
    ap (λ o. variable_again o later) (e ∙ told_found defined_name (λ x. x.place) before (defined_name later)) ∙ by (find (λ d. bytes_eq (defined_name d) (defined_name later)) before)
  where
    by : (o : Option Defined) → variable_again (option_map (λ x. x.place) o) later ≡ option_map_or (λ first. told_again first later ∷ []) o []
    by None = refl
    by (Some x) = refl

pub lists_repeated_variables : (vs : Variables Place) → Lists (each_place repeated_variable vs) (λ f. Repeats defined_name vs (λ i first j later. f ≡ told_again first later))
lists_repeated_variables vs =
    lists_places repeated_variable vs
    (λ j later f. FirstNamed defined_name vs (defined_name later) (λ i first. (i < j) × (f ≡ told_again first later)))
    (λ j later there. lists_same (repeated_variable (take j vs) later)
    (λ f. let found = earlier_is_found defined_name vs (defined_name later) j (λ first. f ≡ told_again first later) in (found.1, found.0))
    (lists_present (find (λ d. bytes_eq (defined_name d) (defined_name later)) (take j vs)) (λ first. told_again first later ∷ [])
    (λ first f. f ≡ told_again first later) (λ first e. lists_one (told_again first later))))

-- ---- UnusedVariable

module _ (used : List (List ℕ)) (x : Defined) where
  pub lists_used : Contains used (defined_name x) → Lists [] (UnusedAmong used x)
  lists_used c = lists_nothing (UnusedAmong used x) (λ f q. q.0 c)

  pub lists_unused : (Contains used (defined_name x) → ⊥) → (head : Place) → Recomposes x.place x.it.name.place head → Lists (wrong head (UnusedVariable (defined_name x)) ∷ []) (UnusedAmong used x)
  lists_unused none head r =
      lists_same (wrong head (UnusedVariable (defined_name x)) ∷ [])
      (λ f. (
        λ e. (none, (head, (r, e))),
        λ q. q.1.1.1 ∙ ap (λ (p : Place). wrong p (UnusedVariable (defined_name x))) (one_way x.place x.it.name.place q.1.0 head q.1.1.0 r),
      ))
      (lists_one (wrong head (UnusedVariable (defined_name x))))

-- ---- defaults

-- what holds of a default that is there
pub of_default : (v : VariableDefinition) (n : Node Value) → v.default_value ≡ Some n → (P : Placed Place (ValueTree Place) → Type 0) → P (node_tree value_tree n) ↔ Present (variable_definition_tree v).default_value P
of_default v n e P =
    let there : (variable_definition_tree v).default_value ≡ Some (node_tree value_tree n) = ap (option_map (node_tree value_tree)) e in (
      λ p. (node_tree value_tree n, (there, p)),
      λ q. subst P (sym (same_Some (node_tree value_tree n) q.0 (sym there ∙ q.1.0))) q.1.1,
    )

-- ---- types

module _ (s : SchemaTree Place) (x : Defined) where
  same_name : wanted_name (wanted_by x.it) ≡ type_name x
  same_name = inner_unplaced x.it.ty.it

  abbrev told_undefined : List ℕ → PlacedFault
  told_undefined n = wrong x.place (UndefinedDefinition n)

  pub lists_undefined : Lists (undefined_definition s x) (UndefinedType s x)
  lists_undefined =
      subst (λ n. Lists (undefined_definition s x) (λ f. ((judged s).type_named n ≡ None) × (f ≡ told_undefined n))) (sym same_name)
      (by (type_at s (type_name x)) refl)
    where
      gone : (o : Option TypeLooks) → ((t : TypeLooks) → o ≡ Some t → ⊥) → o ≡ None
      gone None h = refl
      gone (Some t) h = absurd (h t refl)

      by : (o : Option (SchemaType Place)) → type_at s (type_name x) ≡ o → Lists (option_map_or (λ (t : SchemaType Place). []) o (told_undefined (type_name x) ∷ [])) (λ f. ((judged s).type_named (type_name x) ≡ None) × (f ≡ told_undefined (type_name x)))
      by None e = lists_where (told_undefined (type_name x)) (gone ((judged s).type_named (type_name x)) (λ t h. type_absent s (type_name x) {P = λ t. Unit {0}} e (t, (h, tt))))
      by (Some t) e =
          lists_nothing (λ f. ((judged s).type_named (type_name x) ≡ None) × (f ≡ told_undefined (type_name x)))
          (λ f q. let there = (type_present s (type_name x) t e (λ u. Unit {0})).0 tt in absurd (true≢false (ap is_some (sym there.1.0 ∙ q.0))))

  pub lists_input_type : Lists (variable_input_type s x) (NoInputType s x)
  lists_input_type =
      subst (λ n. Lists (variable_input_type s x) (λ f. Present ((judged s).type_named n) (λ t. (is_input_kind t.kind ≡ false) × (f ≡ told_input_type x t.kind)))) (sym same_name)
      (by (type_at s (type_name x)) refl)
    where
      by : (o : Option (SchemaType Place)) → type_at s (type_name x) ≡ o → Lists (option_map_or (λ (t : SchemaType Place). if is_input_kind t.kind then [] else told_input_type x t.kind ∷ []) o [])
          (λ f. Present ((judged s).type_named (type_name x)) (λ t. (is_input_kind t.kind ≡ false) × (f ≡ told_input_type x t.kind)))
      by None e =
          lists_nothing (λ f. Present ((judged s).type_named (type_name x)) (λ t. (is_input_kind t.kind ≡ false) × (f ≡ told_input_type x t.kind)))
          (λ f q. type_absent s (type_name x) e q)
      by (Some t) e =
          lists_same (if is_input_kind t.kind then [] else told_input_type x t.kind ∷ [])
          (λ f. type_present s (type_name x) t e (λ u. (is_input_kind u.kind ≡ false) × (f ≡ told_input_type x u.kind)))
          (lists_unless (is_input_kind t.kind) (told_input_type x t.kind))

  pub of_input_type : (is_of_input_type s x ≡ true) ↔ Present ((judged s).type_named (wanted_name (wanted_by x.it))) (λ t. is_input_kind t.kind ≡ true)
  of_input_type =
      subst (λ n. (is_of_input_type s x ≡ true) ↔ Present ((judged s).type_named n) (λ t. is_input_kind t.kind ≡ true)) (sym same_name)
      (by (type_at s (type_name x)) refl)
    where
      by : (o : Option (SchemaType Place)) → type_at s (type_name x) ≡ o → (option_map_or (λ (t : SchemaType Place). is_input_kind t.kind) o false ≡ true) ↔ Present ((judged s).type_named (type_name x)) (λ t. is_input_kind t.kind ≡ true)
      by None e = (λ h. absurd (true≢false (sym h)), λ q. absurd (type_absent s (type_name x) e q))
      by (Some t) e = type_present s (type_name x) t e (λ u. is_input_kind u.kind ≡ true)

-- ---- of each of a list

-- one of two holds at some index
pub index_either : {X : Type 0} (xs : List X) (P Q : ℕ → X → Type 0) → AtSomeIndex xs (λ i x. P i x ⊎ Q i x) ↔ (AtSomeIndex xs P ⊎ AtSomeIndex xs Q)
index_either xs P Q = (
  λ a. elim a.1.1.1 [ inl p ↦ inl (a.0, (a.1.0, (a.1.1.0, p))) | inr q ↦ inr (a.0, (a.1.0, (a.1.1.0, q))) ],
  λ h. elim h [ inl a ↦ (a.0, (a.1.0, (a.1.1.0, inl a.1.1.1))) | inr a ↦ (a.0, (a.1.0, (a.1.1.0, inr a.1.1.1))) ],
)

-- other words at each index
pub index_same : {X : Type 0} (xs : List X) (P Q : ℕ → X → Type 0) → ((i : ℕ) (x : X) → P i x ↔ Q i x) → AtSomeIndex xs P ↔ AtSomeIndex xs Q
index_same xs P Q same = (
  λ a. (a.0, (a.1.0, (a.1.1.0, (same a.0 a.1.0).0 a.1.1.1))),
  λ a. (a.0, (a.1.0, (a.1.1.0, (same a.0 a.1.0).1 a.1.1.1))),
)
