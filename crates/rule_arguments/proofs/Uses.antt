-- What is told of uses, by the first that is found, is what the rules on uses tell.
use Rattle.std.proofs.Common.{◌≡◌, ℕ, ◌<◌, ◌⊎◌, ◌↔◌, Bool, true, false, ◌&&◌, List, [], ◌∷◌, take, refl, sym, ap, subst, ◌∙◌, inl, inr, Option, None, Some, is_none, is_some, find, slice_get, Contains, if◌then◌else◌, true≢false}
use Rattle.std.specs.List.{flat_map}
use Rattle.std.specs.Option.{option_map}
use Rattle.graphql_names.specs.Placed.{Placed, Place, unplaced_node}
use Rattle.tree_literals.specs.TypeTree.{TypeTree, NamedTree, NonNullNamedTree, ListTree, NonNullListTree, unplaced_type}
use Rattle.tree_literals.specs.TypeQueries.{has_mark}
use Rattle.tree_literals.specs.ValueTree.{unplaced_value}
use Rattle.tree_literals.specs.ValueQueries.{variable_name}
use Rattle.tree_directives.specs.DirectiveTree.{ArgumentTree, Arguments, DirectiveTree, Directives, InputValueTree, InputValues, DirectiveDefinitionTree, unplaced_input_value, unplaced_directive_definition, input_value_trees}
use Rattle.tree_directives.specs.DirectiveQueries.{is_required_input, given_value, argument_has_name, input_value_has_name, directive_has_name}
use Rattle.tree_directives.specs.declared.directive_location.DirectiveLocation.{DirectiveLocation}
use Rattle.schema_coordinates.specs.Coordinate.{OfDirective, OfDirectiveArgument}
use Rattle.schema_components.specs.Lists.{each_place}
use Rattle.rule_values.specs.in_schema.in_schema_types.SchemaTree.{SchemaTree}
use Rattle.rule_values.specs.in_schema.in_schema_types.Addresses.{Address, ArgumentAt, TypeReferenceAt, DirectiveDefinitionAt, place_at, arguments_at, or_nothing, directive_definition_at}
use Rattle.rule_values.specs.in_rule_definitions.Diagnostics.{UniqueArgument, UndefinedArgument, RequiredArgument, DisallowedVariableUsage, UniqueDirective, UnsupportedLocation}
use Rattle.rule_values.specs.in_rule_definitions.Words.{Present, AtSomeIndex, Lacks, IsFirst, FirstNamed}
use Rattle.rule_values.specs.in_rule_definitions.Faults.{wrong}
use Rattle.rule_values.specs.in_rule_definitions.Judged.{Judged, judged}
use Rattle.rule_values.specs.in_rule_definitions.Names.{defined_name, argument_name, input_name, directive_name}
use Rattle.rule_values.specs.in_rule_definitions.GivenValues.{Variables, is_absent_or_null}
use Rattle.rule_values.specs.in_rule_definitions.Values.{TypeBreaks}
use Rattle.rule_values.specs.in_rule_definitions.VariableUsage.{IsVariableUsageAllowed}
use Rattle.rule_values.specs.in_rule_definitions.Uses.{Taker, directive_taker, UniqueArgumentAt, GivenBreaks, UndefinedArgumentAt, RequiredArgumentAt, DisallowedVariableUsageAt, ArgumentValueBreaks, TakerBreaks, UnsupportedLocationAt, UniqueDirectiveAt, UseBreaks, UsesBreak}
use Rattle.rule_values.specs.in_rule_definitions.PlacedFaults.{PlacedFault}
use Rattle.rule_values.specs.Wanting.{wanted}
use Rattle.rule_arguments.specs.Trees.{plain_inputs, holder_of, TellSamePlaces, TellsPlaces}
use Rattle.rule_arguments.specs.declared.taker.Taker.{Taker as Rust}
use Rattle.rule_arguments.specs.UseFaults.{undefined_directive, repeated_argument, undefined_argument, required_argument, unsupported_location, found_repeated, repeated_directive}
use Rattle.rule_arguments.specs.GivenArguments.{DisallowedUsage, GivenArgumentBreaks, FirstGivenBreaks, DefinedUseBreaks}
use Rattle.rule_arguments.proofs.Moves.{both_ways, same_index_there, each_index, same_lacks, same_first_named}
use Rattle.rule_arguments.proofs.ReadPlaces.{same_type_breaks}
use Rattle.rule_values.proofs.in_rule_definitions.Firsts.{lacks_found, lacks_given, first_is_found, earlier_is_found, not_found, none_found}
use Rattle.rule_values.proofs.in_rule_definitions.Listing.{Lists, lists_same, lists_one, lists_present, lists_absent, lists_when, lists_unless, lists_index, lists_places, lists_nothing}

swap : {A B : Type 0} → A ↔ B → B ↔ A
swap h = (h.1, h.0)

chain : {A B C : Type 0} → A ↔ B → B ↔ C → A ↔ C
chain h k = (λ a. k.0 (h.0 a), λ c. h.1 (k.1 c))

-- ---- arguments

module _ (at : Address → Place) (s : Judged) (variables : Variables Place) where
  pub lists_repeated_arguments : (given : Arguments Place) → Lists (each_place repeated_argument given) (UniqueArgumentAt at s variables given)
  lists_repeated_arguments given =
      lists_places repeated_argument given
      (λ j later f. FirstNamed argument_name given (argument_name later) (λ i first. (i < j) × (f ≡ wrong later.place (UniqueArgument (argument_name later) first.place later.place))))
      (λ j later there. lists_same (repeated_argument (take j given) later)
      (λ f. swap (earlier_is_found argument_name given (argument_name later) j (λ first. f ≡ wrong later.place (UniqueArgument (argument_name later) first.place later.place))))
      (lists_present (find (argument_has_name (argument_name later)) (take j given)) (λ first. wrong later.place (UniqueArgument (argument_name later) first.place later.place) ∷ [])
      (λ first f. f ≡ wrong later.place (UniqueArgument (argument_name later) first.place later.place)) (λ first e. lists_one (wrong later.place (UniqueArgument (argument_name later) first.place later.place)))))

-- what is required does not depend on places
same_mark : (t : TypeTree Place) → has_mark (unplaced_type t) ≡ has_mark t
same_mark (NamedTree n) = refl
same_mark (NonNullNamedTree n) = refl
same_mark (ListTree t) = refl
same_mark (NonNullListTree t) = refl

same_none : {X Y : Type 0} (f : X → Y) (o : Option X) → is_none (option_map f o) ≡ is_none o
same_none f None = refl
same_none f (Some x) = refl

same_required : (v : InputValueTree Place) → is_required_input (unplaced_input_value v) ≡ is_required_input v
same_required v = λ i. same_mark v.ty.it i && same_none (unplaced_node unplaced_value) v.default_value i

both_true : (a b : Bool) → ((a && b) ≡ true) ↔ ((a ≡ true) × (b ≡ true))
both_true true b = (λ h. (refl, h), λ h. h.1)
both_true false b = (λ h. absurd (true≢false (sym h)), λ h. h.0)

module _ (at : Address → Place) (s : SchemaTree Place) (variables : Variables Place) (taker : Taker Place) (definitions : InputValues Place) (alike : TellSamePlaces at (place_at s))
    (places : (i : ℕ) (v : Placed Place (InputValueTree Place)) → slice_get definitions i ≡ Some v → (at (ArgumentAt taker.holder i) ≡ v.place) × (at (TypeReferenceAt (ArgumentAt taker.holder i)) ≡ v.it.ty.place)) where
  abbrev T : Taker Place
  T = record taker { definitions = plain_inputs definitions }

  pub lists_undefined_arguments : Lists (flat_map (undefined_argument T definitions) T.given) (UndefinedArgumentAt at (judged s) variables T)
  lists_undefined_arguments =
      lists_index T.given (undefined_argument T definitions)
      (λ j a f. Lacks input_name T.definitions (argument_name a) × (f ≡ wrong a.place (UndefinedArgument (argument_name a) T.coordinate T.definition_location)))
      (λ j a there. lists_same (undefined_argument T definitions a)
      (λ f. both_ways (chain (lacks_found input_name definitions (argument_name a), lacks_given input_name definitions (argument_name a)) (same_lacks (unplaced_node unplaced_input_value) input_name definitions (argument_name a))) (λ h. h, λ h. h))
      (lists_absent (find (input_value_has_name (argument_name a)) definitions) (wrong a.place (UndefinedArgument (argument_name a) T.coordinate T.definition_location))))

  abbrev told_required : Place → InputValueTree (Unit {0}) → List ℕ → PlacedFault
  told_required place v n = wrong T.place (RequiredArgument n (T.argument_coordinate n) v.ty.it place)

  pub lists_required_arguments : Lists (flat_map (required_argument T) definitions) (RequiredArgumentAt at (judged s) variables T)
  lists_required_arguments =
      lists_same (flat_map (required_argument T) definitions)
      (λ f. same_index_there (unplaced_node unplaced_input_value) definitions
      (λ i v. ((is_required_input v.it && is_absent_or_null (given_value (input_name v) T.given)) ≡ true) × (f ≡ told_required v.place (unplaced_input_value v.it) (input_name v)))
      (λ i v. (is_required_input v.it ≡ true) × ((is_absent_or_null (given_value (input_name v) T.given) ≡ true) × (f ≡ told_required (at (ArgumentAt T.holder i)) v.it (input_name v))))
      (λ i v there. required_so f i v there))
      (lists_index definitions (required_argument T)
      (λ i v f. ((is_required_input v.it && is_absent_or_null (given_value (input_name v) T.given)) ≡ true) × (f ≡ told_required v.place (unplaced_input_value v.it) (input_name v)))
      (λ i v there. lists_when (is_required_input v.it && is_absent_or_null (given_value (input_name v) T.given)) (told_required v.place (unplaced_input_value v.it) (input_name v))))
    where
      required_so : (f : PlacedFault) (i : ℕ) (v : Placed Place (InputValueTree Place)) → slice_get definitions i ≡ Some v
          → (((is_required_input v.it && is_absent_or_null (given_value (input_name v) T.given)) ≡ true) × (f ≡ told_required v.place (unplaced_input_value v.it) (input_name v)))
          ↔ ((is_required_input (unplaced_input_value v.it) ≡ true) × ((is_absent_or_null (given_value (input_name v) T.given) ≡ true) × (f ≡ told_required (at (ArgumentAt T.holder i)) (unplaced_input_value v.it) (input_name v))))
      required_so f i v there =
          let e = (places i v there).0 in
          let same = same_required v.it in (
            λ h. let r = (both_true _ _).0 h.0 in (same ∙ r.0, (r.1, h.1 ∙ ap (λ p. told_required p (unplaced_input_value v.it) (input_name v)) (sym e))),
            λ q. ((both_true _ _).1 (sym same ∙ q.0, q.1.0), q.1.1 ∙ ap (λ p. told_required p (unplaced_input_value v.it) (input_name v)) e),
          )

  -- what is said of the definition and the argument
  abbrev Usage : InputValueTree (Unit {0}) → Placed Place (ArgumentTree Place) → PlacedFault → Type 0
  Usage v a f = Present (variable_name a.it.value.it) (λ n. FirstNamed defined_name variables n.it (λ k x.
      (IsVariableUsageAllowed x.it v → ⊥) × (f ≡ wrong a.place (DisallowedVariableUsage n.it (unplaced_type x.it.ty.it) x.place (argument_name a) v.ty.it a.place))))

  abbrev Against : Address → InputValueTree (Unit {0}) → Placed Place (ArgumentTree Place) → PlacedFault → Type 0
  Against defined v a f = TypeBreaks at (judged s) variables (record { it = v.ty.it; place = at (TypeReferenceAt defined) }) a.it.value.place a.it.value.it f

  same_usage : (v : InputValueTree Place) (a : Placed Place (ArgumentTree Place)) (f : PlacedFault) → Usage (unplaced_input_value v) a f ↔ DisallowedUsage variables v a f
  same_usage v a f =
      let found = λ (n : List ℕ). first_is_found defined_name variables n
      (λ k x. (IsVariableUsageAllowed x.it (unplaced_input_value v) → ⊥) × (f ≡ wrong a.place (DisallowedVariableUsage n (unplaced_type x.it.ty.it) x.place (argument_name a) (unplaced_type v.ty.it) a.place)))
      (λ x. (IsVariableUsageAllowed x.it (unplaced_input_value v) → ⊥) × (f ≡ wrong a.place (DisallowedVariableUsage n (unplaced_type x.it.ty.it) x.place (argument_name a) (unplaced_type v.ty.it) a.place)))
      (λ k x there. (λ h. h, λ h. h)) in
      (λ h. (h.0, (h.1.0, (found h.0.it).0 h.1.1)), λ q. (q.0, (q.1.0, (found q.0.it).1 q.1.1)))

  same_argument : (a : Placed Place (ArgumentTree Place)) (f : PlacedFault) (i : ℕ) (v : Placed Place (InputValueTree Place)) → slice_get definitions i ≡ Some v
      → (Usage (unplaced_input_value v.it) a f ⊎ Against (ArgumentAt T.holder i) (unplaced_input_value v.it) a f) ↔ GivenArgumentBreaks s variables v.it a f
  same_argument a f i v there =
      let e = (places i v there).1 in
      let same = same_type_breaks at (place_at s) alike (judged s) variables (wanted v.it.ty.it v.it.ty.place) a.it.value.place a.it.value.it f in
      let usage = same_usage v.it a f in (
        λ h. elim h [
          | inl u ↦ inl (usage.0 u)
          | inr t ↦ inr (subst (λ X. X) same (subst (λ p. TypeBreaks at (judged s) variables (wanted v.it.ty.it p) a.it.value.place a.it.value.it f) e t))
        ],
        λ q. elim q [
          | inl u ↦ inl (usage.1 u)
          | inr t ↦ inr (subst (λ p. TypeBreaks at (judged s) variables (wanted v.it.ty.it p) a.it.value.place a.it.value.it f) (sym e) (subst (λ X. X) (sym same) t))
        ],
      )

  -- of the first that is given of a name, and its definition
  abbrev Either : Address → InputValueTree (Unit {0}) → Placed Place (ArgumentTree Place) → PlacedFault → Type 0
  Either defined v a f = Usage v a f ⊎ Against defined v a f

  same_given : (f : PlacedFault) (j : ℕ) (a : Placed Place (ArgumentTree Place))
      → FirstGivenBreaks s variables definitions (take j T.given) a f
      ↔ (IsFirst argument_name T.given (argument_name a) j × FirstNamed input_name T.definitions (argument_name a) (λ i v. Either (ArgumentAt T.holder i) v.it a f))
  same_given f j a =
      both_ways
      (not_found argument_name T.given (argument_name a) j, none_found argument_name T.given (argument_name a) j)
      (chain
      (swap (first_is_found input_name definitions (argument_name a) (λ i v. Either (ArgumentAt T.holder i) (unplaced_input_value v.it) a f) (λ v. GivenArgumentBreaks s variables v.it a f) (same_argument a f)))
      (same_first_named (unplaced_node unplaced_input_value) input_name definitions (argument_name a) (λ i v. Either (ArgumentAt T.holder i) v.it a f)))

  pub given_arguments : (f : PlacedFault) → AtSomeIndex T.given (λ j a. FirstGivenBreaks s variables definitions (take j T.given) a f)
      ↔ (DisallowedVariableUsageAt at (judged s) variables T f ⊎ ArgumentValueBreaks at (judged s) variables T f)
  given_arguments f =
      chain
      (each_index T.given (λ j a. FirstGivenBreaks s variables definitions (take j T.given) a f)
      (λ j a. IsFirst argument_name T.given (argument_name a) j × FirstNamed input_name T.definitions (argument_name a) (λ i v. Either (ArgumentAt T.holder i) v.it a f)) (λ j a there. same_given f j a))
      (split, joined)
    where
      split : AtSomeIndex T.given (λ j a. IsFirst argument_name T.given (argument_name a) j × FirstNamed input_name T.definitions (argument_name a) (λ i v. Either (ArgumentAt T.holder i) v.it a f))
          → DisallowedVariableUsageAt at (judged s) variables T f ⊎ ArgumentValueBreaks at (judged s) variables T f
      split (j, (a, (there, (first, (i, (v, (here, (name, (first', inl u))))))))) = inl (j, (a, (there, (first, (i, (v, (here, (name, (first', u)))))))))
      split (j, (a, (there, (first, (i, (v, (here, (name, (first', inr t))))))))) = inr (j, (a, (there, (first, (i, (v, (here, (name, (first', t)))))))))

      joined : DisallowedVariableUsageAt at (judged s) variables T f ⊎ ArgumentValueBreaks at (judged s) variables T f
          → AtSomeIndex T.given (λ j a. IsFirst argument_name T.given (argument_name a) j × FirstNamed input_name T.definitions (argument_name a) (λ i v. Either (ArgumentAt T.holder i) v.it a f))
      joined (inl (j, (a, (there, (first, (i, (v, (here, (name, (first', u)))))))))) = (j, (a, (there, (first, (i, (v, (here, (name, (first', inl u)))))))))
      joined (inr (j, (a, (there, (first, (i, (v, (here, (name, (first', t)))))))))) = (j, (a, (there, (first, (i, (v, (here, (name, (first', inr t)))))))))

-- the places of a schema are those of the definitions that are in it
pub lies_in : (s : SchemaTree Place) (t : Rust) → arguments_at s (holder_of t.name) ≡ input_value_trees t.definitions.now → TellsPlaces (place_at s) s t
lies_in s t stands = record {
  schema = record { types = λ n. refl; inputs = λ n m. refl; references = λ n m. refl };
  arguments = λ i v e. let there = ap (λ l. slice_get l i) stands ∙ e in (
    ap (λ o. or_nothing (option_map (λ x. x.place) o)) there,
    ap (λ o. or_nothing (option_map (λ (x : Placed Place (InputValueTree Place)). x.it.ty.place) o)) there,
  );
}

-- ---- directives

-- a use of a directive as what takes arguments, part by part
abbrev pub use_taker : Place → Arguments Place → List ℕ → InputValues Place → Taker Place
use_taker p given n definitions = record {
  place = p;
  given = given;
  holder = DirectiveDefinitionAt n;
  definitions = plain_inputs definitions;
  definition_location = p;
  coordinate = OfDirective n;
  argument_coordinate = OfDirectiveArgument n;
}

pub same_taker : (d : Placed Place (DirectiveTree Place)) (p : Place) (given : Arguments Place) (n : List ℕ) (definitions own : InputValues Place)
    → p ≡ d.place → given ≡ d.it.arguments → n ≡ directive_name d → definitions ≡ own → use_taker p given n definitions ≡ directive_taker d (plain_inputs own)
same_taker d p given n definitions own e f g h = λ i. use_taker (e i) (f i) (g i) (h i)

module _ (s : SchemaTree Place) (variables : Variables Place) (defined : (n : List ℕ) → (judged s).directive n ≡ option_map (λ d. unplaced_directive_definition d.it) (directive_definition_at s n)) where
  -- what is said of a directive's definition
  of_definition : (n : List ℕ) (P : DirectiveDefinitionTree (Unit {0}) → Type 0) → Present ((judged s).directive n) P ↔ Present (directive_definition_at s n) (λ d. P (unplaced_directive_definition d.it))
  of_definition n P = subst (λ o. Present o P ↔ Present (directive_definition_at s n) (λ d. P (unplaced_directive_definition d.it))) (sym (defined n)) (by (directive_definition_at s n))
    where
      by : (o : Option (Placed Place (DirectiveDefinitionTree Place))) → Present (option_map (λ d. unplaced_directive_definition d.it) o) P ↔ Present o (λ d. P (unplaced_directive_definition d.it))
      by None = (λ h. cc, λ h. cc)
      by (Some d) = (
        λ h. let e : unplaced_directive_definition d.it ≡ h.0 = cc in (d, (refl, subst P (sym e) h.1.1)),
        λ h. let e : d ≡ h.0 = cc in (unplaced_directive_definition d.it, (refl, subst (λ x. P (unplaced_directive_definition x.it)) (sym e) h.1.1)),
      )

  abbrev told_repeated : Placed Place (DirectiveTree Place) → Placed Place (DirectiveTree Place) → PlacedFault
  told_repeated first later = wrong later.place (UniqueDirective (directive_name later) first.place)

  pub lists_repeated_directives : (ds : Directives Place) → Lists (each_place (λ before d. repeated_directive (directive_definition_at s (directive_name d)) before d) ds) (UniqueDirectiveAt (place_at s) (judged s) variables ds)
  lists_repeated_directives ds =
      lists_places (λ before d. repeated_directive (directive_definition_at s (directive_name d)) before d) ds
      (λ j later f. FirstNamed directive_name ds (directive_name later) (λ i first. (i < j) × Present ((judged s).directive (directive_name later)) (λ x. (x.repeatable ≡ false) × (f ≡ told_repeated first later))))
      (λ j later there. lists_same (repeated_directive (directive_definition_at s (directive_name later)) (take j ds) later) (λ f. same f j later)
      (lists_present (directive_definition_at s (directive_name later)) (λ x. if x.it.repeatable then [] else found_repeated (take j ds) later)
      (λ x f. (x.it.repeatable ≡ false) × Present (find (directive_has_name (directive_name later)) (take j ds)) (λ first. f ≡ told_repeated first later))
      (λ x e. by (take j ds) later x.it.repeatable)))
    where
      by : (before : Directives Place) (later : Placed Place (DirectiveTree Place)) (b : Bool) → Lists (if b then [] else found_repeated before later)
          (λ f. (b ≡ false) × Present (find (directive_has_name (directive_name later)) before) (λ first. f ≡ told_repeated first later))
      by before later true = lists_nothing (λ f. (true ≡ false) × Present (find (directive_has_name (directive_name later)) before) (λ first. f ≡ told_repeated first later)) (λ f r. true≢false r.0)
      by before later false =
          lists_same (found_repeated before later) (λ f. (λ h. (refl, h), λ h. h.1))
          (lists_present (find (directive_has_name (directive_name later)) before) (λ first. told_repeated first later ∷ []) (λ first f. f ≡ told_repeated first later) (λ first e. lists_one (told_repeated first later)))

      same : (f : PlacedFault) (j : ℕ) (later : Placed Place (DirectiveTree Place))
          → Present (directive_definition_at s (directive_name later)) (λ x. (x.it.repeatable ≡ false) × Present (find (directive_has_name (directive_name later)) (take j ds)) (λ first. f ≡ told_repeated first later))
          ↔ FirstNamed directive_name ds (directive_name later) (λ i first. (i < j) × Present ((judged s).directive (directive_name later)) (λ x. (x.repeatable ≡ false) × (f ≡ told_repeated first later)))
      same f j later =
          chain (
            λ h. (h.1.1.1.0, (h.1.1.1.1.0, (of_definition (directive_name later) (λ x. (x.repeatable ≡ false) × (f ≡ told_repeated h.1.1.1.0 later))).1 (h.0, (h.1.0, (h.1.1.0, h.1.1.1.1.1))))),
            λ q. let d = (of_definition (directive_name later) (λ x. (x.repeatable ≡ false) × (f ≡ told_repeated q.0 later))).0 q.1.1 in (d.0, (d.1.0, (d.1.1.0, (q.0, (q.1.0, d.1.1.1))))),
          )
          (swap (earlier_is_found directive_name ds (directive_name later) j (λ first. Present ((judged s).directive (directive_name later)) (λ x. (x.repeatable ≡ false) × (f ≡ told_repeated first later)))))

  -- where the definition is found
  module _ (location : DirectiveLocation) (d : Placed Place (DirectiveTree Place)) (definition : Placed Place (DirectiveDefinitionTree Place)) (found : directive_definition_at s (directive_name d) ≡ Some definition) where
    definition_place : place_at s (DirectiveDefinitionAt (directive_name d)) ≡ definition.place
    definition_place = ap (λ o. or_nothing (option_map (λ x. x.place) o)) found

    -- what holds of the definition that is found
    of_found : (P : DirectiveDefinitionTree (Unit {0}) → Type 0) → Present ((judged s).directive (directive_name d)) P ↔ P (unplaced_directive_definition definition.it)
    of_found P = chain (of_definition (directive_name d) P) (
      λ h. let e : definition ≡ h.0 = cc in subst (λ x. P (unplaced_directive_definition x.it)) (sym e) h.1.1,
      λ p. (definition, (found, p)),
    )

    pub lists_unsupported_location : (b : Bool) → (b ≡ true) ↔ Contains definition.it.locations location → Lists (unsupported_location b definition location d) (UnsupportedLocationAt (place_at s) (judged s) variables location d)
    lists_unsupported_location b test =
        lists_same (unsupported_location b definition location d) (λ f. chain (same f) (swap (of_found (λ x. (Contains x.locations location → ⊥) × (f ≡ told (place_at s (DirectiveDefinitionAt (directive_name d))) x.locations)))))
        (lists_unless b (told definition.place definition.it.locations))
      where
        told : Place → List DirectiveLocation → PlacedFault
        told place ls = wrong d.place (UnsupportedLocation (directive_name d) location ls place)

        no : (c : Bool) → (c ≡ false) ↔ ((c ≡ true) → ⊥)
        no true = (λ h e. true≢false h, λ h. absurd (h refl))
        no false = (λ h e. true≢false (sym e), λ h. refl)

        same : (f : PlacedFault) → ((b ≡ false) × (f ≡ told definition.place definition.it.locations)) ↔ ((Contains definition.it.locations location → ⊥) × (f ≡ told (place_at s (DirectiveDefinitionAt (directive_name d))) definition.it.locations))
        same f = (
          λ h. (λ c. (no b).0 h.0 (test.1 c), h.1 ∙ ap (λ p. told p definition.it.locations) (sym definition_place)),
          λ q. ((no b).1 (λ t. q.0 (test.0 t)), q.1 ∙ ap (λ p. told p definition.it.locations) definition_place),
        )

    -- the rules on one use
    pub use_found : (f : PlacedFault) → (GivenBreaks (place_at s) (judged s) variables d.it.arguments f ⊎ DefinedUseBreaks s variables location d definition.it.arguments f) ↔ UseBreaks (place_at s) (judged s) variables location d f
    use_found f =
        let taken = of_found (λ x. TakerBreaks (place_at s) (judged s) variables (directive_taker d x.arguments) f) in (
          λ h. elim h [ inl g ↦ inr (inr (inl g)) | inr u ↦ elim u [ inl l ↦ inr (inl l) | inr t ↦ inr (inr (inr (taken.1 t))) ] ],
          λ q. elim q [
            | inl n ↦ absurd (there n.0)
            | inr r ↦ elim r [ inl l ↦ inr (inl l) | inr r' ↦ elim r' [ inl g ↦ inl g | inr t ↦ inr (inr (taken.0 t)) ] ]
          ],
        )
      where
        there : (judged s).directive (directive_name d) ≡ None → ⊥
        there n = let e : Some (unplaced_directive_definition definition.it) ≡ None = ap (option_map (λ x. unplaced_directive_definition x.it)) (sym found) ∙ sym (defined (directive_name d)) ∙ n in cc

  -- where there is none
  pub use_undefined : (location : DirectiveLocation) (d : Placed Place (DirectiveTree Place)) → directive_definition_at s (directive_name d) ≡ None → (f : PlacedFault)
      → (GivenBreaks (place_at s) (judged s) variables d.it.arguments f ⊎ (f ≡ undefined_directive d)) ↔ UseBreaks (place_at s) (judged s) variables location d f
  use_undefined location d none f = (
    λ h. elim h [ inl g ↦ inr (inr (inl g)) | inr e ↦ inl (gone, e) ],
    λ q. elim q [
      | inl n ↦ inr n.1
      | inr r ↦ elim r [ inl l ↦ absurd (no l.1.0) | inr r' ↦ elim r' [ inl g ↦ inl g | inr t ↦ absurd (no t.1.0) ] ]
    ],
  )
    where
      gone : (judged s).directive (directive_name d) ≡ None
      gone = defined (directive_name d) ∙ ap (option_map (λ x. unplaced_directive_definition x.it)) none

      no : {x : DirectiveDefinitionTree (Unit {0})} → (judged s).directive (directive_name d) ≡ Some x → ⊥
      no e = true≢false (ap is_some (sym e ∙ gone))

  -- where nothing is defined
  pub uses_undefined : ((n : List ℕ) → directive_definition_at s n ≡ None) → (location : DirectiveLocation) (ds : Directives Place) (f : PlacedFault)
      → AtSomeIndex ds (λ i d. UseBreaks (place_at s) (judged s) variables location d f) ↔ UsesBreak (place_at s) (judged s) variables location ds f
  uses_undefined nothing location ds f = (
    λ h. inr h,
    λ h. elim h [ inl u ↦ let later = u.1.0 in let q = u.1.1.1 in absurd (no (directive_name later) q.1.1.1.1.1.1.1.0) | inr r ↦ r ],
  )
    where
      no : {x : DirectiveDefinitionTree (Unit {0})} (n : List ℕ) → (judged s).directive n ≡ Some x → ⊥
      no n e = true≢false (ap is_some (sym e ∙ defined n ∙ ap (option_map (λ x. unplaced_directive_definition x.it)) (nothing n)))
