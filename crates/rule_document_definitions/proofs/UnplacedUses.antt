-- What rules on the use of directives and arguments tell of them without places.
use Rattle.std.proofs.Common.{◌≡◌, ◌↔◌, ℕ, true, false, List, map, find, refl, sym, ap, subst, ◌∙◌, Option, None, Some, is_some}
use Rattle.std.specs.Option.{option_map}
use Rattle.graphql_names.specs.Placed.{Placed, unplaced_text, unplaced_node}
use Rattle.tree_literals.specs.TypeTree.{TypeTree, unplaced_type}
use Rattle.tree_literals.specs.TypeQueries.{AreTypesCompatible, nullable_type}
use Rattle.tree_literals.specs.ValueTree.{ValueTree, unplaced_value}
use Rattle.tree_literals.specs.ValueQueries.{variable_name}
use Rattle.tree_directives.specs.DirectiveTree.{ArgumentTree, Arguments, DirectiveTree, Directives, InputValueTree, unplaced_argument, unplaced_directive}
use Rattle.tree_directives.specs.DirectiveQueries.{given_value, argument_has_name}
use Rattle.tree_directives.specs.declared.directive_location.DirectiveLocation.{DirectiveLocation}
use Rattle.tree_operations.specs.OperationTree.{VariableDefinitionTree, unplaced_variable_definition}
use Rattle.rule_definitions.specs.in_schema_types.Addresses.{Address, ArgumentAt, TypeReferenceAt}
use Rattle.rule_definitions.specs.Diagnostics.{DisallowedVariableUsage}
use Rattle.rule_definitions.specs.Words.{Present, FirstNamed}
use Rattle.rule_definitions.specs.Faults.{FaultAt, wrong}
use Rattle.rule_definitions.specs.Judged.{Judged}
use Rattle.rule_definitions.specs.Names.{defined_name, argument_name, input_name, directive_name}
use Rattle.rule_definitions.specs.GivenValues.{Variables, is_absent_or_null}
use Rattle.rule_definitions.specs.Values.{TypeBreaks}
use Rattle.rule_definitions.specs.VariableUsage.{IsVariableUsageAllowed}
use Rattle.rule_definitions.specs.Uses.{Taker, directive_taker, UniqueArgumentAt, GivenBreaks, AtArgumentGiven, UndefinedArgumentAt, RequiredArgumentAt, DisallowedVariableUsageAt, ArgumentValueBreaks, TakerBreaks, UndefinedDirectiveAt, UniqueDirectiveAt, UseBreaks, UsesBreak}
use Rattle.rule_document_definitions.specs.FaultsUnplaced.{unplaced_wrong}
use Rattle.rule_document_definitions.proofs.Moves.{same, both_ways, either_way, neither, equal_to, same_first, find_map, moves_fault, moves_either, moves_where, moves_same, moves_present, moves_index, moves_first, moves_repeats, moves_same_index, moves_same_first}
use Rattle.rule_document_definitions.proofs.UnplacedValues.{bare_value, bare_variable, Bared, Moved, moves_wrong, absent_same, variable_same, type_twice, mark_same, unique_input_value_bared, undefined_variable_bared, type_breaks_bared}

module _ {P : Type 0} where
  abbrev pub bare_argument : Placed P (ArgumentTree P) → Placed (Unit {0}) (ArgumentTree (Unit {0}))
  bare_argument a = unplaced_node unplaced_argument a

  abbrev pub bare_directive : Placed P (DirectiveTree P) → Placed (Unit {0}) (DirectiveTree (Unit {0}))
  bare_directive d = unplaced_node unplaced_directive d

  abbrev pub bare_taker : Taker P → Taker (Unit {0})
  bare_taker t = record {
    place = tt;
    given = map bare_argument t.given;
    holder = t.holder;
    definitions = t.definitions;
    definition_location = tt;
    coordinate = t.coordinate;
    argument_coordinate = t.argument_coordinate;
  }

  value_of_argument : (o : Option (Placed P (ArgumentTree P))) → option_map (λ a. a.it.value) (option_map bare_argument o) ≡ option_map bare_value (option_map (λ a. a.it.value) o)
  value_of_argument None = refl
  value_of_argument (Some a) = refl

  -- what is given for an argument
  pub given_value_same : (n : List ℕ) (given : Arguments P) → given_value n (map bare_argument given) ≡ option_map bare_value (given_value n given)
  given_value_same n given =
      ap (λ (o : Option (Placed (Unit {0}) (ArgumentTree (Unit {0})))). option_map (λ (a : Placed (Unit {0}) (ArgumentTree (Unit {0}))). a.it.value) o) (find_map bare_argument (argument_has_name n) given)
      ∙ value_of_argument (find (argument_has_name n) given)

  given_absent : (n : List ℕ) (given : Arguments P) → (is_absent_or_null (given_value n given) ≡ true) ↔ (is_absent_or_null (given_value n (map bare_argument given)) ≡ true)
  given_absent n given = equal_to true (sym (ap is_absent_or_null (given_value_same n given) ∙ absent_same (given_value n given)))

  default_same : (o : Option (Placed P (ValueTree P))) → is_some (option_map bare_value o) ≡ is_some o
  default_same None = refl
  default_same (Some v) = refl

  -- a variable may stand where it may without places
  usage_same : (x : VariableDefinitionTree P) (v : InputValueTree (Unit {0})) → IsVariableUsageAllowed x v ↔ IsVariableUsageAllowed (unplaced_variable_definition x) v
  usage_same x v = either_way (fits v.ty.it) (both_ways
      (both_ways (equal_to false (sym (mark_same x.ty.it))) same)
      (both_ways (either_way (equal_to true (sym (default_same x.default_value))) same) (fits (nullable_type v.ty.it))))
    where
      fits : (t : TypeTree (Unit {0})) → AreTypesCompatible (unplaced_type x.ty.it) t ↔ AreTypesCompatible (unplaced_type (unplaced_type x.ty.it)) t
      fits t = (subst (λ z. AreTypesCompatible z t) (sym (type_twice x.ty.it)), subst (λ z. AreTypesCompatible z t) (type_twice x.ty.it))

module _ {P E : Type 0} (at : Address → P) (s : Judged) (variables : Variables P) where
  -- ---- arguments

  pub unique_argument_bared : (given : Arguments P) → Moved {E = E} (UniqueArgumentAt at s variables given) (UniqueArgumentAt (λ a. tt) s (map bare_variable variables) (map bare_argument given))
  unique_argument_bared given =
      moves_repeats Bared bare_argument argument_name given _ _ (λ i first j later. moves_wrong later.place _)

  pub given_bared : (given : Arguments P) → Moved {E = E} (GivenBreaks at s variables given) (GivenBreaks (λ a. tt) s (map bare_variable variables) (map bare_argument given))
  given_bared given =
      moves_either Bared (unique_argument_bared given)
      (moves_index Bared bare_argument given (map bare_argument given) refl _ _ (λ i a.
      moves_either Bared (unique_input_value_bared a.it.value.it) (undefined_variable_bared variables a.it.value.place a.it.value.it)))

  module _ (taker : Taker P) where
    argument_given_bared : (R : Address → InputValueTree (Unit {0}) → Placed P (ArgumentTree P) → FaultAt P E → Type 0)
        (S : Address → InputValueTree (Unit {0}) → Placed (Unit {0}) (ArgumentTree (Unit {0})) → FaultAt (Unit {0}) (Unit {0}) → Type 0)
        → ((a : Address) (v : InputValueTree (Unit {0})) (x : Placed P (ArgumentTree P)) → Moved (R a v x) (S a v (bare_argument x)))
        → Moved (λ g. AtArgumentGiven at s variables taker g (λ a v x. R a v x g)) (λ f. AtArgumentGiven (λ a. tt) s (map bare_variable variables) (bare_taker taker) f (λ a v x. S a v x f))
    argument_given_bared R S each =
        moves_index Bared bare_argument taker.given (map bare_argument taker.given) refl _ _ (λ j a.
        moves_where Bared (same_first bare_argument argument_name taker.given (argument_name a) j)
        (moves_same_first Bared input_name taker.definitions (argument_name a) _ _ (λ i v. each (ArgumentAt taker.holder i) v.it a)))

    undefined_argument_bared : Moved {E = E} (UndefinedArgumentAt at s variables taker) (UndefinedArgumentAt (λ a. tt) s (map bare_variable variables) (bare_taker taker))
    undefined_argument_bared =
        moves_index Bared bare_argument taker.given (map bare_argument taker.given) refl _ _ (λ j a.
        moves_where Bared same (moves_wrong a.place _))

    required_argument_bared : Moved {E = E} (RequiredArgumentAt at s variables taker) (RequiredArgumentAt (λ a. tt) s (map bare_variable variables) (bare_taker taker))
    required_argument_bared =
        moves_same_index Bared taker.definitions _ _ (λ i v.
        moves_where Bared same
        (moves_where Bared (given_absent (input_name v) taker.given) (moves_wrong taker.place _)))

    disallowed_variable_usage_bared : Moved {E = E} (DisallowedVariableUsageAt at s variables taker) (DisallowedVariableUsageAt (λ a. tt) s (map bare_variable variables) (bare_taker taker))
    disallowed_variable_usage_bared =
        argument_given_bared
        (λ a v x g. Present (variable_name x.it.value.it) (λ n. FirstNamed defined_name variables n.it (λ k d. (IsVariableUsageAllowed d.it v → ⊥)
        × (g ≡ wrong x.place (DisallowedVariableUsage n.it (unplaced_type d.it.ty.it) d.place (argument_name x) v.ty.it x.place)))))
        (λ a v x f. Present (variable_name x.it.value.it) (λ n. FirstNamed defined_name (map bare_variable variables) n.it (λ k d. (IsVariableUsageAllowed d.it v → ⊥)
        × (f ≡ wrong x.place (DisallowedVariableUsage n.it (unplaced_type d.it.ty.it) d.place (argument_name x) v.ty.it x.place)))))
        (λ a v x.
        moves_present Bared unplaced_text (variable_name x.it.value.it) (variable_name (unplaced_value x.it.value.it)) (variable_same x.it.value.it) _ _ (λ n.
        moves_first Bared bare_variable defined_name variables n.it _ _ (λ k d.
        moves_where Bared (neither (usage_same d.it v))
        (moves_fault unplaced_wrong
        (wrong x.place (DisallowedVariableUsage n.it (unplaced_type d.it.ty.it) d.place (argument_name x) v.ty.it x.place))
        (wrong tt (DisallowedVariableUsage n.it (unplaced_type (unplaced_type d.it.ty.it)) tt (argument_name x) v.ty.it tt))
        (ap (λ t. wrong tt (DisallowedVariableUsage n.it t tt (argument_name x) v.ty.it tt)) (sym (type_twice d.it.ty.it)))))))

    argument_value_bared : Moved {E = E} (ArgumentValueBreaks at s variables taker) (ArgumentValueBreaks (λ a. tt) s (map bare_variable variables) (bare_taker taker))
    argument_value_bared =
        argument_given_bared
        (λ defined v a g. TypeBreaks at s variables (record { it = v.ty.it; place = at (TypeReferenceAt defined) }) a.it.value.place a.it.value.it g)
        (λ defined v a f. TypeBreaks (λ x. tt) s (map bare_variable variables) (record { it = v.ty.it; place = tt }) a.it.value.place a.it.value.it f)
        (λ defined v a. type_breaks_bared variables at s (record { it = v.ty.it; place = at (TypeReferenceAt defined) }) a.it.value.place a.it.value.it)

    pub taker_bared : Moved {E = E} (TakerBreaks at s variables taker) (TakerBreaks (λ a. tt) s (map bare_variable variables) (bare_taker taker))
    taker_bared =
        moves_either Bared undefined_argument_bared
        (moves_either Bared required_argument_bared
        (moves_either Bared disallowed_variable_usage_bared argument_value_bared))

  -- ---- directives

  pub undefined_directive_bared : (d : Placed P (DirectiveTree P)) → Moved {E = E} (UndefinedDirectiveAt at s variables d) (UndefinedDirectiveAt (λ a. tt) s (map bare_variable variables) (bare_directive d))
  undefined_directive_bared d = moves_where Bared same (moves_wrong d.place _)

  use_bared : (location : DirectiveLocation) (d : Placed P (DirectiveTree P)) → Moved {E = E} (UseBreaks at s variables location d) (UseBreaks (λ a. tt) s (map bare_variable variables) location (bare_directive d))
  use_bared location d =
      moves_either Bared (undefined_directive_bared d)
      (moves_either Bared
      (moves_same Bared (s.directive (directive_name d)) _ _ (λ defined. moves_where Bared same (moves_wrong d.place _)))
      (moves_either Bared (given_bared d.it.arguments)
      (moves_same Bared (s.directive (directive_name d)) _ _ (λ defined. taker_bared (directive_taker d defined.arguments)))))

  unique_directive_bared : (ds : Directives P) → Moved {E = E} (UniqueDirectiveAt at s variables ds) (UniqueDirectiveAt (λ a. tt) s (map bare_variable variables) (map bare_directive ds))
  unique_directive_bared ds =
      moves_repeats Bared bare_directive directive_name ds _ _ (λ i first j later.
      moves_same Bared (s.directive (directive_name later)) _ _ (λ defined. moves_where Bared same (moves_wrong later.place _)))

  -- all rules on the directives that are used at one place
  pub uses_bared : (location : DirectiveLocation) (ds : Directives P) → Moved {E = E} (UsesBreak at s variables location ds) (UsesBreak (λ a. tt) s (map bare_variable variables) location (map bare_directive ds))
  uses_bared location ds =
      moves_either Bared (unique_directive_bared ds)
      (moves_index Bared bare_directive ds (map bare_directive ds) refl _ _ (λ i d. use_bared location d))
