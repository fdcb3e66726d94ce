-- What rules on the use of directives and arguments tell of them at other places.
use Rattle.std.proofs.Common.{◌≡◌, ℕ, List, [], map, refl, sym, ap, ◌∙◌, Option, None, Some, is_some, true≢false, find}
use Rattle.std.specs.Option.{option_map}
use Rattle.graphql_names.specs.Placed.{Placed}
use Rattle.tree_directives.specs.DirectiveTree.{ArgumentTree, Arguments, DirectiveTree, Directives, InputValueTree}
use Rattle.tree_directives.specs.DirectiveQueries.{given_value, argument_has_name}
use Rattle.tree_directives.specs.declared.directive_location.DirectiveLocation.{DirectiveLocation}
use Rattle.schema_types.specs.Addresses.{Address, DirectiveDefinitionAt, ArgumentAt, TypeReferenceAt}
use Rattle.rule_values.specs.in_rule_definitions.Diagnostics.{Diagnostic}
use Rattle.rule_values.specs.in_rule_definitions.Faults.{FaultAt}
use Rattle.rule_values.specs.in_rule_definitions.Judged.{Judged}
use Rattle.rule_values.specs.in_rule_definitions.GivenValues.{is_absent_or_null}
use Rattle.rule_values.specs.in_rule_definitions.Values.{TypeBreaks}
use Rattle.rule_values.specs.in_rule_definitions.Names.{argument_name, input_name, directive_name}
use Rattle.rule_values.specs.in_rule_definitions.Uses.{Taker, directive_taker, UniqueArgumentAt, GivenBreaks, AtArgumentGiven, UndefinedArgumentAt, RequiredArgumentAt, DisallowedVariableUsageAt, ArgumentValueBreaks, TakerBreaks, UniqueDirectiveAt, UseBreaks, UsesBreak}
use Rattle.rule_arguments.specs.Moved.{moved_placed, moved_argument, moved_directive, moved_taker}
use Rattle.rule_arguments.proofs.Moves.{Moves, moves_either, moves_where, moves_same, moves_index, moves_repeats, moves_same_index, moves_same_first, moves_nothing, same_first}
use Rattle.rule_arguments.proofs.MovedValues.{Carries, IsMoved, moves_wrong, absent_moved, find_moved, unique_input_value_moved, undefined_variable_moved, type_breaks_moved}

module _ {P Q : Type 0} (p : P → Q) (none : Q) where
  value_moved : (o : Option (Placed P (ArgumentTree P))) → option_map (λ a. a.it.value) (option_map (moved_argument p none) o) ≡ option_map (moved_placed p none) (option_map (λ a. a.it.value) o)
  value_moved None = refl
  value_moved (Some a) = refl

  -- what is given for an argument
  given_absent_moved : (n : List ℕ) (as' : Arguments P) → is_absent_or_null (given_value n (map (moved_argument p none) as')) ≡ is_absent_or_null (given_value n as')
  given_absent_moved n as' =
      ap is_absent_or_null (
      ap (λ (o : Option (Placed Q (ArgumentTree Q))). option_map (λ (a : Placed Q (ArgumentTree Q)). a.it.value) o) (find_moved (moved_argument p none) (argument_has_name n) as')
      ∙ value_moved (find (argument_has_name n) as'))
      ∙ absent_moved p none (given_value n as')

no_usage : {P E : Type 0} (at : Address → P) (s : Judged) (taker : Taker P) (g : FaultAt P E) → DisallowedVariableUsageAt at s [] taker g → ⊥
no_usage at s taker g h =
    let first = h.1.1.1.1 in
    let usage = first.1.1.1.1.1 in
    let defined = usage.1.1 in
    absurd (true≢false (sym (ap is_some defined.1.1.0)))

module _ {P E Q F : Type 0} (p : P → Q) (none : Q) (m : Diagnostic P E → Diagnostic Q F) (carries : Carries p m) (at : Address → P) (s : Judged) where
  abbrev at' : Address → Q
  at' a = p (at a)

  abbrev Told : (FaultAt P E → Type 0) → (FaultAt Q F → Type 0) → Type 0
  Told R S = Moves (IsMoved p m) R S

  -- ---- arguments

  unique_argument_moved : (given : Arguments P) → Told (UniqueArgumentAt at s [] given) (UniqueArgumentAt at' s [] (map (moved_argument p none) given))
  unique_argument_moved given =
      moves_repeats (IsMoved p m) (moved_argument p none) argument_name given _ _ (λ i first j later.
      moves_wrong p none m carries later.place _ _ (carries.unique_argument (argument_name later) first.place later.place))

  given_moved : (given : Arguments P) → Told (GivenBreaks at s [] given) (GivenBreaks at' s [] (map (moved_argument p none) given))
  given_moved given =
      moves_either (IsMoved p m) (unique_argument_moved given)
      (moves_index (IsMoved p m) (moved_argument p none) given _ _ (λ i a.
      moves_either (IsMoved p m) (unique_input_value_moved p none m carries a.it.value.it) (undefined_variable_moved p none m carries a.it.value.place a.it.value.it)))

  module _ (taker : Taker P) where
    argument_given_moved : (R : Address → InputValueTree (Unit {0}) → Placed P (ArgumentTree P) → FaultAt P E → Type 0) (S : Address → InputValueTree (Unit {0}) → Placed Q (ArgumentTree Q) → FaultAt Q F → Type 0)
        → ((a : Address) (v : InputValueTree (Unit {0})) (x : Placed P (ArgumentTree P)) → Told (R a v x) (S a v (moved_argument p none x)))
        → Told (λ g. AtArgumentGiven at s [] taker g (λ a v x. R a v x g)) (λ f. AtArgumentGiven at' s [] (moved_taker p none taker) f (λ a v x. S a v x f))
    argument_given_moved R S each =
        moves_index (IsMoved p m) (moved_argument p none) taker.given _ _ (λ j a.
        moves_where (IsMoved p m) (same_first (moved_argument p none) argument_name taker.given (argument_name a) j)
        (moves_same_first (IsMoved p m) input_name taker.definitions (argument_name a) _ _ (λ i v. each (ArgumentAt taker.holder i) v.it a)))

    undefined_argument_moved : Told (UndefinedArgumentAt at s [] taker) (UndefinedArgumentAt at' s [] (moved_taker p none taker))
    undefined_argument_moved =
        moves_index (IsMoved p m) (moved_argument p none) taker.given _ _ (λ j a.
        moves_where (IsMoved p m) (λ h. h, λ h. h)
        (moves_wrong p none m carries a.place _ _ (carries.undefined_argument (argument_name a) taker.coordinate taker.definition_location)))

    required_argument_moved : Told (RequiredArgumentAt at s [] taker) (RequiredArgumentAt at' s [] (moved_taker p none taker))
    required_argument_moved =
        moves_same_index (IsMoved p m) taker.definitions _ _ (λ i v.
        moves_where (IsMoved p m) (λ h. h, λ h. h)
        (moves_where (IsMoved p m) (λ h. given_absent_moved p none (input_name v) taker.given ∙ h, λ h. sym (given_absent_moved p none (input_name v) taker.given) ∙ h)
        (moves_wrong p none m carries taker.place _ _ (carries.required_argument (input_name v) (taker.argument_coordinate (input_name v)) v.it.ty.it (at (ArgumentAt taker.holder i))))))

    -- there are no variables
    disallowed_variable_usage_moved : Told (DisallowedVariableUsageAt at s [] taker) (DisallowedVariableUsageAt at' s [] (moved_taker p none taker))
    disallowed_variable_usage_moved =
        moves_nothing (IsMoved p m) _ _ (no_usage at s taker) (no_usage at' s (moved_taker p none taker))

    argument_value_moved : Told (ArgumentValueBreaks at s [] taker) (ArgumentValueBreaks at' s [] (moved_taker p none taker))
    argument_value_moved =
        argument_given_moved
        (λ defined v a g. TypeBreaks at s [] (record { it = v.ty.it; place = at (TypeReferenceAt defined) }) a.it.value.place a.it.value.it g)
        (λ defined v a f. TypeBreaks at' s [] (record { it = v.ty.it; place = at' (TypeReferenceAt defined) }) a.it.value.place a.it.value.it f)
        (λ defined v a. type_breaks_moved p none m carries at s (record { it = v.ty.it; place = at (TypeReferenceAt defined) }) a.it.value.place a.it.value.it)

    taker_moved : Told (TakerBreaks at s [] taker) (TakerBreaks at' s [] (moved_taker p none taker))
    taker_moved =
        moves_either (IsMoved p m) undefined_argument_moved
        (moves_either (IsMoved p m) required_argument_moved
        (moves_either (IsMoved p m) disallowed_variable_usage_moved argument_value_moved))

  -- ---- directives

  use_moved : (location : DirectiveLocation) (d : Placed P (DirectiveTree P)) → Told (UseBreaks at s [] location d) (UseBreaks at' s [] location (moved_directive p none d))
  use_moved location d =
      moves_either (IsMoved p m)
      (moves_where (IsMoved p m) (λ h. h, λ h. h) (moves_wrong p none m carries d.place _ _ (carries.undefined_directive (directive_name d))))
      (moves_either (IsMoved p m)
      (moves_same (IsMoved p m) (s.directive (directive_name d)) _ _ (λ defined. moves_where (IsMoved p m) (λ h. h, λ h. h)
      (moves_wrong p none m carries d.place _ _ (carries.unsupported_location (directive_name d) location defined.locations (at (DirectiveDefinitionAt (directive_name d)))))))
      (moves_either (IsMoved p m) (given_moved d.it.arguments)
      (moves_same (IsMoved p m) (s.directive (directive_name d)) _ _ (λ defined. taker_moved (directive_taker d defined.arguments)))))

  unique_directive_moved : (ds : Directives P) → Told (UniqueDirectiveAt at s [] ds) (UniqueDirectiveAt at' s [] (map (moved_directive p none) ds))
  unique_directive_moved ds =
      moves_repeats (IsMoved p m) (moved_directive p none) directive_name ds _ _ (λ i first j later.
      moves_same (IsMoved p m) (s.directive (directive_name later)) _ _ (λ defined. moves_where (IsMoved p m) (λ h. h, λ h. h)
      (moves_wrong p none m carries later.place _ _ (carries.unique_directive (directive_name later) first.place))))

  -- all rules on the directives that are used at one place
  pub uses_moved : (location : DirectiveLocation) (ds : Directives P) → Told (UsesBreak at s [] location ds) (UsesBreak at' s [] location (map (moved_directive p none) ds))
  uses_moved location ds =
      moves_either (IsMoved p m) (unique_directive_moved ds)
      (moves_index (IsMoved p m) (moved_directive p none) ds _ _ (λ i d. use_moved location d))
