-- Private: leads to `specs/Uses.antt` of the rules' definitions. What each rule on uses tells, as a list of one fault or none.
use Rattle.std.specs.Prelude.{Bool, ◌&&◌, List, [], ◌∷◌, Option, find, if◌then◌else◌}
use Rattle.std.specs.Option.{option_map_or}
use Rattle.graphql_names.specs.Placed.{Placed, Place}
use Rattle.tree_literals.specs.TypeTree.{unplaced_type}
use Rattle.tree_directives.specs.DirectiveTree.{ArgumentTree, Arguments, DirectiveTree, Directives, InputValueTree, InputValues, DirectiveDefinitionTree}
use Rattle.tree_directives.specs.DirectiveQueries.{argument_has_name, input_value_has_name, directive_has_name, given_value, is_required_input}
use Rattle.tree_directives.specs.declared.directive_location.DirectiveLocation.{DirectiveLocation}
use Rattle.rule_values.specs.in_rule_definitions.Diagnostics.{UniqueArgument, UndefinedArgument, RequiredArgument, UndefinedDirective, UniqueDirective, UnsupportedLocation}
use Rattle.rule_values.specs.in_rule_definitions.Faults.{wrong}
use Rattle.rule_values.specs.in_rule_definitions.GivenValues.{is_absent_or_null}
use Rattle.rule_values.specs.in_rule_definitions.Names.{argument_name, input_name, directive_name}
use Rattle.rule_values.specs.in_rule_definitions.Uses.{Taker}
use Rattle.rule_values.specs.in_rule_definitions.PlacedFaults.{PlacedFault}

-- the fault of an argument, given those before it
abbrev pub repeated_argument : Arguments Place → Placed Place (ArgumentTree Place) → List PlacedFault
repeated_argument before later =
    option_map_or (λ first. wrong later.place (UniqueArgument (argument_name later) first.place later.place) ∷ []) (find (argument_has_name (argument_name later)) before) []

-- the fault of an argument, given the place of the first argument of its name before it, if there is one
abbrev pub argument_again : Option Place → Placed Place (ArgumentTree Place) → List PlacedFault
argument_again first later = option_map_or (λ p. wrong later.place (UniqueArgument (argument_name later) p later.place) ∷ []) first []

-- the fault of a given argument, if none of these definitions has its name
abbrev pub undefined_argument : Taker Place → InputValues Place → Placed Place (ArgumentTree Place) → List PlacedFault
undefined_argument t definitions a =
    option_map_or (λ v. []) (find (input_value_has_name (argument_name a)) definitions) (wrong a.place (UndefinedArgument (argument_name a) t.coordinate t.definition_location) ∷ [])

-- the fault of an argument definition, if it is required and not given
abbrev pub required_argument : Taker Place → Placed Place (InputValueTree Place) → List PlacedFault
required_argument t v =
    if is_required_input v.it && is_absent_or_null (given_value (input_name v) t.given)
    then wrong t.place (RequiredArgument (input_name v) (t.argument_coordinate (input_name v)) (unplaced_type v.it.ty.it) v.place) ∷ [] else []

-- the fault of a directive that is used and not defined
abbrev pub undefined_directive : Placed Place (DirectiveTree Place) → PlacedFault
undefined_directive d = wrong d.place (UndefinedDirective (directive_name d))

-- the fault of a directive at a location, given whether it is allowed there, and its definition
abbrev pub unsupported_location : Bool → Placed Place (DirectiveDefinitionTree Place) → DirectiveLocation → Placed Place (DirectiveTree Place) → List PlacedFault
unsupported_location supported defined location d =
    if supported then [] else wrong d.place (UnsupportedLocation (directive_name d) location defined.it.locations defined.place) ∷ []

-- the fault of a directive, given those before it
abbrev pub found_repeated : Directives Place → Placed Place (DirectiveTree Place) → List PlacedFault
found_repeated before later =
    option_map_or (λ first. wrong later.place (UniqueDirective (directive_name later) first.place) ∷ []) (find (directive_has_name (directive_name later)) before) []

-- the same, if the directive is defined and not repeatable
abbrev pub repeated_directive : Option (Placed Place (DirectiveDefinitionTree Place)) → Directives Place → Placed Place (DirectiveTree Place) → List PlacedFault
repeated_directive defined before later = option_map_or (λ x. if x.it.repeatable then [] else found_repeated before later) defined []

-- the fault of a directive, if it is defined, given the place of the first directive of its name before it, if there is one
abbrev pub directive_again : Option (Placed Place (DirectiveDefinitionTree Place)) → Option Place → Placed Place (DirectiveTree Place) → List PlacedFault
directive_again defined first later =
    option_map_or (λ x. if x.it.repeatable then [] else option_map_or (λ p. wrong later.place (UniqueDirective (directive_name later) p) ∷ []) first []) defined []
