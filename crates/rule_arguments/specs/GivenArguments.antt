-- Private: leads to `specs/Uses.antt` of the rules' definitions. Parts of the rules on given arguments and their definitions, by the first argument or definition that is found.
use Rattle.std.specs.Prelude.{◌≡◌, true, false, is_some, List, None, find, Contains, ◌↔◌, ◌⊎◌, bytes_eq}
use Rattle.graphql_names.specs.Placed.{Placed, Place}
use Rattle.tree_literals.specs.TypeTree.{unplaced_type}
use Rattle.tree_literals.specs.TypeQueries.{has_mark, nullable_type, AreTypesCompatible}
use Rattle.tree_literals.specs.ValueQueries.{variable_name}
use Rattle.tree_directives.specs.DirectiveTree.{ArgumentTree, Arguments, DirectiveTree, InputValueTree, InputValues, unplaced_input_value}
use Rattle.tree_directives.specs.DirectiveQueries.{argument_has_name, input_value_has_name}
use Rattle.tree_directives.specs.declared.directive_location.DirectiveLocation.{DirectiveLocation}
use Rattle.tree_operations.specs.OperationTree.{VariableDefinitionTree}
use Rattle.rule_values.specs.in_schema.in_schema_types.SchemaTree.{SchemaTree}
use Rattle.rule_values.specs.in_schema.in_schema_types.Addresses.{place_at}
use Rattle.rule_values.specs.in_rule_definitions.Diagnostics.{DisallowedVariableUsage}
use Rattle.rule_values.specs.in_rule_definitions.Faults.{wrong}
use Rattle.rule_values.specs.in_rule_definitions.Words.{Present, AtSomeIndex}
use Rattle.rule_values.specs.in_rule_definitions.Judged.{judged}
use Rattle.rule_values.specs.in_rule_definitions.Names.{defined_name, argument_name}
use Rattle.rule_values.specs.in_rule_definitions.GivenValues.{Variables}
use Rattle.rule_values.specs.in_rule_definitions.Values.{UndefinedVariableIn, TypeBreaks}
use Rattle.rule_values.specs.in_rule_definitions.VariableUsage.{IsVariableUsageAllowed}
use Rattle.rule_values.specs.in_rule_definitions.Uses.{UnsupportedLocationAt, TakerBreaks, directive_taker}
use Rattle.rule_values.specs.in_rule_definitions.PlacedFaults.{PlacedFault}
use Rattle.rule_values.specs.Wanting.{wanted}
use Rattle.rule_arguments.specs.Trees.{plain_inputs}

-- the list has the faults for which R holds, and no others
abbrev pub Lists : List PlacedFault → (PlacedFault → Type 0) → Type 0
Lists l R = (f : PlacedFault) → Contains l f ↔ R f

-- a default makes a nullable variable fit a non-null argument
abbrev pub FitsWithDefault : VariableDefinitionTree Place → InputValueTree Place → Type 0
FitsWithDefault x v = ((has_mark x.ty.it ≡ false) × (has_mark v.ty.it ≡ true))
    × (((is_some x.default_value ≡ true) ⊎ (is_some v.default_value ≡ true)) × AreTypesCompatible x.ty.it (nullable_type v.ty.it))

-- a variable in the value of a given argument is not defined, with this fault
abbrev pub VariablesGivenBreak : Variables Place → Arguments Place → PlacedFault → Type 0
VariablesGivenBreak variables given f = AtSomeIndex given (λ i a. UndefinedVariableIn variables a.it.value.place a.it.value.it f)

-- the variable that is given must not be used for this argument, with this fault
abbrev pub DisallowedUsage : Variables Place → InputValueTree Place → Placed Place (ArgumentTree Place) → PlacedFault → Type 0
DisallowedUsage variables v a f = Present (variable_name a.it.value.it) (λ n. Present (find (λ d. bytes_eq (defined_name d) n.it) variables) (λ x.
    (IsVariableUsageAllowed x.it (unplaced_input_value v) → ⊥)
    × (f ≡ wrong a.place (DisallowedVariableUsage n.it (unplaced_type x.it.ty.it) x.place (argument_name a) (unplaced_type v.ty.it) a.place))))

-- the given argument breaks a rule, judged by its definition
abbrev pub GivenArgumentBreaks : SchemaTree Place → Variables Place → InputValueTree Place → Placed Place (ArgumentTree Place) → PlacedFault → Type 0
GivenArgumentBreaks s variables v a f = DisallowedUsage variables v a f ⊎ TypeBreaks (place_at s) (judged s) variables (wanted v.ty.it v.ty.place) a.it.value.place a.it.value.it f

-- the same, with the definition of the argument's name, if there is one
abbrev pub DefinedArgumentBreaks : SchemaTree Place → Variables Place → InputValues Place → Placed Place (ArgumentTree Place) → PlacedFault → Type 0
DefinedArgumentBreaks s variables definitions a f = Present (find (input_value_has_name (argument_name a)) definitions) (λ v. GivenArgumentBreaks s variables v.it a f)

-- the same, if no argument before it has its name
abbrev pub FirstGivenBreaks : SchemaTree Place → Variables Place → InputValues Place → Arguments Place → Placed Place (ArgumentTree Place) → PlacedFault → Type 0
FirstGivenBreaks s variables definitions before a f = (find (argument_has_name (argument_name a)) before ≡ None) × DefinedArgumentBreaks s variables definitions a f

-- the use of a directive breaks a rule, judged by the directive's definition
abbrev pub DefinedUseBreaks : SchemaTree Place → Variables Place → DirectiveLocation → Placed Place (DirectiveTree Place) → InputValues Place → PlacedFault → Type 0
DefinedUseBreaks s variables location d definitions f =
    UnsupportedLocationAt (place_at s) (judged s) variables location d f ⊎ TakerBreaks (place_at s) (judged s) variables (directive_taker d (plain_inputs definitions)) f
