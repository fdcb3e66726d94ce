-- Rules on the use of directives and arguments (GraphQL, October 2021, sections 5.4, 5.7 and 5.8.5), in a schema or in a document, as in `Values`.
use Rattle.std.specs.Prelude.{◌≡◌, ℕ, true, false, List, Contains, None, ◌⊎◌}
use Rattle.graphql_names.specs.Placed.{Placed}
use Rattle.tree_literals.specs.TypeTree.{unplaced_type}
use Rattle.tree_literals.specs.ValueQueries.{variable_name}
use Rattle.tree_directives.specs.DirectiveTree.{ArgumentTree, Arguments, DirectiveTree, Directives, InputValueTree, InputValues}
use Rattle.tree_directives.specs.DirectiveQueries.{is_required_input, given_value}
use Rattle.tree_directives.specs.declared.directive_location.DirectiveLocation.{DirectiveLocation}
use Rattle.schema_coordinates.specs.Coordinate.{Coordinate, OfDirective, OfDirectiveArgument}
use Rattle.schema_types.specs.Addresses.{Address, DirectiveDefinitionAt, ArgumentAt, TypeReferenceAt}
use Rattle.rule_definitions.specs.Diagnostics.{UndefinedDirective, UniqueDirective, UnsupportedLocation, UniqueArgument, UndefinedArgument, RequiredArgument, DisallowedVariableUsage}
use Rattle.rule_definitions.specs.Words.{Present, AtSomeIndex, Lacks, IsFirst, FirstNamed, Repeats}
use Rattle.rule_definitions.specs.Faults.{FaultAt, wrong}
use Rattle.rule_definitions.specs.Judged.{Judged}
use Rattle.rule_definitions.specs.Names.{argument_name, input_name, directive_name, defined_name}
use Rattle.rule_definitions.specs.GivenValues.{Variables, is_absent_or_null}
use Rattle.rule_definitions.specs.Values.{UniqueInputValueIn, UndefinedVariableIn, TypeBreaks}
use Rattle.rule_definitions.specs.VariableUsage.{IsVariableUsageAllowed}

-- what takes arguments: a use of a directive, or a field
pub record Taker (P : Type 0) : Type 0 where
  pub place : P
  pub given : Arguments P
  -- where the arguments are defined, and their definitions
  pub holder : Address
  pub definitions : InputValues (Unit {0})
  -- the place that is told of an argument that is not defined, the coordinate of what takes arguments, and those of the arguments
  pub definition_location : P
  pub coordinate : Coordinate
  pub argument_coordinate : List ℕ → Coordinate

module _ {P : Type 0} where
  -- the use of a directive as a `Taker`
  abbrev pub directive_taker : Placed P (DirectiveTree P) → InputValues (Unit {0}) → Taker P
  directive_taker d definitions = record {
    place = d.place;
    given = d.it.arguments;
    holder = DirectiveDefinitionAt (directive_name d);
    definitions = definitions;
    definition_location = d.place;
    coordinate = OfDirective (directive_name d);
    argument_coordinate = OfDirectiveArgument (directive_name d);
  }

module _ {P E : Type 0} (at : Address → P) (s : Judged) (variables : Variables P) where
  -- ---- arguments

  -- UniqueArgument: a list of arguments is valid only if none is given twice (section 5.4.2)
  abbrev pub UniqueArgumentAt : Arguments P → FaultAt P E → Type 0
  UniqueArgumentAt given fault = Repeats argument_name given (λ i first j later.
      fault ≡ wrong later.place (UniqueArgument (argument_name later) first.place later.place))

  -- a rule on given arguments, whether they are defined or not, is broken, with this fault
  abbrev pub GivenBreaks : Arguments P → FaultAt P E → Type 0
  GivenBreaks given fault = UniqueArgumentAt given fault ⊎ AtSomeIndex given (λ i a.
      UniqueInputValueIn a.it.value.it fault ⊎ UndefinedVariableIn variables a.it.value.place a.it.value.it fault)

  module _ (taker : Taker P) (fault : FaultAt P E) where
    -- Q holds of some given argument, the first of its name, with its definition and the address of the definition
    abbrev pub AtArgumentGiven : (Address → InputValueTree (Unit {0}) → Placed P (ArgumentTree P) → Type 0) → Type 0
    AtArgumentGiven Q = AtSomeIndex taker.given (λ j a. IsFirst argument_name taker.given (argument_name a) j
        × FirstNamed input_name taker.definitions (argument_name a) (λ i v. Q (ArgumentAt taker.holder i) v.it a))

    -- UndefinedArgument: an argument is valid only if the field or directive defines it (section 5.4.1)
    abbrev pub UndefinedArgumentAt : Type 0
    UndefinedArgumentAt = AtSomeIndex taker.given (λ j a. Lacks input_name taker.definitions (argument_name a)
        × (fault ≡ wrong a.place (UndefinedArgument (argument_name a) taker.coordinate taker.definition_location)))

    -- RequiredArgument: a field or use of a directive is valid only if each required argument is given, and not as null
    -- (section 5.4.2.1)
    abbrev pub RequiredArgumentAt : Type 0
    RequiredArgumentAt = AtSomeIndex taker.definitions (λ i v. (is_required_input v.it ≡ true)
        × ((is_absent_or_null (given_value (input_name v) taker.given) ≡ true)
        × (fault ≡ wrong taker.place (RequiredArgument (input_name v) (taker.argument_coordinate (input_name v)) v.it.ty.it (at (ArgumentAt taker.holder i))))))

    -- DisallowedVariableUsage: a use of a variable is valid only if a value of the variable's type may stand there
    -- (section 5.8.5)
    abbrev pub DisallowedVariableUsageAt : Type 0
    DisallowedVariableUsageAt = AtArgumentGiven (λ where' v a. Present (variable_name a.it.value.it) (λ n. FirstNamed defined_name variables n.it (λ k x.
        (IsVariableUsageAllowed x.it v → ⊥)
        × (fault ≡ wrong a.place (DisallowedVariableUsage n.it (unplaced_type x.it.ty.it) x.place (argument_name a) v.ty.it a.place)))))

    -- a rule on values is broken by what is given for an argument, judged against the argument's type, with this fault
    abbrev pub ArgumentValueBreaks : Type 0
    ArgumentValueBreaks = AtArgumentGiven (λ defined v a.
        TypeBreaks at s variables (record { it = v.ty.it; place = at (TypeReferenceAt defined) }) a.it.value.place a.it.value.it fault)

    -- a rule on given arguments, judged by the definitions, is broken, with this fault
    abbrev pub TakerBreaks : Type 0
    TakerBreaks = UndefinedArgumentAt ⊎ (RequiredArgumentAt ⊎ (DisallowedVariableUsageAt ⊎ ArgumentValueBreaks))

  -- ---- directives

  -- UndefinedDirective: a use of a directive is valid only if the directive is defined (section 5.7.1)
  abbrev pub UndefinedDirectiveAt : Placed P (DirectiveTree P) → FaultAt P E → Type 0
  UndefinedDirectiveAt d fault = (s.directive (directive_name d) ≡ None) × (fault ≡ wrong d.place (UndefinedDirective (directive_name d)))

  -- UnsupportedLocation: a use of a directive is valid only if the directive may stand at such a place (section 5.7.2)
  abbrev pub UnsupportedLocationAt : DirectiveLocation → Placed P (DirectiveTree P) → FaultAt P E → Type 0
  UnsupportedLocationAt location d fault = Present (s.directive (directive_name d)) (λ defined. (Contains defined.locations location → ⊥)
      × (fault ≡ wrong d.place (UnsupportedLocation (directive_name d) location defined.locations (at (DirectiveDefinitionAt (directive_name d))))))

  -- UniqueDirective: a use of a directive that is not repeatable is valid only if the directive has no other use at that
  -- place (section 5.7.3)
  abbrev pub UniqueDirectiveAt : Directives P → FaultAt P E → Type 0
  UniqueDirectiveAt ds fault = Repeats directive_name ds (λ i first j later. Present (s.directive (directive_name later)) (λ defined.
      (defined.repeatable ≡ false) × (fault ≡ wrong later.place (UniqueDirective (directive_name later) first.place))))

  -- a rule on one use is broken, with this fault
  abbrev pub UseBreaks : DirectiveLocation → Placed P (DirectiveTree P) → FaultAt P E → Type 0
  UseBreaks location d fault = UndefinedDirectiveAt d fault ⊎ (UnsupportedLocationAt location d fault
      ⊎ (GivenBreaks d.it.arguments fault ⊎ Present (s.directive (directive_name d)) (λ defined. TakerBreaks (directive_taker d defined.arguments) fault)))

  -- a rule on the directives that are used at one place is broken, with this fault
  abbrev pub UsesBreak : DirectiveLocation → Directives P → FaultAt P E → Type 0
  UsesBreak location ds fault = UniqueDirectiveAt ds fault ⊎ AtSomeIndex ds (λ i d. UseBreaks location d fault)
