-- Private: leads to `specs/Variables.antt` of the definitions of the rules of documents. What each rule tells of one variable.
use Rattle.std.specs.Prelude.{◌≡◌, ◌⊎◌, ℕ, Bool, true, false, List, [], ◌∷◌, Contains, Option, None, find, bytes_eq, if◌then◌else◌}
use Rattle.std.specs.Option.{option_map_or}
use Rattle.graphql_names.specs.Placed.{Placed, Place}
use Rattle.graphql_names.specs.Places.{Recomposes}
use Rattle.tree_literals.specs.TypeTree.{unplaced_type}
use Rattle.tree_literals.specs.TypeQueries.{inner_name}
use Rattle.tree_directives.specs.declared.directive_location.DirectiveLocation.TheVariants as location
use Rattle.tree_operations.specs.OperationTree.{VariableDefinitionTree}
use Rattle.schema_types.specs.SchemaTree.{SchemaTree, kind_words, is_input_kind}
use Rattle.schema_types.specs.Addresses.{type_at, place_at}
use Rattle.schema_types.specs.declared.type_kind.TypeKind.{TypeKind}
use Rattle.rule_definitions.specs.Diagnostics.{UndefinedDefinition, UniqueVariable, VariableInputType, UnusedVariable}
use Rattle.rule_definitions.specs.Words.{Present, AtSomeIndex, Repeats}
use Rattle.rule_definitions.specs.Faults.{wrong}
use Rattle.rule_definitions.specs.Judged.{judged}
use Rattle.rule_definitions.specs.Names.{defined_name}
use Rattle.rule_definitions.specs.GivenValues.{Variables, wanted_name}
use Rattle.rule_definitions.specs.Values.{UniqueInputValueIn, ValueBreaks}
use Rattle.rule_definitions.specs.Uses.{UsesBreak}
use Rattle.rule_definitions.specs.PlacedFaults.{PlacedFault}
use Rattle.rule_document_definitions.specs.UsedVariables.{wanted_by}

-- a variable of an operation, with its place
abbrev pub Defined : Type 0
Defined = Placed Place (VariableDefinitionTree Place)

-- the fault of a variable, if one before it has the same name
abbrev pub repeated_variable : Variables Place → Defined → List PlacedFault
repeated_variable before later =
    option_map_or (λ first. wrong later.place (UniqueVariable (defined_name later) first.place later.place) ∷ []) (find (λ d. bytes_eq (defined_name d) (defined_name later)) before) []

-- the fault of a variable, given the place of the first variable of its name before it, if there is one
abbrev pub variable_again : Option Place → Defined → List PlacedFault
variable_again first later = option_map_or (λ p. wrong later.place (UniqueVariable (defined_name later) p later.place) ∷ []) first []

-- an object in the variable's default has a key twice
abbrev pub DefaultKeyBreaks : Defined → PlacedFault → Type 0
DefaultKeyBreaks x f = Present x.it.default_value (λ v. UniqueInputValueIn v.it f)

-- the variable's name is none of those that are used; the fault is placed from the start of its definition to the end of its name
abbrev pub UnusedAmong : List (List ℕ) → Defined → PlacedFault → Type 0
UnusedAmong used x f = (Contains used (defined_name x) → ⊥) × ((head : Place) × (
    Recomposes x.place x.it.name.place head × (f ≡ wrong head (UnusedVariable (defined_name x)))))

-- the variables break a rule that needs no schema, if `used` are the names of those that are used
abbrev pub AloneBreaks : Variables Place → List (List ℕ) → PlacedFault → Type 0
AloneBreaks variables used f =
    Repeats defined_name variables (λ i first j later. f ≡ wrong later.place (UniqueVariable (defined_name later) first.place later.place))
    ⊎ (AtSomeIndex variables (λ i x. DefaultKeyBreaks x f) ⊎ AtSomeIndex variables (λ i x. UnusedAmong used x f))

-- the name of its type, inside lists and non-null types
abbrev pub type_name : Defined → List ℕ
type_name x = (inner_name x.it.ty.it).it

-- the fault of a variable whose type, of the kind `k`, is no input type
abbrev pub told_input_type : Defined → TypeKind → PlacedFault
told_input_type x k = wrong x.place (VariableInputType (defined_name x) (unplaced_type x.it.ty.it) (kind_words k))

module _ (s : SchemaTree Place) (x : Defined) where
  -- the fault if its type is not defined
  abbrev pub undefined_definition : List PlacedFault
  undefined_definition = option_map_or (λ t. []) (type_at s (type_name x)) (wrong x.place (UndefinedDefinition (type_name x)) ∷ [])

  -- the fault if its type is defined, and is no input type
  abbrev pub variable_input_type : List PlacedFault
  variable_input_type = option_map_or (λ t. if is_input_kind t.kind then [] else told_input_type x t.kind ∷ []) (type_at s (type_name x)) []

  -- whether its type is defined, and is an input type
  abbrev pub is_of_input_type : Bool
  is_of_input_type = option_map_or (λ t. is_input_kind t.kind) (type_at s (type_name x)) false

  module _ (f : PlacedFault) where
    -- the same two faults in the words of the rules
    abbrev pub UndefinedType : Type 0
    UndefinedType = ((judged s).type_named (wanted_name (wanted_by x.it)) ≡ None) × (f ≡ wrong x.place (UndefinedDefinition (wanted_name (wanted_by x.it))))

    abbrev pub NoInputType : Type 0
    NoInputType = Present ((judged s).type_named (wanted_name (wanted_by x.it))) (λ t. (is_input_kind t.kind ≡ false) × (f ≡ told_input_type x t.kind))

    -- its default breaks a rule on values; in `DirectivesBreak`, its directives break one on uses
    abbrev pub DefaultBreaks : Type 0
    DefaultBreaks = Present x.it.default_value (λ v. ValueBreaks (place_at s) (judged s) [] (wanted_by x.it) v.place v.it f)

    -- the same for a default that is judged: that of a variable of an input type
    abbrev pub JudgedDefaultBreaks : Type 0
    JudgedDefaultBreaks = (is_of_input_type ≡ true) × DefaultBreaks

    abbrev pub DirectivesBreak : Type 0
    DirectivesBreak = UsesBreak (place_at s) (judged s) [] location.VariableDefinition x.it.directives f

    -- the variable breaks a rule under a schema
    abbrev pub VariableBreaks : Type 0
    VariableBreaks = UndefinedType ⊎ (NoInputType ⊎ (JudgedDefaultBreaks ⊎ DirectivesBreak))
