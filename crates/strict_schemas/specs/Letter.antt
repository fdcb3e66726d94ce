-- What a schema keeps by which nothing is told: the letter of the specification, in the points of `Departing` and `Faults`.
use Rattle.std.specs.Prelude.{◌≡◌, ◌≢◌, Vec, [], true, false, take, ◌⊎◌}
use Rattle.std.specs.declared.alloc.Global.{Global}
use Rattle.graphql_names.specs.Placed.{Placed, Place}
use Rattle.graphql_names.specs.Places.{is_built_in}
use Rattle.tree_directives.specs.DirectiveTree.{InputValueTree, DirectiveDefinitionTree}
use Rattle.schema_types.specs.SchemaTree.{SchemaType, SchemaTree}
use Rattle.schema_types.specs.Addresses.{under}
use Rattle.schema_types.specs.declared.type_kind.TypeKind.TheVariants as kind
use Rattle.graphql_schema.specs.LookUps.{type_of_kind}
use Rattle.rule_definitions.specs.Room.{most_told}
use Rattle.rule_definitions.specs.Words.{Present, AtSomeIndex}
use Rattle.rule_definitions.specs.PlacedFaults.{PlacedFault}
use Rattle.fault_data.specs.Adds.{Adds}
use Rattle.fault_data.specs.FaultView.{faults_of}
use Rattle.fault_data.specs.declared.fault.Fault.{Fault}
use Rattle.strict_documents.specs.DepartureViews.{departures_of}
use Rattle.strict_documents.specs.declared.departure.Departure.{Departure}
use Rattle.strict_schemas.specs.Inputs.{inputs_of}
use Rattle.strict_schemas.specs.Departing.{is_required_deprecated, is_own_built_in, is_built_in_other, is_extra, default_departures, departures_of_schema}
use Rattle.strict_schemas.specs.Faults.{DefaultBreaks, ScalarBreaks, StrictBreaks}

-- a text adds something to the type
abbrev pub HasAdded : SchemaType Place → Type 0
HasAdded t = AtSomeIndex t.directives (λ i g. is_built_in g.it.place ≡ false) ⊎ (AtSomeIndex t.interfaces (λ i g. is_built_in g.it.place ≡ false)
    ⊎ (AtSomeIndex t.fields (λ i e. is_built_in e.1.it.place ≡ false) ⊎ (AtSomeIndex t.members (λ i g. is_built_in g.it.place ≡ false)
    ⊎ (AtSomeIndex t.values (λ i e. is_built_in e.1.it.place ≡ false) ⊎ AtSomeIndex t.inputs (λ i e. is_built_in e.1.it.place ≡ false)))))

-- a directive is applied to the definition of a directive
abbrev pub HasApplied : Placed Place (DirectiveDefinitionTree Place) → Type 0
HasApplied d = d.it.directives ≢ []

module _ (s : SchemaTree Place) where
  -- a field of the type has an extra argument over an interface that the type lists
  abbrev pub HasExtra : SchemaType Place → Type 0
  HasExtra t = AtSomeIndex t.interfaces (λ i g. Present (type_of_kind s kind.Interface g.it.it) (λ over. AtSomeIndex over.fields (λ k wanted.
      Present (under wanted.0 t.fields) (λ own. AtSomeIndex own.it.it.arguments (λ j v. is_extra wanted.1.it.it.arguments v.it ≡ true)))))

  -- something is told at some depth of the default of an argument or input field
  abbrev pub HasLiterals : InputValueTree Place → Type 0
  HasLiterals v = default_departures s v ≢ []

  pub record KeepsTheLetter : Type 0 where
    -- each default fits its type (3.6.1 and 3.10, in later editions), and no object in one has a key twice (5.6.3)
    pub defaults : (fault : PlacedFault) → AtSomeIndex (inputs_of s) (λ i v. DefaultBreaks s v fault) → ⊥
    -- the directives of built-in scalars keep the rules on uses (5.7)
    pub scalars : (fault : PlacedFault) → AtSomeIndex s.types (λ i e. ScalarBreaks s e.1 fault) → ⊥
    -- no argument or input field is required and deprecated (3.13.3)
    pub deprecated : AtSomeIndex (inputs_of s) (λ i v. is_required_deprecated v.it ≡ true) → ⊥
    -- in no default a number is past 64 bits, nor an item no list where lists are expected (3.5.2 and 3.11)
    pub literals : AtSomeIndex (inputs_of s) (λ i v. HasLiterals v.it) → ⊥
    -- no directive of the specification is defined otherwise (3.13)
    pub own : AtSomeIndex s.directives (λ i e. is_own_built_in e.1 ≡ true) → ⊥
    -- no directive is applied to the definition of a directive (3.13)
    pub applied : AtSomeIndex s.directives (λ i e. HasApplied e.1) → ⊥
    -- nothing is added to a built-in type other than a scalar (4.2)
    pub extended : AtSomeIndex s.types (λ i e. (is_built_in_other e.1 ≡ true) × HasAdded e.1) → ⊥
    -- no argument that takes no null is extra over an interface (3.6)
    pub extra : AtSomeIndex s.types (λ i e. HasExtra e.1) → ⊥

-- if both calls tell nothing of a schema, it keeps the letter
abbrev pub NoDepartureMeansTheLetter : Type 0
NoDepartureMeansTheLetter = (s : SchemaTree Place) (told : Vec Departure Global) (before after : Vec Fault Global)
    → departures_of told ≡ take most_told (departures_of_schema s) → Adds before after (StrictBreaks s)
    → departures_of told ≡ [] → faults_of before ≡ [] → faults_of after ≡ [] → KeepsTheLetter s
