-- What a document without departures has: what is given to arguments is as the specification asks (GraphQL, October 2021, sections 3.5.2, 3.11 and 5.8.5).
use Rattle.std.specs.Prelude.{◌≡◌, ℕ, true, false, Vec, List, [], ◌++◌, flat_map, find, bytes_eq, Contains}
use Rattle.std.specs.Option.{option_map_or}
use Rattle.std.specs.declared.alloc.Global.{Global}
use Rattle.graphql_names.specs.Placed.{Placed, Place}
use Rattle.tree_literals.specs.ValueQueries.{variable_name}
use Rattle.tree_directives.specs.DirectiveTree.{ArgumentTree, Arguments, DirectiveTree, Directives, InputValues}
use Rattle.tree_directives.specs.DirectiveQueries.{input_value_has_name}
use Rattle.tree_operations.specs.SelectionTree.{FieldHead}
use Rattle.schema_types.specs.SchemaTree.{SchemaTree}
use Rattle.schema_types.specs.Addresses.{directive_definition_at}
use Rattle.graphql_schema.specs.LookUps.{field_named}
use Rattle.spec_document.specs.MeantTree.{MeantSelection, MeantField, MeantOperation, MeantDocument}
use Rattle.rule_definitions.specs.GivenValues.{Variables}
use Rattle.rule_definitions.specs.Judged.{judged}
use Rattle.rule_definitions.specs.Names.{argument_name, directive_name, defined_name}
use Rattle.rule_definitions.specs.Words.{IfPresent}
use Rattle.rule_document_definitions.specs.Selected.{Standing, operations, selection_directives}
use Rattle.rule_document_definitions.specs.Reached.{Reached}
use Rattle.strict_documents.specs.Departure.{Departure}
use Rattle.strict_documents.specs.Departing.{plain_inputs}
use Rattle.strict_documents.specs.ValueLetter.{is_past_64_bits, is_lone_item, is_usage_allowed}
use Rattle.strict_documents.specs.Locations.{Part, parts, argument_location}
use Rattle.strict_documents.specs.declared.departure.Departure.{Departure as Rust}
use Rattle.strict_documents.specs.DepartsIn.{DepartsIn}
use Rattle.strict_documents.specs.Views.{TellsDepartures}

-- ---- the values at any depth of what is given to arguments, each with the location that it is given for

module _ (t : SchemaTree Place) where
  -- an argument is given for the first definition of its name
  abbrev pub argument_parts : InputValues (Unit {0}) → Placed Place (ArgumentTree Place) → List (Part Place)
  argument_parts definitions a = option_map_or (λ v. parts (judged t) (argument_location v.it) a.it.value.place a.it.value.it)
      (find (input_value_has_name (argument_name a)) definitions) []

  abbrev pub given_parts : InputValues (Unit {0}) → Arguments Place → List (Part Place)
  given_parts definitions given = flat_map (argument_parts definitions) given

  abbrev pub directive_parts : Placed Place (DirectiveTree Place) → List (Part Place)
  directive_parts d = option_map_or (λ defined. given_parts (plain_inputs defined.it.arguments) d.it.arguments) (directive_definition_at t (directive_name d)) []

  abbrev pub directives_parts : Directives Place → List (Part Place)
  directives_parts ds = flat_map directive_parts ds

  -- of a field on the type of that name
  abbrev pub field_parts : List ℕ → FieldHead Place → List (Part Place)
  field_parts parent h = option_map_or (λ f. given_parts (plain_inputs f.it.it.arguments) h.arguments) (field_named t parent h.name.it) []

  abbrev pub own_parts : List ℕ → MeantSelection Place → List (Part Place)
  own_parts parent (MeantField p d h v) = field_parts parent h
  own_parts parent _ = []

  -- of a selection on the type of that name: of a field, and of its directives
  abbrev pub selection_parts : List ℕ → MeantSelection Place → List (Part Place)
  selection_parts parent x = own_parts parent x ++ directives_parts (selection_directives x)

-- ---- the letter of the specification

-- as a Float the number is finite, an item of a list of lists is a list, and the usage of the variable is allowed, if the operation defines it
pub record IsToTheLetter (variables : Variables Place) (x : Part Place) : Type 0 where
  pub finite : is_past_64_bits x.location x.value ≡ false
  pub listed : is_lone_item x.location x.value ≡ false
  pub allowed : IfPresent (variable_name x.value) (λ n. IfPresent (find (λ v. bytes_eq (defined_name v) n.it) variables) (λ v. is_usage_allowed v.it x.location ≡ true))

-- in each selection that an operation reaches
abbrev pub ReachesToTheLetter : SchemaTree Place → MeantDocument Place → Type 0
ReachesToTheLetter t d = (o : MeantOperation Place) (x : Standing Place) (p : Part Place) → Contains (operations d) o → Reached d o x → Contains (selection_parts t x.parent x.it) p → IsToTheLetter o.variables p

-- where nothing is told there is no departure, and all is to the letter
abbrev pub NoDepartureMeansTheLetter : Type 0
NoDepartureMeansTheLetter = (t : SchemaTree Place) (d : MeantDocument Place) (told : Vec Rust Global) → TellsDepartures t d told → told.items ≡ []
    → ((u : Departure Place) → DepartsIn t d u → ⊥) × ReachesToTheLetter t d
