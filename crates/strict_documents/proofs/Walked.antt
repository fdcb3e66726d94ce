-- What is told of selections as the program has them.
use Rattle.std.proofs.Common.{◌≡◌, ℕ, List, [], Option, None, Some, refl, ap}
use Rattle.std.specs.Option.{option_or, option_and_then}
use Rattle.graphql_names.specs.Placed.{Place}
use Rattle.document_typed_selections.specs.TypedTree.{TypedSelection, TypedField, TypedSpread, TypedInline}
use Rattle.document_typed_selections.specs.TypedParts.{typed_directives, as_typed_field}
use Rattle.schema_types.specs.SchemaTree.{SchemaTree}
use Rattle.schema_types.specs.Addresses.{under}
use Rattle.spec_document.specs.MeantTree.{meant}
use Rattle.graphql_schema.specs.LookUps.{FieldIsMissing, field_named, meta_field_on}
use Rattle.graphql_schema.specs.declared.field_lookup.FieldLookupError.{FieldLookupError}
use Rattle.graphql_schema.specs.declared.field_lookup.FieldLookupError.TheVariants.{NoSuchType, NoSuchField}
use Rattle.rule_definitions.specs.GivenValues.{Variables}
use Rattle.rule_document_definitions.specs.Selected.{selection_directives}
use Rattle.strict_documents.specs.Departure.{Departure}
use Rattle.strict_documents.specs.Departing.{own_departures}

pub directives_meant : {P : Type 0} (t : TypedSelection P) → typed_directives t ≡ selection_directives (meant t)
directives_meant (TypedField p d h s) = refl
directives_meant (TypedSpread p n ds) = refl
directives_meant (TypedInline p c ds s) = refl

-- what is told of a field, if there is one
abbrev pub if_field : SchemaTree Place → Variables Place → List ℕ → Option (TypedSelection Place) → List (Departure Place)
if_field s variables ty None = []
if_field s variables ty (Some t) = own_departures s variables ty (meant t)

pub if_field_is : (s : SchemaTree Place) (variables : Variables Place) (ty : List ℕ) (t : TypedSelection Place) → if_field s variables ty (as_typed_field t) ≡ own_departures s variables ty (meant t)
if_field_is s variables ty (TypedField p d h v) = refl
if_field_is s variables ty (TypedSpread p n ds) = refl
if_field_is s variables ty (TypedInline p c ds v) = refl

-- a field that is missing
pub missing_field : (s : SchemaTree Place) (n m : List ℕ) (e : FieldLookupError) → FieldIsMissing s n m e → field_named s n m ≡ None
missing_field s n m NoSuchType h = ap (λ o. option_or (option_and_then (λ t. under m t.fields) o) (option_and_then (λ t. meta_field_on s n t m) o)) h
missing_field s n m (NoSuchField name ty) h = h.1.1
