-- A field that the schema does not have on a type has no definition there.
use Rattle.std.proofs.Common.{◌≡◌, ℕ, List, None, ap, option_and_then}
use Rattle.std.specs.Option.{option_or}
use Rattle.graphql_names.specs.Placed.{Place}
use Rattle.schema_types.specs.Addresses.{under}
use Rattle.schema_types.specs.SchemaTree.{SchemaTree}
use Rattle.schema_types.specs.Plain.{plain}
use Rattle.graphql_schema.specs.LookUps.{meta_field_on, field_named, FieldIsMissing}
use Rattle.graphql_schema.specs.declared.field_lookup.FieldLookupError.{FieldLookupError}
use Rattle.graphql_schema.specs.declared.field_lookup.FieldLookupError.TheVariants.{NoSuchType, NoSuchField}
use Rattle.document_typing.specs.Meanings.{meanings}
use Rattle.document_typing.proofs.FieldsFound.{plain-none}

missing_none : (s : SchemaTree Place) (n m : List ℕ) (e : FieldLookupError) → FieldIsMissing s n m e → field_named s n m ≡ None
missing_none s n m NoSuchType h = ap (λ o. option_or (option_and_then (λ t. under m t.fields) o) (option_and_then (λ t. meta_field_on s n t m) o)) h
missing_none s n m (NoSuchField name type) h = h.1.1

pub field_absent : (s : SchemaTree Place) (n m : List ℕ) (e : FieldLookupError) → FieldIsMissing s n m e → None ≡ (meanings (plain s)).field n m
field_absent s n m e h = plain-none s n m (missing_none s n m e h)
