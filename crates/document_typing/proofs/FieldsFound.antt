-- What a lookup of a field finds on a type that was found, without places.
use Rattle.std.proofs.Common.{◌≡◌, ℕ, Bool, false, ◌||◌, List, Option, None, Some, Bor, sym, ap, subst, ◌∙◌, option_and_then}
use Rattle.std.specs.Option.{option_map, option_map_or, option_or}
use Rattle.std.specs.FinMap as fin
use Rattle.graphql_names.specs.Placed.{Place}
use Rattle.tree_type_members.specs.TypeSystemTree.{field_definition_tree, unplaced_field_definition}
use Rattle.tree_type_members.specs.declared.field_definition.FieldDefinition.{FieldDefinition}
use Rattle.schema_types.specs.in_components.Given.{component_tree, plain_given}
use Rattle.schema_types.specs.in_components.declared.component.Component.{Component}
use Rattle.schema_types.specs.Addresses.{under, type_at}
use Rattle.schema_types.specs.SchemaTree.{SchemaTree, SchemaType, same_kind}
use Rattle.schema_types.specs.Plain.{PlainType, plain, plain_type}
use Rattle.schema_types.specs.Looks.{type_looks}
use Rattle.schema_types.specs.TypeView.{extended_type}
use Rattle.schema_types.specs.declared.extended_type.ExtendedType.{ExtendedType}
use Rattle.schema_types.specs.declared.type_kind.TypeKind.TheVariants as kind
use Rattle.graphql_schema.specs.SchemaOf.{schema_tree}
use Rattle.graphql_schema.specs.LookUps.{meta_field_on, field_on, field_named}
use Rattle.graphql_schema.specs.declared.schema.Schema.{Schema}
use Rattle.graphql_schema.proofs.FieldLooks.{fields_plain}
use Rattle.document_typing.specs.Meanings.{meanings}
use Rattle.document_typing.specs.KeptSelections.{is_leaf}
use Rattle.document_typing.specs.MeaningView.{schema_under}
use Rattle.document_typing.specs.Telling.{IsTypeUnder, is_leaf_type}
use Rattle.document_typing.specs.DefinedField.{definition_view}

-- ---- the type that was found

-- it is under the name in the schema
under-name : (schema : Option (Bor Schema)) (here : Bor Schema) (n : List ℕ) (ty : Option (Bor ExtendedType)) → schema ≡ Some here → IsTypeUnder (schema_under schema) n ty
    → type_at (schema_tree here.now) n ≡ option_map (λ t. extended_type t.now) ty
under-name schema here n ty is found = sym (subst (λ x. IsTypeUnder (schema_under x) n ty) is found)

abbrev is_leaf_found : Option PlainType → Bool
is_leaf_found o = option_map_or (λ t. same_kind t.kind kind.Scalar) (option_map type_looks o) false || option_map_or (λ t. same_kind t.kind kind.Enum) (option_map type_looks o) false

-- it is a leaf where the name is that of one
pub leaf-found : (s : SchemaTree Place) (n : List ℕ) (ty : Option (Bor ExtendedType)) → option_map (λ t. plain_type (extended_type t.now)) ty ≡ fin.get (plain s).types n
    → is_leaf_type ty ≡ is_leaf (meanings (plain s)) n
leaf-found s n None found = ap is_leaf_found found
leaf-found s n (Some t) found = ap is_leaf_found found

-- ---- its fields

on-type : (s : SchemaTree Place) (n m : List ℕ) (o : Option (SchemaType Place)) → type_at s n ≡ o
    → field_named s n m ≡ option_or (option_and_then (λ (t : SchemaType Place). under m t.fields) o) (option_and_then (λ (t : SchemaType Place). meta_field_on s n t m) o)
on-type s n m o e = ap (λ o. option_or (option_and_then (λ (t : SchemaType Place). under m t.fields) o) (option_and_then (λ (t : SchemaType Place). meta_field_on s n t m) o)) e

module _ (schema : Option (Bor Schema)) (here : Bor Schema) (n m : List ℕ) (ty : Option (Bor ExtendedType)) (is : schema ≡ Some here) (found : IsTypeUnder (schema_under schema) n ty) where
  -- where there is no type there is none
  pub none-there : ty ≡ None → field_named (schema_tree here.now) n m ≡ None
  none-there none = on-type (schema_tree here.now) n m None (under-name schema here n ty is found ∙ ap (option_map (λ (t : Bor ExtendedType). extended_type t.now)) none)

  pub one-there : (t : Bor ExtendedType) → ty ≡ Some t → field_named (schema_tree here.now) n m ≡ field_on (schema_tree here.now) n (extended_type t.now) m
  one-there t one = on-type (schema_tree here.now) n m (Some (extended_type t.now)) (under-name schema here n ty is found ∙ ap (option_map (λ (t : Bor ExtendedType). extended_type t.now)) one)

-- ---- without places

pub plain-none : (s : SchemaTree Place) (n m : List ℕ) → field_named s n m ≡ None → None ≡ (meanings (plain s)).field n m
plain-none s n m none = sym (ap (option_map (plain_given unplaced_field_definition)) none) ∙ fields_plain s n m

pub plain-some : (s : SchemaTree Place) (n m : List ℕ) (f : Bor (Component FieldDefinition)) → field_named s n m ≡ Some (component_tree field_definition_tree f.now)
    → Some (definition_view f.now.node) ≡ (meanings (plain s)).field n m
plain-some s n m f one = sym (ap (option_map (plain_given unplaced_field_definition)) one) ∙ fields_plain s n m
