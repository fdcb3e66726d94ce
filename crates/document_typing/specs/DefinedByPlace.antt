-- Where the definitions of fields come from: each field has the definition, with its places, that the schema has for its name on the type of the set that it is in (GraphQL, October 2021, section 5.3.1).
use Rattle.std.specs.Prelude.{◌≡◌, ℕ, List, [], ◌∷◌, codes, Option, None, Some, IfSome}
use Rattle.std.specs.Option.{option_map}
use Rattle.graphql_names.specs.Placed.{Place, Placed, Text}
use Rattle.tree_literals.specs.TypeTree.{NamedTree}
use Rattle.tree_type_members.specs.TypeSystemTree.{FieldDefinitionTree}
use Rattle.schema_types.specs.in_components.Names.{Entries}
use Rattle.schema_types.specs.SchemaTree.{SchemaTree}
use Rattle.graphql_schema.specs.LookUps.{field_named}
use Rattle.document_typed_selections.specs.TypedTree.{TypedSelection, TypedField, TypedSpread, TypedInline, TypedSet, typed_set, TypedSelections, no_typed, typed_then}
use Rattle.document_typed_operations.specs.TypedDocument.{TypedDocumentTree}

-- the definition of a field of that name without a schema: no arguments, and the type `UNKNOWN`
abbrev pub unknown_field : Text Place → Placed Place (FieldDefinitionTree Place)
unknown_field n = record {
  it = record { description = None; name = n; arguments = []; ty = NamedTree (record { it = codes "UNKNOWN"; place = None }); directives = [] };
  place = None;
}

-- d is the definition of the field named n on the type t: with a schema the one that the schema has, without a schema `unknown_field`
abbrev pub IsDefinitionOf : Option (SchemaTree Place) → List ℕ → Text Place → Placed Place (FieldDefinitionTree Place) → Type 0
IsDefinitionOf (Some s) t n d = option_map (λ g. g.it) (field_named s t n.it) ≡ Some d
IsDefinitionOf None t n d = d ≡ unknown_field n

-- each field, at any depth, has its definition
abbrev mutual
  -- for a selection in a set on the type t
  pub IsDefined : Option (SchemaTree Place) → List ℕ → TypedSelection Place → Type 0
  IsDefined s t (TypedField p d h x) = IsDefinitionOf s t h.name d × IsDefinedSet s x
  IsDefined s t (TypedSpread p n ds) = Unit {0}
  IsDefined s t (TypedInline p c ds x) = IsDefinedSet s x

  pub IsDefinedSet : Option (SchemaTree Place) → TypedSet Place → Type 0
  IsDefinedSet s (typed_set u ss) = AreDefined s u.it ss

  pub AreDefined : Option (SchemaTree Place) → List ℕ → TypedSelections Place → Type 0
  AreDefined s t no_typed = Unit {0}
  AreDefined s t (typed_then x xs) = IsDefined s t x × AreDefined s t xs

module _ (s : Option (SchemaTree Place)) where
  -- the same for the sets of entries
  abbrev pub AreDefinedSets : {A : Type 0} → (A → TypedSet Place) → Entries (Placed Place A) → Type 0
  AreDefinedSets set [] = Unit {0}
  AreDefinedSets set (e ∷ es) = IsDefinedSet s (set e.1.it) × AreDefinedSets set es

  -- the same for a document: for its operations and for its fragments
  abbrev pub IsDefinedDocument : TypedDocumentTree Place → Type 0
  IsDefinedDocument d = IfSome d.anonymous (λ o. IsDefinedSet s o.it.set) × AreDefinedSets (λ o. o.set) d.named × AreDefinedSets (λ f. f.set) d.fragments
