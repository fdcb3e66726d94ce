-- Which operations ask only for the schema: queries whose root fields are all meta-fields (GraphQL, October 2021, sections 4, 4.1 and 4.2).
use Rattle.std.specs.Prelude.{◌≡◌, ◌↔◌, ℕ, Bool, false, IsTrue, List, [], ◌∷◌, codes}
use Rattle.std.specs.List.{list_all}
use Rattle.tree_operations.specs.in_directives.declared.operation_type.OperationType.TheVariants.{Query}
use Rattle.schema_components.specs.Lists.{is_among}
use Rattle.document_typed_selections.specs.TypedTree.{TypedSelection, TypedField, TypedSpread, TypedInline}
use Rattle.document_typed_operations.specs.TypedDocument.{TypedOperation}
use Rattle.document_typed_operations.specs.Reached.{Fragments, IsWalk}

-- whether this is the name of a meta-field
abbrev pub is_meta_name : List ℕ → Bool
is_meta_name n = is_among n (codes "__typename" ∷ codes "__schema" ∷ codes "__type" ∷ [])

module _ {P : Type 0} where
  abbrev pub is_meta_field : TypedSelection P → Bool
  is_meta_field (TypedField p d h s) = is_meta_name h.name.it
  is_meta_field (TypedSpread p n ds) = false
  is_meta_field (TypedInline p c ds s) = false

  abbrev pub are_meta_fields : List (TypedSelection P) → Bool
  are_meta_fields = list_all is_meta_field

  -- b is true exactly when the operation, in a document with these fragments, is a query and all its root fields are meta-fields
  abbrev pub SaysIntrospection : Fragments P → TypedOperation P → Bool → Type 0
  SaysIntrospection fragments o b = (given : List (TypedSelection P)) × (IsWalk false fragments o.set given × (IsTrue b ↔ ((o.operation_type ≡ Query) × IsTrue (are_meta_fields given))))
