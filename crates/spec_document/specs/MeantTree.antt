-- Selections with their meaning: each field has its definition, each set the name of its type. Places are those of the document; definitions have no places (GraphQL, October 2021, sections 2.4, 2.5 and 2.8).
use Rattle.std.specs.Prelude.{ℕ, List, [], ◌∷◌, Option}
use Rattle.graphql_names.specs.Placed.{Placed, Text}
use Rattle.tree_directives.specs.DirectiveTree.{Directives}
use Rattle.tree_directives.specs.declared.operation_type.OperationType.{OperationType}
use Rattle.tree_operations.specs.SelectionTree.{FieldHead}
use Rattle.tree_operations.specs.OperationTree.{VariableDefinitionTree}
use Rattle.tree_type_members.specs.TypeSystemTree.{FieldDefinitionTree, unplaced_field_definition}
use Rattle.schema_components.specs.Names.{Entries}
use Rattle.document_typed_selections.specs.TypedTree.{TypedSelection, TypedField, TypedSpread, TypedInline, TypedSet, typed_set, TypedSelections, no_typed, typed_then}

-- the definition of a field in the schema, without places
abbrev pub Definition : Type 0
Definition = FieldDefinitionTree (Unit {0})

mutual
  pub data MeantSelection (P : Type 0) : Type 0 where
    MeantField : P → Definition → FieldHead P → MeantSet P → MeantSelection P
    MeantSpread : P → Text P → Directives P → MeantSelection P
    MeantInline : P → Option (Text P) → Directives P → MeantSet P → MeantSelection P

  -- selections on the type of this name
  pub data MeantSet (P : Type 0) : Type 0 where
    meant_set : List ℕ → MeantSelections P → MeantSet P

  pub data MeantSelections (P : Type 0) : Type 0 where
    no_meant : MeantSelections P
    meant_then : MeantSelection P → MeantSelections P → MeantSelections P

-- operation_type name(variables) @directives { selections }, with its place
pub record MeantOperation (P : Type 0) : Type 0 where
  pub place : P
  pub operation_type : OperationType
  pub name : Option (Text P)
  pub variables : List (Placed P (VariableDefinitionTree P))
  pub directives : Directives P
  pub set : MeantSet P

-- fragment name on type_condition @directives { selections }, with its place
pub record MeantFragment (P : Type 0) : Type 0 where
  pub place : P
  pub name : Text P
  pub type_condition : Text P
  pub directives : Directives P
  pub set : MeantSet P

-- the operation without a name, if there is one, and the other operations and the fragments under their names, in order
pub record MeantDocument (P : Type 0) : Type 0 where
  pub anonymous : Option (MeantOperation P)
  pub named : Entries (MeantOperation P)
  pub fragments : Entries (MeantFragment P)

module _ {P : Type 0} where
  abbrev pub members : List (MeantSelection P) → MeantSelections P
  members [] = no_meant
  members (s ∷ ss) = meant_then s (members ss)

  -- a set of these selections on the type of this name
  abbrev pub set_on : List ℕ → List (MeantSelection P) → MeantSet P
  set_on ty ss = meant_set ty (members ss)

-- what a typed selection means
abbrev mutual
  pub meant : {P : Type 0} → TypedSelection P → MeantSelection P
  meant (TypedField p d h s) = MeantField p (unplaced_field_definition d.it) h (meant_of_set s)
  meant (TypedSpread p n ds) = MeantSpread p n ds
  meant (TypedInline p c ds s) = MeantInline p c ds (meant_of_set s)

  pub meant_of_set : {P : Type 0} → TypedSet P → MeantSet P
  meant_of_set (typed_set ty ss) = meant_set ty.it (meant_of_all ss)

  pub meant_of_all : {P : Type 0} → TypedSelections P → MeantSelections P
  meant_of_all no_typed = no_meant
  meant_of_all (typed_then s ss) = meant_then (meant s) (meant_of_all ss)
