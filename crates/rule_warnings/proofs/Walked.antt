-- What is told of selections, operations and fragments as the program has them.
use Rattle.std.proofs.Common.{◌≡◌, ◌∙◌, ◌++◌, ℕ, List, [], ◌∷◌, map, refl, ap, sym, Option, Some, None}
use Rattle.std.specs.List.{cons_option, flat_map}
use Rattle.std.specs.Option.{option_map, option_or, option_and_then}
use Rattle.graphql_names.specs.NameValue.{NameValue}
use Rattle.graphql_names.specs.Placed.{Placed, Place, node_tree}
use Rattle.graphql_names.specs.declared.node.Node.{Node}
use Rattle.schema_components.specs.Names.{Entries}
use Rattle.schema_types.specs.SchemaTree.{SchemaTree}
use Rattle.schema_types.specs.TypeView.{name_text}
use Rattle.schema_types.specs.Addresses.{under}
use Rattle.graphql_schema.specs.LookUps.{FieldIsMissing, field_named, meta_field_on}
use Rattle.graphql_schema.specs.declared.field_lookup.FieldLookupError.{FieldLookupError}
use Rattle.graphql_schema.specs.declared.field_lookup.FieldLookupError.TheVariants.{NoSuchType, NoSuchField}
use Rattle.document_typed_selections.specs.TypedTree.{TypedSelection, TypedField, TypedSpread, TypedInline}
use Rattle.document_typed_selections.specs.TypedParts.{typed_directives, as_typed_field}
use Rattle.document_typed_operations.specs.OperationsByName.{operations_list}
use Rattle.document_typed_operations.specs.TypedDocument.{TypedOperation, TypedFragment, typed_operation_tree, typed_operations_tree, typed_document_tree, typed_fragment_tree}
use Rattle.document_typed_operations.specs.DocumentView.{meant_by_operation, meant_by_fragment, document_meant, operation_meant}
use Rattle.document_typed_operations.specs.declared.operation.Operation.{Operation}
use Rattle.document_typed_operations.specs.declared.operation.Fragment.{Fragment}
use Rattle.document_typed_operations.specs.declared.document.ExecutableDocument.{ExecutableDocument}
use Rattle.spec_document.specs.MeantTree.{MeantOperation, MeantFragment, meant}
use Rattle.rule_document_definitions.specs.Selected.{selection_directives, operations}
use Rattle.rule_warnings.specs.Deprecated.{DeprecatedUse}
use Rattle.rule_warnings.specs.Told.{own_uses, operation_uses, fragment_uses}
use Rattle.rule_warnings.specs.TellingDocuments.{operation_uses_of, fragment_uses_of}

-- ---- selections

pub directives_meant : {P : Type 0} (t : TypedSelection P) → typed_directives t ≡ selection_directives (meant t)
directives_meant (TypedField p d h s) = refl
directives_meant (TypedSpread p n ds) = refl
directives_meant (TypedInline p c ds s) = refl

-- what is told of a field, if there is one
abbrev pub if_field : SchemaTree Place → List ℕ → Option (TypedSelection Place) → List (DeprecatedUse Place)
if_field s ty None = []
if_field s ty (Some t) = own_uses s ty (meant t)

pub if_field_is : (s : SchemaTree Place) (ty : List ℕ) (t : TypedSelection Place) → if_field s ty (as_typed_field t) ≡ own_uses s ty (meant t)
if_field_is s ty (TypedField p d h v) = refl
if_field_is s ty (TypedSpread p n ds) = refl
if_field_is s ty (TypedInline p c ds v) = refl

-- a field that is missing
pub missing_field : (s : SchemaTree Place) (n m : List ℕ) (e : FieldLookupError) → FieldIsMissing s n m e → field_named s n m ≡ None
missing_field s n m NoSuchType h = ap (λ o. option_or (option_and_then (λ t. under m t.fields) o) (option_and_then (λ t. meta_field_on s n t m) o)) h
missing_field s n m (NoSuchField name ty) h = h.1.1

-- ---- operations

meant_twice : (os : List (Node Operation)) → map meant_by_operation (map (node_tree typed_operation_tree) os) ≡ map operation_meant os
meant_twice [] = refl
meant_twice (o ∷ os) = ap (λ l. operation_meant o ∷ l) (meant_twice os)

module _ {P : Type 0} where
  meant_named : (es : Entries (Placed P (TypedOperation P))) → map meant_by_operation (map (λ e. e.1) es) ≡ map (λ (e : List ℕ × MeantOperation P). e.1) (map (λ e. (e.0, meant_by_operation e.1)) es)
  meant_named [] = refl
  meant_named (e ∷ es) = ap (λ l. meant_by_operation e.1 ∷ l) (meant_named es)

  meant_listed : (a : Option (Placed P (TypedOperation P))) (es : Entries (Placed P (TypedOperation P)))
      → map meant_by_operation (cons_option a (map (λ e. e.1) es)) ≡ cons_option (option_map meant_by_operation a) (map (λ (e : List ℕ × MeantOperation P). e.1) (map (λ e. (e.0, meant_by_operation e.1)) es))
  meant_listed None es = meant_named es
  meant_listed (Some a) es = ap (λ l. meant_by_operation a ∷ l) (meant_named es)

all_operations : (d : ExecutableDocument) (os : List (Node Operation)) → map (node_tree typed_operation_tree) os ≡ operations_list (typed_operations_tree d.operations) → map operation_meant os ≡ operations (document_meant d)
all_operations d os is =
    let t = typed_document_tree d in
    sym (meant_twice os) ∙ ap (map meant_by_operation) is ∙ meant_listed t.anonymous t.named

each_operation : (s : SchemaTree Place) (os : List (Node Operation)) → flat_map (operation_uses s) (map operation_meant os) ≡ flat_map (operation_uses_of s) os
each_operation s [] = refl
each_operation s (o ∷ os) = ap (λ l. operation_uses_of s o ++ l) (each_operation s os)

pub operations_told : (s : SchemaTree Place) (d : ExecutableDocument) (os : List (Node Operation)) → map (node_tree typed_operation_tree) os ≡ operations_list (typed_operations_tree d.operations)
    → flat_map (operation_uses s) (operations (document_meant d)) ≡ flat_map (operation_uses_of s) os
operations_told s d os is = ap (flat_map (operation_uses s)) (sym (all_operations d os is)) ∙ each_operation s os

-- ---- fragments

pub fragments_told : (s : SchemaTree Place) (es : List (NameValue × Node Fragment))
    → flat_map (λ (e : NameValue × Node Fragment). fragment_uses_of s e.1) es
    ≡ flat_map (fragment_uses s) (map (λ (e : List ℕ × MeantFragment Place). e.1) (map (λ (e : List ℕ × Placed Place (TypedFragment Place)). (e.0, meant_by_fragment e.1)) (map (λ (e : NameValue × Node Fragment). (name_text e.0, node_tree typed_fragment_tree e.1)) es)))
fragments_told s [] = refl
fragments_told s (e ∷ es) = ap (λ l. fragment_uses_of s e.1 ++ l) (fragments_told s es)
