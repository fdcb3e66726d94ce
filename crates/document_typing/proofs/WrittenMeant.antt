-- What is written of a typed document is what is written of its meaning.
use Rattle.std.proofs.Common.{◌≡◌, ℕ, List, [], ◌∷◌, ◌++◌, map, Option, None, Some, refl, ap, option_to_list}
use Rattle.std.specs.Option.{option_map}
use Rattle.graphql_names.specs.Placed.{Placed}
use Rattle.tree_operations.specs.SelectionTree.{FieldTree, InlineTree, selection_then}
use Rattle.tree_definitions.specs.DefinitionTree.{Operation, Fragment}
use Rattle.document_typed_selections.specs.TypedTree.{TypedSelection, TypedField, TypedSpread, TypedInline, TypedSet, typed_set, TypedSelections, no_typed, typed_then}
use Rattle.document_typed_operations.specs.TypedDocument.{TypedOperation, TypedFragment, TypedDocumentTree}
use Rattle.document_typed_operations.specs.ToAst.{ast_selection, ast_set, ast_selections, operation_with, fragment_with, ast_operation, ast_fragment, ast_document}
use Rattle.document_typing.specs.MeantTree.{MeantOperation, MeantFragment, meant, meant_of_set, meant_of_all}
use Rattle.document_typing.specs.DocumentView.{meant_by_operation, meant_by_fragment, meant_document}
use Rattle.document_typing.specs.OutDoc.{written_selection, written_set, written_selections, written_operation, written_fragment, written_document}

module _ {P : Type 0} where
  mutual
    selection-written : (s : TypedSelection P) → ast_selection s ≡ written_selection (meant s)
    selection-written (TypedField p d h s) = ap (FieldTree p h) (set-written s)
    selection-written (TypedSpread p n ds) = refl
    selection-written (TypedInline p c ds s) = ap (InlineTree p c ds) (set-written s)

    set-written : (s : TypedSet P) → ast_set s ≡ written_set (meant_of_set s)
    set-written (typed_set ty ss) = all-written ss

    all-written : (ss : TypedSelections P) → ast_selections ss ≡ written_selections (meant_of_all ss)
    all-written no_typed = refl
    all-written (typed_then s ss) = λ i. selection_then (selection-written s i) (all-written ss i)

  operation-written : (n : Placed P (TypedOperation P)) → ast_operation n ≡ written_operation (meant_by_operation n)
  operation-written n = ap (λ ts. Operation n.place (operation_with n.it ts)) (set-written n.it.set)

  fragment-written : (n : Placed P (TypedFragment P)) → ast_fragment n ≡ written_fragment (meant_by_fragment n)
  fragment-written n = ap (λ ts. Fragment n.place (fragment_with n.it ts)) (set-written n.it.set)

  anonymous-written : (o : Option (Placed P (TypedOperation P))) → map ast_operation (option_to_list o) ≡ map written_operation (option_to_list (option_map meant_by_operation o))
  anonymous-written None = refl
  anonymous-written (Some n) = ap (λ d. d ∷ []) (operation-written n)

  named-written : (es : List (List ℕ × Placed P (TypedOperation P))) → map (λ e. ast_operation e.1) es ≡ map (λ (e : List ℕ × MeantOperation P). written_operation e.1) (map {B = List ℕ × MeantOperation P} (λ (e : List ℕ × Placed P (TypedOperation P)). (e.0, meant_by_operation e.1)) es)
  named-written [] = refl
  named-written (e ∷ es) = λ i. operation-written e.1 i ∷ named-written es i

  fragments-written : (es : List (List ℕ × Placed P (TypedFragment P))) → map (λ e. ast_fragment e.1) es ≡ map (λ (e : List ℕ × MeantFragment P). written_fragment e.1) (map {B = List ℕ × MeantFragment P} (λ (e : List ℕ × Placed P (TypedFragment P)). (e.0, meant_by_fragment e.1)) es)
  fragments-written [] = refl
  fragments-written (e ∷ es) = λ i. fragment-written e.1 i ∷ fragments-written es i

  pub document-written : (d : TypedDocumentTree P) → ast_document d ≡ written_document (meant_document d)
  document-written d = λ i. anonymous-written d.anonymous i ++ named-written d.named i ++ fragments-written d.fragments i
