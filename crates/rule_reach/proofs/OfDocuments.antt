-- What `reach` gives, of an operation in its document, and of a field set.
use Rattle.std.proofs.Common.{◌≡◌, ℕ, List, [], map, None, refl, sym, ap}
use Rattle.graphql_names.specs.NameValue.{NameValue}
use Rattle.graphql_names.specs.Node.{content}
use Rattle.graphql_names.specs.Placed.{Place, Placed, node_tree}
use Rattle.graphql_names.specs.declared.node.Node.{Node}
use Rattle.document_typed_selections.specs.TypedTree.{TypedSet, typed_set_tree}
use Rattle.document_typed_operations.specs.TypedDocument.{TypedFragment, typed_operation_tree, typed_fragment_tree, typed_document_tree}
use Rattle.document_typed_operations.specs.declared.document.ExecutableDocument.{ExecutableDocument}
use Rattle.document_typed_operations.specs.declared.operation.Fragment.{Fragment}
use Rattle.document_typed_operations.specs.declared.operation.Operation.{Operation}
use Rattle.rule_document_definitions.specs.in_spec_document.MeantTree.{MeantDocument, meant_of_set}
use Rattle.document_typed_operations.specs.DocumentView.{meant_by_operation, meant_by_fragment, meant_document}
use Rattle.rule_document_definitions.specs.Selected.{Position, InOperation, standing_in, operation_name}
use Rattle.rule_document_definitions.specs.FieldSets.{document_of_set}
use Rattle.rule_reach.specs.Reach.{IsReach, meant_fragments, reached_members, reached_fragments_of, IsReachOf}
use Rattle.rule_reach.specs.declared.lists.Reach.{Reach}
use Rattle.indexmap.specs.IndexMap.{IndexMap}

-- what `reach` says of a set in all documents with these fragments
abbrev pub ReachesFrom : {S : Type 0} → TypedSet Place → IndexMap NameValue (Node Fragment) S → Reach → Type 0
ReachesFrom start fragments r = (d : MeantDocument Place) (holder : Position) → d.fragments ≡ meant_fragments fragments → IsReach d (standing_in holder (meant_of_set start)) (reached_members r) (reached_fragments_of r)

-- it is what an operation reaches, in the document of the fragments
pub operation_reaches : (document : ExecutableDocument) (o : Node Operation) (r : Reach) → ReachesFrom (typed_set_tree (content o).selection_set) document.fragments r
    → IsReachOf (meant_document (typed_document_tree document)) (meant_by_operation (node_tree typed_operation_tree o)) r
operation_reaches document o r h = h (meant_document (typed_document_tree document)) (InOperation (operation_name (meant_by_operation (node_tree typed_operation_tree o)))) refl

-- and what the only operation of a field set reaches, where there are no fragments
pub set_reaches : {S : Type 0} (place : Place) (set : TypedSet Place) (fragments : IndexMap NameValue (Node Fragment) S) (r : Reach) → fragments.entries ≡ [] → ReachesFrom set fragments r
    → IsReach (document_of_set place (meant_of_set set)) (standing_in (InOperation None) (meant_of_set set)) (reached_members r) (reached_fragments_of r)
set_reaches place set fragments r none h =
    h (document_of_set place (meant_of_set set)) (InOperation None) (sym (ap (λ es. map (λ (e : List ℕ × Placed Place (TypedFragment Place)). (e.0, meant_by_fragment e.1)) (map (λ (e : NameValue × Node Fragment). (e.0.text, node_tree typed_fragment_tree e.1)) es)) none))
