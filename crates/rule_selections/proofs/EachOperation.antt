-- The operations of a document, in order.
use Rattle.std.proofs.Common.{◌≡◌, ◌∙◌, ℕ, List, [], ◌∷◌, map, Option, Some, None, refl, ap, sym}
use Rattle.std.specs.List.{cons_option}
use Rattle.std.specs.Option.{option_map}
use Rattle.graphql_names.specs.Placed.{Placed, Place, node_tree}
use Rattle.graphql_names.specs.declared.node.Node.{Node}
use Rattle.schema_components.specs.Names.{Entries}
use Rattle.document_typed_operations.specs.OperationsByName.{operations_list}
use Rattle.document_typed_operations.specs.TypedDocument.{TypedOperation, typed_operation_tree, typed_operations_tree, typed_document_tree}
use Rattle.document_typed_operations.specs.declared.operation.Operation.{Operation}
use Rattle.document_typed_operations.specs.declared.document.ExecutableDocument.{ExecutableDocument}
use Rattle.spec_document.specs.MeantTree.{MeantOperation}
use Rattle.rule_reach.specs.in_typed_operations.DocumentView.{meant_by_operation, document_meant, operation_meant}
use Rattle.rule_document_definitions.specs.Selected.{operations}

meant_twice : (os : List (Node Operation)) → map meant_by_operation (map (node_tree typed_operation_tree) os) ≡ map operation_meant os
meant_twice [] = refl
meant_twice (o ∷ os) = ap (λ l. operation_meant o ∷ l) (meant_twice os)

module _ {P : Type 0} where
  meant_named : (es : Entries (Placed P (TypedOperation P))) → map meant_by_operation (map (λ e. e.1) es) ≡ map (λ (e : List ℕ × MeantOperation P). e.1) (map (λ e. (e.0, meant_by_operation e.1)) es)
  meant_named [] = refl
  meant_named (e ∷ es) = ap (λ l. meant_by_operation e.1 ∷ l) (meant_named es)

  meant_listed : (a : Option (Placed P (TypedOperation P))) (es : Entries (Placed P (TypedOperation P)))
      → map meant_by_operation (cons_option a (map (λ e. e.1) es)) ≡ cons_option (option_map meant_by_operation a) (map (λ (e : List ℕ × MeantOperation P). e.1) (map (λ e. (e.0, meant_by_operation e.1)) es))
  meant_listed None es = meant_named es
  meant_listed (Some a) es = ap (λ l. meant_by_operation a ∷ l) (meant_named es)

pub all_operations : (d : ExecutableDocument) (os : List (Node Operation)) → map (node_tree typed_operation_tree) os ≡ operations_list (typed_operations_tree d.operations) → map operation_meant os ≡ operations (document_meant d)
all_operations d os is =
    let t = typed_document_tree d in
    sym (meant_twice os) ∙ ap (map meant_by_operation) is ∙ meant_listed t.anonymous t.named
