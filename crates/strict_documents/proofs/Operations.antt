-- The operations of a document, walked one by one.
use Rattle.std.proofs.Common.{◌≡◌, ◌++◌, ℕ, List, [], ◌∷◌, map, Option, Some, None, refl, ap, sym, ◌∙◌, append_assoc, append-nil}
use Rattle.std.specs.Borrow.{Bor}
use Rattle.std.specs.List.{cons_option}
use Rattle.std.specs.Option.{option_map}
use Rattle.graphql_names.specs.Placed.{Placed, node_tree, Place}
use Rattle.graphql_names.specs.declared.node.Node.{Node}
use Rattle.schema_components.specs.Names.{Entries}
use Rattle.document_typed_operations.specs.DocumentView.{meant_by_operation, document_meant, operation_meant}
use Rattle.document_typed_operations.specs.OperationsByName.{operations_list}
use Rattle.document_typed_operations.specs.TypedDocument.{TypedOperation, typed_operation_tree, typed_operations_tree, typed_document_tree}
use Rattle.document_typed_operations.specs.declared.document.ExecutableDocument.{ExecutableDocument}
use Rattle.document_typed_operations.specs.declared.operation.Operation.{Operation}
use Rattle.spec_document.specs.MeantTree.{MeantOperation}
use Rattle.rule_document_definitions.specs.Selected.{operations}

-- what is lent of operations
abbrev pub lent_operation : Bor (Node Operation) → MeantOperation Place
lent_operation o = operation_meant o.now

abbrev pub lent_operations : List (Bor (Node Operation)) → List (MeantOperation Place)
lent_operations os = map lent_operation os

meant_twice : (os : List (Node Operation)) → map meant_by_operation (map (node_tree typed_operation_tree) os) ≡ map operation_meant os
meant_twice [] = refl
meant_twice (o ∷ os) = ap (λ l. operation_meant o ∷ l) (meant_twice os)

module _ {P : Type 0} where
  meant_named : (es : Entries (Placed P (TypedOperation P))) → map meant_by_operation (map (λ e. e.1) es) ≡ map (λ (e : List ℕ × MeantOperation P). e.1) (map (λ e. (e.0, meant_by_operation e.1)) es)
  meant_named [] = refl
  meant_named (e ∷ es) = ap (λ l. meant_by_operation e.1 ∷ l) (meant_named es)

  meant_listed : (a : Option (Placed P (TypedOperation P))) (es : Entries (Placed P (TypedOperation P)))
      → map meant_by_operation (cons_option a (map (λ e. e.1) es)) ≡ cons_option (option_map meant_by_operation a) (map (λ (e : List ℕ × MeantOperation P). e.1) (map (λ e. (e.0, meant_by_operation e.1)) es))
  meant_listed None es = meant_named es
  meant_listed (Some a) es = ap (λ l. meant_by_operation a ∷ l) (meant_named es)

-- all of them
pub all_operations : (d : ExecutableDocument) (os : List (Node Operation)) → map (node_tree typed_operation_tree) os ≡ operations_list (typed_operations_tree d.operations) → map operation_meant os ≡ operations (document_meant d)
all_operations d os is =
    let t = typed_document_tree d in
    sym (meant_twice os) ∙ ap (map meant_by_operation) is ∙ meant_listed t.anonymous t.named

-- one more
pub one_after : (os : List (Bor (Node Operation))) (o : Bor (Node Operation)) → lent_operations (os ++ o ∷ []) ≡ lent_operations os ++ lent_operation o ∷ []
one_after [] o = refl
one_after (p ∷ os) o = ap (λ l. lent_operation p ∷ l) (one_after os o)

-- those that were lent and those that are left
pub lent_more : (os : List (Bor (Node Operation))) (o : Bor (Node Operation)) (all : List (MeantOperation Place)) (left rest : List (Node Operation)) → left ≡ o.now ∷ rest
    → lent_operations os ++ map operation_meant left ≡ all → lent_operations (os ++ o ∷ []) ++ map operation_meant rest ≡ all
lent_more os o all left rest is so_far =
    ap (λ l. l ++ map operation_meant rest) (one_after os o)
    ∙ append_assoc (lent_operations os) (lent_operation o ∷ []) (map operation_meant rest)
    ∙ ap (λ l. lent_operations os ++ map operation_meant l) (sym is)
    ∙ so_far

pub lent_all : (os : List (Bor (Node Operation))) (all : List (MeantOperation Place)) (left : List (Node Operation)) → left ≡ [] → lent_operations os ++ map operation_meant left ≡ all → lent_operations os ≡ all
lent_all os all left none so_far = sym (append-nil (lent_operations os)) ∙ ap (λ l. lent_operations os ++ map operation_meant l) (sym none) ∙ so_far
