-- What follows where an operation was asked whether it asks for the schema alone.
use Rattle.std.proofs.Common.{◌≡◌, List, Bool, false, true≢false, IfOk, Result, Ok, Err, sym, subst}
use Rattle.std.specs.Prelude.{IsTrue}
use Rattle.std.specs.declared.alloc.AllocError.{AllocError}
use Rattle.graphql_names.specs.Placed.{Place}
use Rattle.tree_operations.specs.in_directives.declared.operation_type.OperationType.TheVariants.{Query}
use Rattle.document_typed_selections.specs.TypedTree.{TypedSelection}
use Rattle.document_typed_operations.specs.TypedDocument.{TypedOperation}
use Rattle.document_typed_operations.specs.Reached.{Fragments, IsWalk}
use Rattle.graphql_documents.specs.Introspection.{are_meta_fields, SaysIntrospection}

module _ (fragments : Fragments Place) (o : TypedOperation Place) (left : List (TypedSelection Place)) (walk : IsWalk false fragments o.set left) where
  -- a query whose root fields were looked at
  pub looked_at : (r : Result Bool AllocError) → o.operation_type ≡ Query → IfOk r (λ b. b ≡ are_meta_fields left) → IfOk r (SaysIntrospection fragments o)
  looked_at (Ok b) query is = (left, (walk, (λ said. (query, subst IsTrue is said), λ both. subst IsTrue (sym is) both.1)))
  looked_at (Err e) query is = tt

  -- no query
  pub no_query : (o.operation_type ≡ Query → IsTrue false) → SaysIntrospection fragments o false
  no_query other = (left, (walk, (λ said. absurd (true≢false (sym said)), λ both. other both.0)))
