-- The operations of a document in order and by name (GraphQL, October 2021, sections 2.3 and 6.1).
use Rattle.std.specs.Prelude.{ℕ, List, [], ◌∷◌, map, Option, None, Some, if◌then◌else◌}
use Rattle.std.specs.Borrow.{Bor}
use Rattle.std.specs.List.{cons_option}
use Rattle.std.specs.Option.{option_copied, option_map}
use Rattle.std.specs.Str.{bytes_eq}
use Rattle.graphql_names.specs.Placed.{Placed, Text}
use Rattle.graphql_names.specs.declared.node.Node.{Node}
use Rattle.schema_types.specs.in_components.Names.{Entries}
use Rattle.schema_types.specs.Addresses.{under}
use Rattle.document_typed_operations.specs.TypedDocument.{TypedOperation, TypedOperations}
use Rattle.document_typed_operations.specs.declared.operation.Operation.{Operation}
use Rattle.document_typed_operations.specs.declared.operation_map.Operations.{Operations}

-- the entries with this value under the name: it replaces the first value under that name, or else is added last
abbrev pub put_under : {A : Type 0} → List ℕ → A → Entries A → Entries A
put_under name a [] = (name, a) ∷ []
put_under name a (e ∷ es) = if bytes_eq name e.0 then (e.0, a) ∷ es else e ∷ put_under name a es

-- private: the entries with this value in the first of them
abbrev pub first_under : {A : Type 0} → A → Entries A → Entries A
first_under a [] = []
first_under a (e ∷ es) = (e.0, a) ∷ es

-- private: the only element of a list
abbrev pub only : {A : Type 0} → List A → Option A
only (x ∷ []) = Some x
only _ = None

-- the text of the requested name, if there is one
abbrev pub asked_name : {K : Type 0} → (K → List ℕ) → Option (Bor K) → Option (List ℕ)
asked_name text name = option_map text (option_copied name)

module _ {P : Type 0} where
  -- the operations, the one without a name first
  abbrev pub operations_list : TypedOperations P → List (Placed P (TypedOperation P))
  operations_list t = cons_option t.anonymous (map (λ e. e.1) t.named)

  -- the operation of that name, or without a name the only operation (GetOperation of section 6.1)
  abbrev pub operation_called : Option (List ℕ) → TypedOperations P → Option (Placed P (TypedOperation P))
  operation_called (Some name) t = under name t.named
  operation_called None t = only (operations_list t)

  -- private: the operation of that name, or for `None` the operation without a name
  abbrev pub operation_at : Option (Text P) → TypedOperations P → Option (Placed P (TypedOperation P))
  operation_at None t = t.anonymous
  operation_at (Some name) t = under name.it t.named

  abbrev pub put_at : Option (Text P) → Placed P (TypedOperation P) → TypedOperations P → TypedOperations P
  put_at None o t = record t { anonymous = Some o }
  put_at (Some name) o t = record t { named = put_under name.it o t.named }

  -- the operation of t with the name of o, or, if o has no name, the one without a name
  abbrev pub standing_for : Placed P (TypedOperation P) → TypedOperations P → Option (Placed P (TypedOperation P))
  standing_for o t = operation_at o.it.name t

  -- the operations with o under its name, or, if o has no name, as the one without a name
  abbrev pub with_operation : Placed P (TypedOperation P) → TypedOperations P → TypedOperations P
  with_operation o t = put_at o.it.name o t

  -- private: the operations with this one instead of the first, which is the one without a name if there is one
  abbrev pub first_as : Option (Placed P (TypedOperation P)) → Placed P (TypedOperation P) → TypedOperations P → TypedOperations P
  first_as (Some _) o t = record t { anonymous = Some o }
  first_as None o t = record t { named = first_under o t.named }

  -- the operations with this one under that name, or without a name instead of the first; all else is unchanged
  abbrev pub called_as : Option (List ℕ) → Placed P (TypedOperation P) → TypedOperations P → TypedOperations P
  called_as (Some name) o t = record t { named = put_under name o t.named }
  called_as None o t = first_as t.anonymous o t

-- the operations that an iterator has still to yield
abbrev pub left_operations : Operations → List (Node Operation)
left_operations it = cons_option (option_copied it.anonymous) it.named
