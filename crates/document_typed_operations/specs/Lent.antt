-- What the operations of a document are once a borrow of one of them has ended.
use Rattle.std.specs.Prelude.{◌≡◌, ℕ, List, Option, Some}
use Rattle.std.specs.Option.{OnSome}
use Rattle.std.specs.Borrow.{MutBor, Fml, RattleType, LendsSo}
use Rattle.std.specs.HashMap.Lent.{HashMembers}
use Rattle.graphql_names.specs.Placed.{Place, Placed}
use Rattle.document_typed_operations.specs.TypedDocument.{TypedOperation, TypedOperations, operations_by}
use Rattle.document_typed_operations.specs.OperationsByName.{first_under, first_as, called_as}
use Rattle.document_typed_operations.specs.declared.operation_map.OperationMap.{OperationMap}
use Rattle.document_typed_operations.specs.contracts.operation_map.OperationMap.{the_row}

module _ (K O : RattleType) (key : HashMembers K.Denot) (text : K.Denot → List ℕ) (tree : O.Denot → Placed Place (TypedOperation Place)) (s : MutBor (OperationMap K.Denot O.Denot)) where
  -- private: once the borrow r ends, the operations are f of the operation last written through r and of the operations before; if r is
  -- `None`, nothing changes
  abbrev pub LendsAs : (Placed Place (TypedOperation Place) → TypedOperations Place → TypedOperations Place) → Option (MutBor O.Denot) → Fml
  LendsAs f r = LendsSo (the_row K O (record { eq = key.eq }) (record { hash_input = key.hash_input })) O s r
      (λ n w. OnSome r (operations_by text tree n ≡ f (tree w) (operations_by text tree s.now))) (λ n. n ≡ s.now)

  -- once the borrow r ends, the operation last written through r replaces the one with that name, or without a name the first one, and
  -- all else is unchanged; if r is `None`, nothing changes
  abbrev pub LendsCalled : Option (List ℕ) → Option (MutBor O.Denot) → Fml
  LendsCalled name = LendsAs (called_as name)

  -- private: the same for the first operation, for the one without a name and for the first one with a name
  abbrev pub LendsFirst : Option (MutBor O.Denot) → Fml
  LendsFirst = LendsAs (first_as (operations_by text tree s.now).anonymous)

  abbrev pub LendsAnonymous : Option (MutBor O.Denot) → Fml
  LendsAnonymous = LendsAs (λ o t. record t { anonymous = Some o })

  abbrev pub LendsFirstNamed : Option (MutBor O.Denot) → Fml
  LendsFirstNamed = LendsAs (λ o t. record t { named = first_under o t.named })
