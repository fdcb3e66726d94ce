-- What an operation adds to what is kept and told of the definitions before it.
use Rattle.std.proofs.Common.{◌≡◌, ℕ, Bool, true, false, ◌||◌, List, [], ◌∷◌, ◌++◌, map, Option, None, Some, refl, sym, ap, ◌∙◌, if◌then◌else◌, true≢false}
use Rattle.std.specs.Option.{option_map, option_map_or}
use Rattle.std.specs.Str.{bytes_eq}
use Rattle.graphql_names.specs.NameValue.{NameValue}
use Rattle.graphql_names.specs.Placed.{Place, Placed, Text, node_tree}
use Rattle.graphql_names.specs.declared.node.Node.{Node}
use Rattle.tree_operations.specs.OperationTree.{OperationTree}
use Rattle.schema_types.specs.in_components.Names.{Entries}
use Rattle.schema_types.specs.TypeView.{name_text}
use Rattle.document_typed_operations.specs.TypedDocument.{TypedOperation, TypedOperations, typed_operation_tree, typed_operations_tree}
use Rattle.document_typed_operations.specs.OperationsByName.{put_under, put_at, with_operation}
use Rattle.document_typed_operations.specs.declared.operation.Operation.{Operation}
use Rattle.document_typed_operations.specs.declared.operation_map.OperationMap.{OperationMap}
use Rattle.document_typing.specs.MeantTree.{MeantOperation, MeantFragment, MeantDocument}
use Rattle.document_typing.specs.Meanings.{Meanings}
use Rattle.document_typing.specs.KeptDocument.{meant_operation}
use Rattle.document_typing.specs.TypingFaults.{TypingFault, typing_fault_at, UndefinedRootOperation}
use Rattle.document_typing.specs.SetFaults.{set_faults}
use Rattle.document_typing.specs.TypedDefinitions.{Typed, told, based, is_under, is_known, name_faults, with_anonymous, with_named, on_root, and_operation}
use Rattle.document_typing.specs.StepsView.{named_meanings}
use Rattle.document_typing.specs.DocumentView.{meant_by_operation, operation_meant}
use Rattle.document_typing.proofs.DocumentMeant.{optional, entries}

-- ---- where it is

-- a document with this operation added: after the others with a name, or as the one without a name
abbrev pub and_kept : {P : Type 0} → Option (Text P) → MeantOperation P → MeantDocument P → MeantDocument P
and_kept None o d = record d { anonymous = Some o }
and_kept (Some n) o d = record d { named = d.named ++ (n.it, o) ∷ [] }

-- what is put under a new name comes last
module _ {A B : Type 0} (view : A → B) (name : List ℕ) (a : A) where
  abbrev seen : Entries A → Entries B
  seen es = map {B = List ℕ × B} (λ (e : List ℕ × A). (e.0, view e.1)) es

  put-first : (e : List ℕ × A) (es : Entries A) (b : Bool) → (b || is_under name (seen es)) ≡ false
      → (is_under name (seen es) ≡ false → seen (put_under name a es) ≡ seen es ++ (name, view a) ∷ [])
      → seen (if b then (e.0, a) ∷ es else e ∷ put_under name a es) ≡ (e.0, view e.1) ∷ (seen es ++ (name, view a) ∷ [])
  put-first e es true h rest = absurd (true≢false h)
  put-first e es false h rest = ap (λ l. (e.0, view e.1) ∷ l) (rest h)

  put-last : (es : Entries A) → is_under name (seen es) ≡ false → seen (put_under name a es) ≡ seen es ++ (name, view a) ∷ []
  put-last [] absent = refl
  put-last (e ∷ es) absent = put-first e es (bytes_eq name e.0) absent (put-last es)

-- a document with these operations and fragments
abbrev document_of : Entries (MeantFragment Place) → TypedOperations Place → MeantDocument Place
document_of fragments t = record {
  anonymous = option_map meant_by_operation t.anonymous;
  named = map {B = List ℕ × MeantOperation Place} (λ (e : List ℕ × Placed Place (TypedOperation Place)). (e.0, meant_by_operation e.1)) t.named;
  fragments = fragments;
}

put-kept : (fragments : Entries (MeantFragment Place)) (faults : List (TypingFault Place)) (n : Option (Text Place)) (o : Placed Place (TypedOperation Place)) (t : TypedOperations Place)
    → is_known n (record { document = document_of fragments t; faults = faults }) ≡ false
    → document_of fragments (put_at n o t) ≡ and_kept n (meant_by_operation o) (document_of fragments t)
put-kept fragments faults None o t absent = refl
put-kept fragments faults (Some n) o t absent = ap (λ l. record (document_of fragments t) { named = l }) (put-last meant_by_operation n.it o t.named absent)

-- what these operations mean
abbrev pub meant_with : Entries (MeantFragment Place) → OperationMap NameValue (Node Operation) → MeantDocument Place
meant_with fragments m = record { anonymous = option_map operation_meant m.anonymous; named = named_meanings m.named; fragments = fragments }

meant-with : (fragments : Entries (MeantFragment Place)) (m : OperationMap NameValue (Node Operation)) → document_of fragments (typed_operations_tree m) ≡ meant_with fragments m
meant-with fragments m = λ i. record {
  anonymous = optional meant_by_operation (node_tree typed_operation_tree) m.anonymous i;
  named = entries meant_by_operation (node_tree typed_operation_tree) name_text m.named.entries i;
  fragments = fragments;
}

-- an operation whose name is not known, put among the others
pub operation-put : (fragments : Entries (MeantFragment Place)) (faults : List (TypingFault Place)) (n : Option (Text Place)) (old new : OperationMap NameValue (Node Operation)) (o : Node Operation) (x : MeantOperation Place)
    → operation_meant o ≡ x → x.name ≡ n
    → typed_operations_tree new ≡ with_operation (node_tree typed_operation_tree o) (typed_operations_tree old)
    → is_known n (record { document = meant_with fragments old; faults = faults }) ≡ false
    → meant_with fragments new ≡ and_kept n x (meant_with fragments old)
operation-put fragments faults n old new o x is named put absent =
    sym (meant-with fragments new)
    ∙ ap (document_of fragments) put
    ∙ ap (λ k. document_of fragments (put_at k (node_tree typed_operation_tree o) (typed_operations_tree old))) (ap (λ (y : MeantOperation Place). y.name) is ∙ named)
    ∙ put-kept fragments faults n (node_tree typed_operation_tree o) (typed_operations_tree old) (ap (λ d. is_known n (record { document = d; faults = faults })) (meant-with fragments old) ∙ absent)
    ∙ (λ i. and_kept n (is i) (meant-with fragments old i))

-- ---- what is kept and told with it

module _ {P : Type 0} (m : Meanings) (beside : Bool) (p : P) (o : OperationTree P) where
  rooted : (f : List ℕ → Typed P → Typed P) (st : Typed P) (root : Option (List ℕ)) → m.root o.operation_type ≡ root
      → on_root m p o f st ≡ option_map_or (λ t. f t st) root (told (typing_fault_at p (UndefinedRootOperation o.operation_type) ∷ []) st)
  rooted f st root is = ap (λ r. option_map_or (λ t. f t st) r (told (typing_fault_at p (UndefinedRootOperation o.operation_type) ∷ []) st)) is

  -- what is told changes no name
  pub told-known : (fs : List (TypingFault P)) (n : Option (Text P)) (st : Typed P) → is_known n (told fs st) ≡ is_known n st
  told-known fs None st = refl
  told-known fs (Some n) st = refl

  -- with what is told of its name
  abbrev pub checked : Option (Text P) → Typed P → Typed P
  checked n st = told (name_faults beside p n st) st

  -- its root is not there
  pub without-root : (n : Option (Text P)) (st : Typed P) → m.root o.operation_type ≡ None
      → told (typing_fault_at p (UndefinedRootOperation o.operation_type) ∷ []) (checked n st) ≡ and_operation m beside p o n st
  without-root None st none = sym (rooted (with_anonymous m p o) (checked None st) None none)
  without-root (Some n) st none = sym (rooted (with_named m p o n.it) (checked (Some n) st) None none)

  -- its root is there, and its name is known
  pub with-known : (n : Option (Text P)) (st : Typed P) (t : List ℕ) → m.root o.operation_type ≡ Some t → is_known n st ≡ true
      → checked n st ≡ and_operation m beside p o n st
  with-known None st t root known =
      sym (rooted (with_anonymous m p o) (checked None st) (Some t) root ∙ ap (λ b. if b then checked None st else
      record { document = and_kept None (meant_operation m (based p t o)) st.document; faults = (checked None st).faults ++ set_faults m o.selections t }) known)
  with-known (Some n) st t root known =
      sym (rooted (with_named m p o n.it) (checked (Some n) st) (Some t) root ∙ ap (λ b. if b then checked (Some n) st else
      record { document = and_kept (Some n) (meant_operation m (based p t o)) st.document; faults = (checked (Some n) st).faults ++ set_faults m o.selections t }) known)

  -- its root is there, and its name is not known
  pub with-kept : (n : Option (Text P)) (st : Typed P) (t : List ℕ) → m.root o.operation_type ≡ Some t → is_known n st ≡ false
      → record { document = and_kept n (meant_operation m (based p t o)) st.document; faults = (checked n st).faults ++ set_faults m o.selections t } ≡ and_operation m beside p o n st
  with-kept None st t root known =
      sym (rooted (with_anonymous m p o) (checked None st) (Some t) root ∙ ap (λ b. if b then checked None st else
      record { document = and_kept None (meant_operation m (based p t o)) st.document; faults = (checked None st).faults ++ set_faults m o.selections t }) known)
  with-kept (Some n) st t root known =
      sym (rooted (with_named m p o n.it) (checked (Some n) st) (Some t) root ∙ ap (λ b. if b then checked (Some n) st else
      record { document = and_kept (Some n) (meant_operation m (based p t o)) st.document; faults = (checked (Some n) st).faults ++ set_faults m o.selections t }) known)
