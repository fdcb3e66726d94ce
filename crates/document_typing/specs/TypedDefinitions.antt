-- Private: leads to `KeptDocument.antt` and `TypingFaults.antt`. What one definition adds to what is kept and told of those before it.
use Rattle.std.specs.Prelude.{ℕ, Bool, List, [], ◌∷◌, ◌++◌, Option, None, Some, is_some, fold, nat_lt, length, if◌then◌else◌}
use Rattle.std.specs.List.{filter}
use Rattle.std.specs.Option.{option_map_or}
use Rattle.graphql_names.specs.Placed.{Text}
use Rattle.tree_operations.specs.OperationTree.{OperationTree, FragmentTree}
use Rattle.tree_definitions.specs.DefinitionTree.{DefinitionTree, Operation, Fragment}
use Rattle.tree_definitions.specs.Queries.{definition_place}
use Rattle.schema_types.specs.in_components.Lists.{has_name}
use Rattle.schema_types.specs.in_components.Names.{Entries}
use Rattle.document_typing.specs.MeantTree.{MeantDocument}
use Rattle.document_typing.specs.Meanings.{Meanings}
use Rattle.document_typing.specs.KeptDocument.{Based, meant_operation, meant_fragment, is_operation}
use Rattle.document_typing.specs.TypingFaults.{TypingFault, typing_fault_at, TypeSystemDefinition, AmbiguousAnonymousOperation, OperationNameCollision, FragmentNameCollision, UndefinedRootOperation, UndefinedTypeInNamedFragmentTypeCondition}
use Rattle.document_typing.specs.SetFaults.{set_faults}

-- what is kept, and the faults that are told
pub record Typed (P : Type 0) : Type 0 where
  pub document : MeantDocument P
  pub faults : List (TypingFault P)

abbrev pub is_under : {A : Type 0} → List ℕ → Entries A → Bool
is_under n es = has_name (λ e. e.0) n es

module _ {P : Type 0} where
  abbrev pub told : List (TypingFault P) → Typed P → Typed P
  told fs st = record st { faults = st.faults ++ fs }

  abbrev pub faults_if : Bool → TypingFault P → List (TypingFault P)
  faults_if b f = if b then f ∷ [] else []

  abbrev pub based : P → List ℕ → OperationTree P → Based P (OperationTree P)
  based p t o = record { place = p; base = t; it = o }

  -- with an operation without a name, on this root, unless one is kept already
  abbrev pub with_anonymous : Meanings → P → OperationTree P → List ℕ → Typed P → Typed P
  with_anonymous m p o t st = if is_some st.document.anonymous then st else
      record { document = record st.document { anonymous = Some (meant_operation m (based p t o)) }; faults = st.faults ++ set_faults m o.selections t }

  -- with an operation of that name, on this root, unless one of that name is kept already
  abbrev pub with_named : Meanings → P → OperationTree P → List ℕ → List ℕ → Typed P → Typed P
  with_named m p o n t st = if is_under n st.document.named then st else
      record { document = record st.document { named = st.document.named ++ (n, meant_operation m (based p t o)) ∷ [] }; faults = st.faults ++ set_faults m o.selections t }

  abbrev pub on_root : Meanings → P → OperationTree P → (List ℕ → Typed P → Typed P) → Typed P → Typed P
  on_root m p o f st = option_map_or (λ t. f t st) (m.root o.operation_type) (told (typing_fault_at p (UndefinedRootOperation o.operation_type) ∷ []) st)

  -- whether a kept operation has that name, or for `None` has no name
  abbrev pub is_known : Option (Text P) → Typed P → Bool
  is_known None st = is_some st.document.anonymous
  is_known (Some n) st = is_under n.it st.document.named

  -- the faults of the name of an operation; `beside` says whether the document has other operations
  abbrev pub name_faults : Bool → P → Option (Text P) → Typed P → List (TypingFault P)
  name_faults beside p None st = faults_if beside (typing_fault_at p AmbiguousAnonymousOperation)
  name_faults beside p (Some n) st = faults_if (is_under n.it st.document.named) (typing_fault_at p (OperationNameCollision n.it))

  -- with an operation; `beside` says whether the document has other operations
  abbrev pub and_operation : Meanings → Bool → P → OperationTree P → Option (Text P) → Typed P → Typed P
  and_operation m beside p o None st = on_root m p o (with_anonymous m p o) (told (faults_if beside (typing_fault_at p AmbiguousAnonymousOperation)) st)
  and_operation m beside p o (Some n) st = on_root m p o (with_named m p o n.it) (told (faults_if (is_under n.it st.document.named) (typing_fault_at p (OperationNameCollision n.it))) st)

  abbrev pub with_fragment : Meanings → P → FragmentTree P → Typed P → Typed P
  with_fragment m p f st = if is_under f.name.it st.document.fragments then st else
      record {
        document = record st.document { fragments = st.document.fragments ++ (f.name.it, meant_fragment m (record { place = p; base = f.type_condition.it; it = f })) ∷ [] };
        faults = st.faults ++ set_faults m f.selections f.type_condition.it;
      }

  abbrev pub and_fragment : Meanings → P → FragmentTree P → Typed P → Typed P
  and_fragment m p f st =
      let old : Typed P = told (faults_if (is_under f.name.it st.document.fragments) (typing_fault_at p (FragmentNameCollision f.name.it))) st in
      if m.has_type f.type_condition.it then with_fragment m p f old
      else told (typing_fault_at p (UndefinedTypeInNamedFragmentTypeCondition f.type_condition.it) ∷ []) old

  -- with a definition of the document; `beside` says whether the document has more than one operation
  abbrev pub and_definition : Meanings → Bool → Typed P → DefinitionTree P → Typed P
  and_definition m beside st (Operation p o) = and_operation m beside p o o.name st
  and_definition m beside st (Fragment p f) = and_fragment m p f st
  and_definition m beside st d = told (typing_fault_at (definition_place d) TypeSystemDefinition ∷ []) st

  abbrev pub nothing : Typed P
  nothing = record { document = record { anonymous = None; named = []; fragments = [] }; faults = [] }

  -- what is kept and told of the whole document
  abbrev pub typed_in : Meanings → List (DefinitionTree P) → Typed P
  typed_in m ds = fold (and_definition m (nat_lt 1 (length (filter is_operation ds)))) nothing ds
