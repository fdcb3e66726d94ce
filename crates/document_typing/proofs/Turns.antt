-- Each definition turns what is kept and told of those before it into what is kept and told with it.
use Rattle.std.proofs.Common.{◌≡◌, ℕ, Bool, true, false, List, [], ◌∷◌, ◌++◌, map, Option, None, Some, refl, sym, ap, ◌∙◌, append_assoc, if◌then◌else◌, is_some, option_to_list}
use Rattle.std.specs.Prelude.{fold, nat_lt, length}
use Rattle.std.specs.List.{filter}
use Rattle.std.specs.Option.{option_map, option_map_or}
use Rattle.std.proofs.lemmas.List.{append-nil, map-append}
use Rattle.graphql_names.specs.Placed.{Text}
use Rattle.tree_operations.specs.OperationLayout.{is_none}
use Rattle.tree_operations.specs.OperationTree.{OperationTree, FragmentTree}
use Rattle.tree_definitions.specs.DefinitionTree.{DefinitionTree, Operation, Fragment}
use Rattle.tree_definitions.specs.Queries.{definition_place}
use Rattle.schema_types.specs.in_components.Lists.{each_place, has_name}
use Rattle.schema_types.proofs.in_components.Places.{each_place-push}
use Rattle.document_typing.specs.Meanings.{Meanings}
use Rattle.document_typing.specs.KeptDocument.{Based, based_operation, anonymous_here, named_here, fragment_here, text_or_empty, operation_name, fragment_name, kept_anonymous, kept_named, kept_fragments, meant_operation, meant_fragment, named_entry, fragment_entry, kept_document, is_operation}
use Rattle.document_typing.specs.TypingFaults.{TypingFault, typing_fault_at, TypeSystemDefinition, AmbiguousAnonymousOperation, OperationNameCollision, FragmentNameCollision, UndefinedRootOperation, UndefinedTypeInNamedFragmentTypeCondition}
use Rattle.document_typing.specs.SetFaults.{set_faults}
use Rattle.document_typing.specs.TypedDefinitions.{Typed, told, faults_if, based, is_under, with_anonymous, with_named, with_fragment, and_operation, and_fragment, and_definition, typed_in}
use Rattle.document_typing.proofs.KeptFirsts.{kept-none, kept-seen, kept-new, first-none, first-seen, first-new, under-made, is_some-made}

module _ {P : Type 0} (m : Meanings) (beside : Bool) where
  -- ---- what is told of a definition that comes after these

  abbrev pub root_faults : P → OperationTree P → Bool → Option (List ℕ) → List (TypingFault P)
  root_faults p o known root = option_map_or (λ t. if known then [] else set_faults m o.selections t) root (typing_fault_at p (UndefinedRootOperation o.operation_type) ∷ [])

  abbrev pub operation_faults : List (DefinitionTree P) → P → OperationTree P → Option (Text P) → List (TypingFault P)
  operation_faults before p o None = faults_if beside (typing_fault_at p AmbiguousAnonymousOperation) ++ root_faults p o (is_some (kept_anonymous m before)) (m.root o.operation_type)
  operation_faults before p o (Some n) =
      faults_if (has_name operation_name n.it (kept_named m before)) (typing_fault_at p (OperationNameCollision n.it))
      ++ root_faults p o (has_name operation_name n.it (kept_named m before)) (m.root o.operation_type)

  abbrev pub condition_faults : P → FragmentTree P → Bool → Bool → List (TypingFault P)
  condition_faults p f known there =
      if there then (if known then [] else set_faults m f.selections f.type_condition.it) else typing_fault_at p (UndefinedTypeInNamedFragmentTypeCondition f.type_condition.it) ∷ []

  abbrev pub fragment_faults : List (DefinitionTree P) → P → FragmentTree P → List (TypingFault P)
  fragment_faults before p f =
      faults_if (has_name fragment_name f.name.it (kept_fragments m before)) (typing_fault_at p (FragmentNameCollision f.name.it))
      ++ condition_faults p f (has_name fragment_name f.name.it (kept_fragments m before)) (m.has_type f.type_condition.it)

  abbrev pub faults_at : List (DefinitionTree P) → DefinitionTree P → List (TypingFault P)
  faults_at before (Operation p o) = operation_faults before p o o.name
  faults_at before (Fragment p f) = fragment_faults before p f
  faults_at before d = typing_fault_at (definition_place d) TypeSystemDefinition ∷ []

  -- what is kept and told of these
  abbrev pub state : List (DefinitionTree P) → Typed P
  state before = record { document = kept_document m before; faults = each_place faults_at before }

  state-of : (before : List (DefinitionTree P)) (d : DefinitionTree P) (st : Typed P)
      → st.document.anonymous ≡ option_map (meant_operation m) (kept_anonymous m (before ++ d ∷ []))
      → st.document.named ≡ map (named_entry m) (kept_named m (before ++ d ∷ []))
      → st.document.fragments ≡ map (fragment_entry m) (kept_fragments m (before ++ d ∷ []))
      → st.faults ≡ each_place faults_at before ++ faults_at before d
      → st ≡ state (before ++ d ∷ [])
  state-of before d st ea en ef eq = λ i. record {
    document = record { anonymous = ea i; named = en i; fragments = ef i };
    faults = (eq ∙ sym (each_place-push faults_at before d)) i;
  }

  -- lists that stay, as they are written of what is kept
  module _ (before : List (DefinitionTree P)) (d : DefinitionTree P) where
    same-anonymous : anonymous_here m d ≡ [] → option_map (meant_operation m) (kept_anonymous m before) ≡ option_map (meant_operation m) (kept_anonymous m (before ++ d ∷ []))
    same-anonymous e = ap (option_map (meant_operation m)) (sym (first-none (anonymous_here m) before d e))

    same-named : named_here m d ≡ [] → map (named_entry m) (kept_named m before) ≡ map (named_entry m) (kept_named m (before ++ d ∷ []))
    same-named e = ap (map (named_entry m)) (sym (kept-none (named_here m) operation_name before d e))

    same-fragments : fragment_here m d ≡ [] → map (fragment_entry m) (kept_fragments m before) ≡ map (fragment_entry m) (kept_fragments m (before ++ d ∷ []))
    same-fragments e = ap (map (fragment_entry m)) (sym (kept-none (fragment_here m) fragment_name before d e))

  -- ---- an operation without a name

  module _ (before : List (DefinitionTree P)) (p : P) (o : OperationTree P) (e : o.name ≡ None) where
    pub nameless-here : (r : Option (List ℕ)) → m.root o.operation_type ≡ r → anonymous_here m (Operation p o) ≡ option_to_list (option_map (λ t. based p t o) r)
    nameless-here r re = ap (λ n. if is_none n then based_operation m p o else []) e ∙ ap (λ s. option_to_list (option_map (λ t. based p t o) s)) re

    nameless-named : named_here m (Operation p o) ≡ []
    nameless-named = ap (λ n. if is_none n then [] else based_operation m p o) e

    nameless-told : (b : Bool) (r : Option (List ℕ)) → is_some (kept_anonymous m before) ≡ b → m.root o.operation_type ≡ r
        → faults_at before (Operation p o) ≡ faults_if beside (typing_fault_at p AmbiguousAnonymousOperation) ++ root_faults p o b r
    nameless-told b r k re =
        ap (operation_faults before p o) e
        ∙ (λ i. faults_if beside (typing_fault_at p AmbiguousAnonymousOperation) ++ root_faults p o (k i) (re i))

    nameless-on : (t : List ℕ) → m.root o.operation_type ≡ Some t → (b : Bool) → is_some (kept_anonymous m before) ≡ b
        → with_anonymous m p o t (told (faults_if beside (typing_fault_at p AmbiguousAnonymousOperation)) (state before)) ≡ state (before ++ Operation p o ∷ [])
    nameless-on t re true k =
        let told_so : Typed P = told (faults_if beside (typing_fault_at p AmbiguousAnonymousOperation)) (state before) in
        ap (λ c. if c then told_so else record { document = record told_so.document { anonymous = Some (meant_operation m (based p t o)) }; faults = told_so.faults ++ set_faults m o.selections t }) (is_some-made (meant_operation m) (kept_anonymous m before) ∙ k)
        ∙ state-of before (Operation p o) told_so
        (ap (option_map (meant_operation m)) (sym (first-seen (anonymous_here m) before (Operation p o) k)))
        (same-named before (Operation p o) nameless-named)
        (same-fragments before (Operation p o) refl)
        (ap (λ l. each_place faults_at before ++ l) (sym (append-nil (faults_if beside (typing_fault_at p AmbiguousAnonymousOperation))) ∙ sym (nameless-told true (Some t) k re)))
    nameless-on t re false k =
        let told_so : Typed P = told (faults_if beside (typing_fault_at p AmbiguousAnonymousOperation)) (state before) in
        let kept_so : Typed P = record { document = record told_so.document { anonymous = Some (meant_operation m (based p t o)) }; faults = told_so.faults ++ set_faults m o.selections t } in
        ap (λ c. if c then told_so else kept_so) (is_some-made (meant_operation m) (kept_anonymous m before) ∙ k)
        ∙ state-of before (Operation p o) kept_so
        (ap (option_map (meant_operation m)) (sym (first-new (anonymous_here m) before (Operation p o) (based p t o) (nameless-here (Some t) re) k)))
        (same-named before (Operation p o) nameless-named)
        (same-fragments before (Operation p o) refl)
        (append_assoc (each_place faults_at before) (faults_if beside (typing_fault_at p AmbiguousAnonymousOperation)) (set_faults m o.selections t)
        ∙ ap (λ l. each_place faults_at before ++ l) (sym (nameless-told false (Some t) k re)))

    nameless : (r : Option (List ℕ)) → m.root o.operation_type ≡ r
        → option_map_or (λ t. with_anonymous m p o t (told (faults_if beside (typing_fault_at p AmbiguousAnonymousOperation)) (state before))) r
        (told (typing_fault_at p (UndefinedRootOperation o.operation_type) ∷ []) (told (faults_if beside (typing_fault_at p AmbiguousAnonymousOperation)) (state before)))
        ≡ state (before ++ Operation p o ∷ [])
    nameless None re =
        state-of before (Operation p o) (told (typing_fault_at p (UndefinedRootOperation o.operation_type) ∷ []) (told (faults_if beside (typing_fault_at p AmbiguousAnonymousOperation)) (state before)))
        (same-anonymous before (Operation p o) (nameless-here None re))
        (same-named before (Operation p o) nameless-named)
        (same-fragments before (Operation p o) refl)
        (append_assoc (each_place faults_at before) (faults_if beside (typing_fault_at p AmbiguousAnonymousOperation)) (typing_fault_at p (UndefinedRootOperation o.operation_type) ∷ [])
        ∙ ap (λ l. each_place faults_at before ++ l) (sym (nameless-told (is_some (kept_anonymous m before)) None refl re)))
    nameless (Some t) re = nameless-on t re (is_some (kept_anonymous m before)) refl

  -- ---- an operation of a name

  module _ (before : List (DefinitionTree P)) (p : P) (o : OperationTree P) (n : Text P) (e : o.name ≡ Some n) where
    abbrev known : Bool
    known = has_name operation_name n.it (kept_named m before)

    abbrev collision : List (TypingFault P)
    collision = faults_if known (typing_fault_at p (OperationNameCollision n.it))

    pub called-here : (r : Option (List ℕ)) → m.root o.operation_type ≡ r → named_here m (Operation p o) ≡ option_to_list (option_map (λ t. based p t o) r)
    called-here r re = ap (λ x. if is_none x then [] else based_operation m p o) e ∙ ap (λ s. option_to_list (option_map (λ t. based p t o) s)) re

    called-anonymous : anonymous_here m (Operation p o) ≡ []
    called-anonymous = ap (λ x. if is_none x then based_operation m p o else []) e

    name-is : (t : List ℕ) → operation_name (based p t o) ≡ n.it
    name-is t = ap text_or_empty e

    called-told : (b : Bool) (r : Option (List ℕ)) → known ≡ b → m.root o.operation_type ≡ r → faults_at before (Operation p o) ≡ collision ++ root_faults p o b r
    called-told b r k re = ap (operation_faults before p o) e ∙ (λ i. collision ++ root_faults p o (k i) (re i))

    called-on : (t : List ℕ) → m.root o.operation_type ≡ Some t → (b : Bool) → known ≡ b
        → with_named m p o n.it t (told collision (state before)) ≡ state (before ++ Operation p o ∷ [])
    called-on t re true k =
        let told_so : Typed P = told collision (state before) in
        ap (λ c. if c then told_so else record { document = record told_so.document { named = told_so.document.named ++ (n.it, meant_operation m (based p t o)) ∷ [] }; faults = told_so.faults ++ set_faults m o.selections t }) (under-made operation_name (meant_operation m) n.it (kept_named m before) ∙ k)
        ∙ state-of before (Operation p o) told_so
        (same-anonymous before (Operation p o) called-anonymous)
        (ap (map (named_entry m)) (sym (kept-seen (named_here m) operation_name before (Operation p o) (based p t o) (called-here (Some t) re) (ap (λ x. has_name operation_name x (kept_named m before)) (name-is t) ∙ k))))
        (same-fragments before (Operation p o) refl)
        (ap (λ l. each_place faults_at before ++ l) (sym (append-nil collision) ∙ sym (called-told true (Some t) k re)))
    called-on t re false k =
        let told_so : Typed P = told collision (state before) in
        let kept_so : Typed P = record { document = record told_so.document { named = told_so.document.named ++ (n.it, meant_operation m (based p t o)) ∷ [] }; faults = told_so.faults ++ set_faults m o.selections t } in
        ap (λ c. if c then told_so else kept_so) (under-made operation_name (meant_operation m) n.it (kept_named m before) ∙ k)
        ∙ state-of before (Operation p o) kept_so
        (same-anonymous before (Operation p o) called-anonymous)
        (ap (λ (x : List ℕ). map (named_entry m) (kept_named m before) ++ (x, meant_operation m (based p t o)) ∷ []) (sym (name-is t))
        ∙ sym (map-append (named_entry m) (kept_named m before) (based p t o ∷ []))
        ∙ ap (map (named_entry m)) (sym (kept-new (named_here m) operation_name before (Operation p o) (based p t o) (called-here (Some t) re) (ap (λ x. has_name operation_name x (kept_named m before)) (name-is t) ∙ k))))
        (same-fragments before (Operation p o) refl)
        (append_assoc (each_place faults_at before) collision (set_faults m o.selections t)
        ∙ ap (λ l. each_place faults_at before ++ l) (sym (called-told false (Some t) k re)))

    -- what the name adds to, by whether the entries have it
    entries-known : faults_if (is_under n.it (state before).document.named) (typing_fault_at p (OperationNameCollision n.it)) ≡ collision
    entries-known = ap (λ b. faults_if b (typing_fault_at p (OperationNameCollision n.it))) (under-made operation_name (meant_operation m) n.it (kept_named m before))

    called-root : (r : Option (List ℕ)) → m.root o.operation_type ≡ r
        → option_map_or (λ t. with_named m p o n.it t (told collision (state before))) r
        (told (typing_fault_at p (UndefinedRootOperation o.operation_type) ∷ []) (told collision (state before)))
        ≡ state (before ++ Operation p o ∷ [])
    called-root None re =
        state-of before (Operation p o) (told (typing_fault_at p (UndefinedRootOperation o.operation_type) ∷ []) (told collision (state before)))
        (same-anonymous before (Operation p o) called-anonymous)
        (same-named before (Operation p o) (called-here None re))
        (same-fragments before (Operation p o) refl)
        (append_assoc (each_place faults_at before) collision (typing_fault_at p (UndefinedRootOperation o.operation_type) ∷ [])
        ∙ ap (λ l. each_place faults_at before ++ l) (sym (called-told known None refl re)))
    called-root (Some t) re = called-on t re known refl

    called : and_operation m beside p o (Some n) (state before) ≡ state (before ++ Operation p o ∷ [])
    called =
        ap (λ c. option_map_or (λ t. with_named m p o n.it t (told c (state before))) (m.root o.operation_type) (told (typing_fault_at p (UndefinedRootOperation o.operation_type) ∷ []) (told c (state before)))) entries-known
        ∙ called-root (m.root o.operation_type) refl

  operation-turn : (before : List (DefinitionTree P)) (p : P) (o : OperationTree P) (x : Option (Text P)) → o.name ≡ x → and_operation m beside p o x (state before) ≡ state (before ++ Operation p o ∷ [])
  operation-turn before p o None e = nameless before p o e (m.root o.operation_type) refl
  operation-turn before p o (Some n) e = called before p o n e

  -- ---- a fragment

  module _ (before : List (DefinitionTree P)) (p : P) (f : FragmentTree P) where
    abbrev known_fragment : Bool
    known_fragment = has_name fragment_name f.name.it (kept_fragments m before)

    abbrev fragment_collision : List (TypingFault P)
    fragment_collision = faults_if known_fragment (typing_fault_at p (FragmentNameCollision f.name.it))

    abbrev conditioned : Based P (FragmentTree P)
    conditioned = record { place = p; base = f.type_condition.it; it = f }

    pub fragment-here : (b : Bool) → m.has_type f.type_condition.it ≡ b → fragment_here m (Fragment p f) ≡ (if b then conditioned ∷ [] else [])
    fragment-here b there = ap (λ c. if c then conditioned ∷ [] else []) there

    fragment-told : (b c : Bool) → known_fragment ≡ b → m.has_type f.type_condition.it ≡ c → faults_at before (Fragment p f) ≡ fragment_collision ++ condition_faults p f b c
    fragment-told b c k there = λ i. fragment_collision ++ condition_faults p f (k i) (there i)

    fragment-on : m.has_type f.type_condition.it ≡ true → (b : Bool) → known_fragment ≡ b
        → with_fragment m p f (told fragment_collision (state before)) ≡ state (before ++ Fragment p f ∷ [])
    fragment-on there true k =
        let told_so : Typed P = told fragment_collision (state before) in
        ap (λ c. if c then told_so else record { document = record told_so.document { fragments = told_so.document.fragments ++ (f.name.it, meant_fragment m conditioned) ∷ [] }; faults = told_so.faults ++ set_faults m f.selections f.type_condition.it }) (under-made fragment_name (meant_fragment m) f.name.it (kept_fragments m before) ∙ k)
        ∙ state-of before (Fragment p f) told_so
        (same-anonymous before (Fragment p f) refl)
        (same-named before (Fragment p f) refl)
        (ap (map (fragment_entry m)) (sym (kept-seen (fragment_here m) fragment_name before (Fragment p f) conditioned (fragment-here true there) k)))
        (ap (λ l. each_place faults_at before ++ l) (sym (append-nil fragment_collision) ∙ sym (fragment-told true true k there)))
    fragment-on there false k =
        let told_so : Typed P = told fragment_collision (state before) in
        let kept_so : Typed P = record { document = record told_so.document { fragments = told_so.document.fragments ++ (f.name.it, meant_fragment m conditioned) ∷ [] }; faults = told_so.faults ++ set_faults m f.selections f.type_condition.it } in
        ap (λ c. if c then told_so else kept_so) (under-made fragment_name (meant_fragment m) f.name.it (kept_fragments m before) ∙ k)
        ∙ state-of before (Fragment p f) kept_so
        (same-anonymous before (Fragment p f) refl)
        (same-named before (Fragment p f) refl)
        (sym (map-append (fragment_entry m) (kept_fragments m before) (conditioned ∷ []))
        ∙ ap (map (fragment_entry m)) (sym (kept-new (fragment_here m) fragment_name before (Fragment p f) conditioned (fragment-here true there) k)))
        (append_assoc (each_place faults_at before) fragment_collision (set_faults m f.selections f.type_condition.it)
        ∙ ap (λ l. each_place faults_at before ++ l) (sym (fragment-told false true k there)))

    fragment-by : (b : Bool) → m.has_type f.type_condition.it ≡ b
        → (if b then with_fragment m p f (told fragment_collision (state before)) else told (typing_fault_at p (UndefinedTypeInNamedFragmentTypeCondition f.type_condition.it) ∷ []) (told fragment_collision (state before)))
        ≡ state (before ++ Fragment p f ∷ [])
    fragment-by true there = fragment-on there known_fragment refl
    fragment-by false there =
        state-of before (Fragment p f) (told (typing_fault_at p (UndefinedTypeInNamedFragmentTypeCondition f.type_condition.it) ∷ []) (told fragment_collision (state before)))
        (same-anonymous before (Fragment p f) refl)
        (same-named before (Fragment p f) refl)
        (same-fragments before (Fragment p f) (fragment-here false there))
        (append_assoc (each_place faults_at before) fragment_collision (typing_fault_at p (UndefinedTypeInNamedFragmentTypeCondition f.type_condition.it) ∷ [])
        ∙ ap (λ l. each_place faults_at before ++ l) (sym (fragment-told known_fragment false refl there)))

    fragment-known : faults_if (is_under f.name.it (state before).document.fragments) (typing_fault_at p (FragmentNameCollision f.name.it)) ≡ fragment_collision
    fragment-known = ap (λ b. faults_if b (typing_fault_at p (FragmentNameCollision f.name.it))) (under-made fragment_name (meant_fragment m) f.name.it (kept_fragments m before))

    fragment-turn : and_fragment m p f (state before) ≡ state (before ++ Fragment p f ∷ [])
    fragment-turn =
        ap (λ c. if m.has_type f.type_condition.it then with_fragment m p f (told c (state before)) else told (typing_fault_at p (UndefinedTypeInNamedFragmentTypeCondition f.type_condition.it) ∷ []) (told c (state before))) fragment-known
        ∙ fragment-by (m.has_type f.type_condition.it) refl

  -- ---- any definition, and all

  turn : (before : List (DefinitionTree P)) (d : DefinitionTree P) → and_definition m beside (state before) d ≡ state (before ++ d ∷ [])
  turn before (Operation p o) = operation-turn before p o o.name refl
  turn before (Fragment p f) = fragment-turn before p f
  turn before d =
      state-of before d (told (typing_fault_at (definition_place d) TypeSystemDefinition ∷ []) (state before))
      (same-anonymous before d refl) (same-named before d refl) (same-fragments before d refl) refl

  run : (before ds : List (DefinitionTree P)) → fold (and_definition m beside) (state before) ds ≡ state (before ++ ds)
  run before [] = ap state (sym (append-nil before))
  run before (d ∷ ds) = ap (λ s. fold (and_definition m beside) s ds) (turn before d) ∙ run (before ++ d ∷ []) ds ∙ ap state (append_assoc before (d ∷ []) ds)

-- what is kept and told of a document
pub typed-is : {P : Type 0} (m : Meanings) (ds : List (DefinitionTree P)) → typed_in m ds ≡ state m (nat_lt 1 (length (filter is_operation ds))) ds
typed-is m ds = run m (nat_lt 1 (length (filter is_operation ds))) [] ds
