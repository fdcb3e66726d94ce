-- What is told of a document are exactly the ways in which a rule of typing is broken in it.
use Rattle.std.proofs.Common.{◌≡◌, ℕ, Bool, true, false, ◌↔◌, ◌⊎◌, inl, inr, List, [], ◌∷◌, ◌++◌, flat_map, Option, None, Some, refl, sym, ap, subst, ◌∙◌, if◌then◌else◌, is_some, option_to_list, Contains, true≢false, length, lt-ltb, ltb-true}
use Rattle.std.specs.Prelude.{nat_lt, slice_get}
use Rattle.std.specs.List.{filter}
use Rattle.std.specs.Option.{option_map}
use Rattle.std.proofs.lemmas.List.{append-nil}
use Rattle.std.proofs.lemmas.List.Elements.{Contains-append_left, Contains-append_right, Contains-append_cases}
use Rattle.graphql_names.specs.Placed.{Text}
use Rattle.tree_operations.specs.OperationLayout.{is_none}
use Rattle.tree_operations.specs.OperationTree.{OperationTree, FragmentTree}
use Rattle.tree_definitions.specs.DefinitionTree.{DefinitionTree, Operation, Fragment}
use Rattle.tree_definitions.specs.Queries.{definition_place}
use Rattle.schema_types.specs.in_components.Lists.{each_place, StandsAfter, AtSomePlace, firsts, has_name}
use Rattle.schema_types.proofs.in_components.Places.{not_in_nil, only, is_only, found_at, given_at}
use Rattle.document_typing.specs.Meanings.{Meanings}
use Rattle.document_typing.specs.KeptDocument.{Based, based_operation, anonymous_here, named_here, fragment_here, text_or_empty, operation_name, fragment_name, kept_anonymous, kept_named, kept_operations, kept_fragments, is_operation}
use Rattle.document_typing.specs.TypingFaults as rule
use Rattle.document_typing.specs.TypingFaults.{TypingFault, typing_fault_at, TypeSystemDefinition, AmbiguousAnonymousOperation, OperationNameCollision, FragmentNameCollision, UndefinedRootOperation, UndefinedTypeInNamedFragmentTypeCondition, SetFails, DefinitionBreaks, TypingFails}
use Rattle.document_typing.specs.SetFaults.{set_faults}
use Rattle.document_typing.specs.TypedDefinitions.{Typed, faults_if, based, typed_in}
use Rattle.document_typing.proofs.KeptFirsts.{is-each_place, kept-none, kept-seen, kept-new, first-none, first-seen, first-new}
use Rattle.document_typing.proofs.KnownNames.{none-of}
use Rattle.document_typing.proofs.SetFailures.{set-fails, if-told, told-if}
use Rattle.document_typing.proofs.Turns.{nameless-here, called-here, fragment-here, root_faults, operation_faults, condition_faults, fragment_faults, faults_at, typed-is}

-- a list of one element at most
abbrev pub AtMostOne : {B : Type 0} → List B → Type 0
AtMostOne {B} bs = (bs ≡ []) ⊎ ((b : B) × (bs ≡ b ∷ []))

optional : {A B : Type 0} (f : A → B) (o : Option A) → AtMostOne (option_to_list (option_map f o))
optional f None = inl refl
optional f (Some a) = inr (f a, refl)

-- what a list keeps, given place by place
module _ {D B : Type 0} (here : D → List B) (name : B → List ℕ) (one : (d : D) → AtMostOne (here d)) where
  abbrev kept : List D → List B
  kept ds = firsts name (flat_map here ds)

  abbrev pub fresh : List D → List B → List B
  fresh before [] = []
  fresh before (b ∷ bs) = if has_name name (name b) (kept before) then [] else b ∷ []

  kept-more : (ds : List D) (d : D) → kept (ds ++ d ∷ []) ≡ kept ds ++ fresh ds (here d)
  kept-more ds d = by (one d)
    where
      by_name : (b : B) → here d ≡ b ∷ [] → (c : Bool) → has_name name (name b) (kept ds) ≡ c → kept (ds ++ d ∷ []) ≡ kept ds ++ fresh ds (here d)
      by_name b e true k = kept-seen here name ds d b e k ∙ sym (append-nil (kept ds)) ∙ sym (ap (λ l. kept ds ++ fresh ds l) e ∙ ap (λ c. kept ds ++ (if c then [] else b ∷ [])) k)
      by_name b e false k = kept-new here name ds d b e k ∙ sym (ap (λ l. kept ds ++ fresh ds l) e ∙ ap (λ c. kept ds ++ (if c then [] else b ∷ [])) k)

      by : (here d ≡ []) ⊎ ((b : B) × (here d ≡ b ∷ [])) → kept (ds ++ d ∷ []) ≡ kept ds ++ fresh ds (here d)
      by (inl e) = kept-none here name ds d e ∙ sym (append-nil (kept ds)) ∙ sym (ap (λ l. kept ds ++ fresh ds l) e)
      by (inr (b, e)) = by_name b e (has_name name (name b) (kept ds)) refl

  pub kept-places : (ds : List D) → kept ds ≡ each_place (λ before d. fresh before (here d)) ds
  kept-places ds = is-each_place (λ before d. fresh before (here d)) kept refl kept-more ds

  -- what is kept comes from some definition, and nothing kept before that has its name
  pub kept-found : (ds : List D) (b : B) → Contains (kept ds) b → AtSomePlace (λ before d. (here d ≡ b ∷ []) × (has_name name (name b) (kept before) ≡ false)) ds
  kept-found ds b c = let x = found_at (λ before d. fresh before (here d)) ds b (subst (λ l. Contains l b) (kept-places ds) c) in (x.0, (x.1.0, (x.1.1.0, by x.0 x.1.0 (one x.1.0) x.1.1.1)))
    where
      by_name : (before : List D) (d : D) (x : B) → here d ≡ x ∷ [] → (k : Bool) → has_name name (name x) (kept before) ≡ k → Contains (if k then [] else x ∷ []) b
          → (here d ≡ b ∷ []) × (has_name name (name b) (kept before) ≡ false)
      by_name before d x e true k c = absurd (not_in_nil b c)
      by_name before d x e false k c = let same = only x b c in (e ∙ ap (λ y. y ∷ []) (sym same), ap (λ y. has_name name (name y) (kept before)) same ∙ k)

      by : (before : List D) (d : D) → (here d ≡ []) ⊎ ((x : B) × (here d ≡ x ∷ [])) → Contains (fresh before (here d)) b → (here d ≡ b ∷ []) × (has_name name (name b) (kept before) ≡ false)
      by before d (inl e) c = absurd (not_in_nil b (subst (λ l. Contains (fresh before l) b) e c))
      by before d (inr (x, e)) c = by_name before d x e (has_name name (name x) (kept before)) refl (subst (λ l. Contains (fresh before l) b) e c)

  pub kept-given : (ds before : List D) (d : D) (b : B) → StandsAfter ds before d → here d ≡ b ∷ [] → has_name name (name b) (kept before) ≡ false → Contains (kept ds) b
  kept-given ds before d b at e k =
      subst (λ l. Contains l b) (sym (kept-places ds))
      (given_at (λ before d. fresh before (here d)) ds b (
        before,
        (
          d,
          (
            at,
            subst (λ l. Contains (fresh before l) b) (sym e) (subst (λ c. Contains (if c then [] else b ∷ []) b) (sym k) (is_only b b refl)),
          ),
        ),
      ))

-- the first of all, in the same way
module _ {D B : Type 0} (here : D → List B) (one : (d : D) → AtMostOne (here d)) where
  abbrev first : List D → Option B
  first ds = slice_get (flat_map here ds) 0

  first-more : (ds : List D) (d : D) → option_to_list (first (ds ++ d ∷ [])) ≡ option_to_list (first ds) ++ (if is_some (first ds) then [] else here d)
  first-more ds d = by (is_some (first ds)) refl
    where
      nothing-yet : is_some (first ds) ≡ false → first ds ≡ None
      nothing-yet k = none-of (first ds) k

      by_one : is_some (first ds) ≡ false → (here d ≡ []) ⊎ ((b : B) × (here d ≡ b ∷ [])) → option_to_list (first (ds ++ d ∷ [])) ≡ option_to_list (first ds) ++ here d
      by_one k (inl e) = ap option_to_list (first-none here ds d e) ∙ sym (append-nil (option_to_list (first ds))) ∙ ap (λ l. option_to_list (first ds) ++ l) (sym e)
      by_one k (inr (b, e)) = ap option_to_list (first-new here ds d b e k) ∙ sym e ∙ ap (λ o. option_to_list o ++ here d) (sym (nothing-yet k))

      by : (c : Bool) → is_some (first ds) ≡ c → option_to_list (first (ds ++ d ∷ [])) ≡ option_to_list (first ds) ++ (if is_some (first ds) then [] else here d)
      by true k = ap option_to_list (first-seen here ds d k) ∙ sym (append-nil (option_to_list (first ds))) ∙ ap (λ c. option_to_list (first ds) ++ (if c then [] else here d)) (sym k)
      by false k = by_one k (one d) ∙ ap (λ c. option_to_list (first ds) ++ (if c then [] else here d)) (sym k)

  pub first-places : (ds : List D) → option_to_list (first ds) ≡ each_place (λ before d. if is_some (first before) then [] else here d) ds
  first-places ds = is-each_place (λ before d. if is_some (first before) then [] else here d) (λ xs. option_to_list (first xs)) refl first-more ds

  pub first-found : (ds : List D) (b : B) → Contains (option_to_list (first ds)) b → AtSomePlace (λ before d. Contains (here d) b × (is_some (first before) ≡ false)) ds
  first-found ds b c = let x = found_at (λ before d. if is_some (first before) then [] else here d) ds b (subst (λ l. Contains l b) (first-places ds) c) in (x.0, (x.1.0, (x.1.1.0, by x.0 x.1.0 (is_some (first x.0)) refl x.1.1.1)))
    where
      by : (before : List D) (d : D) (k : Bool) → is_some (first before) ≡ k → Contains (if k then [] else here d) b → Contains (here d) b × (is_some (first before) ≡ false)
      by before d true k c = absurd (not_in_nil b c)
      by before d false k c = (c, k)

  pub first-given : (ds before : List D) (d : D) (b : B) → StandsAfter ds before d → Contains (here d) b → is_some (first before) ≡ false → Contains (option_to_list (first ds)) b
  first-given ds before d b at c k =
      subst (λ l. Contains l b) (sym (first-places ds))
      (given_at (λ before d. if is_some (first before) then [] else here d) ds b (before, (d, (at, subst (λ c. Contains (if c then [] else here d) b) (sym k) c))))

if-one : {B : Type 0} (b : Bool) (xs ys : List B) → AtMostOne xs → AtMostOne ys → AtMostOne (if b then xs else ys)
if-one true xs ys p q = p
if-one false xs ys p q = q

none : {B : Type 0} → AtMostOne {B = B} []
none = inl refl

single : {B : Type 0} (b : B) → AtMostOne (b ∷ [])
single b = inr (b, refl)

module _ {P : Type 0} (m : Meanings) where
  pub one-anonymous : (d : DefinitionTree P) → AtMostOne (anonymous_here m d)
  one-anonymous (Operation p o) = if-one (is_none o.name) (based_operation m p o) [] (optional (λ t. based p t o) (m.root o.operation_type)) none
  one-anonymous d = none

  pub one-named : (d : DefinitionTree P) → AtMostOne (named_here m d)
  one-named (Operation p o) = if-one (is_none o.name) [] (based_operation m p o) none (optional (λ t. based p t o) (m.root o.operation_type))
  one-named d = none

  pub one-fragment : (d : DefinitionTree P) → AtMostOne (fragment_here m d)
  one-fragment (Fragment p f) = if-one (m.has_type f.type_condition.it) (record { place = p; base = f.type_condition.it; it = f } ∷ []) [] (single (record { place = p; base = f.type_condition.it; it = f })) none
  one-fragment d = none

module _ {P : Type 0} (m : Meanings) (ds : List (DefinitionTree P)) (f : TypingFault P) where
  abbrev beside : Bool
  beside = nat_lt 1 (length (filter is_operation ds))

  -- ---- what is told breaks a rule

  at-root : (before : List (DefinitionTree P)) (p : P) (o : OperationTree P) → StandsAfter ds before (Operation p o) → (known : Bool) (r : Option (List ℕ)) → m.root o.operation_type ≡ r
      → ((t : List ℕ) → r ≡ Some t → known ≡ false → Contains (kept_operations m ds) (based p t o)) → Contains (root_faults m beside p o known r) f → TypingFails m ds f
  at-root before p o at known None re keeps c = rule.in_definition (before, (Operation p o, (at, rule.undefined_root_operation (re, only (typing_fault_at p (UndefinedRootOperation o.operation_type)) f c))))
  at-root before p o at true (Some t) re keeps c = absurd (not_in_nil f c)
  at-root before p o at false (Some t) re keeps c = rule.in_operation (based p t o) (keeps t refl refl) ((set-fails m o.selections t f).0 c)

  from-operation : (before : List (DefinitionTree P)) (p : P) (o : OperationTree P) → StandsAfter ds before (Operation p o) → (x : Option (Text P)) → o.name ≡ x → Contains (operation_faults m beside before p o x) f → TypingFails m ds f
  from-operation before p o at None e c = elim (Contains-append_cases (faults_if beside (typing_fault_at p AmbiguousAnonymousOperation)) (root_faults m beside p o (is_some (kept_anonymous m before)) (m.root o.operation_type)) f c) [
    | inl a ↦ let y = if-told beside (typing_fault_at p AmbiguousAnonymousOperation) f a in
        rule.in_definition (before, (Operation p o, (at, rule.ambiguous_anonymous_operation (e, ltb-true 1 (length (filter is_operation ds)) y.0, y.1))))
    | inr b ↦ at-root before p o at (is_some (kept_anonymous m before)) (m.root o.operation_type) refl
        (λ t re k. Contains-append_left (option_to_list (kept_anonymous m ds)) (kept_named m ds) (based p t o)
        (first-given (anonymous_here m) (one-anonymous m) ds before (Operation p o) (based p t o) at
        (subst (λ l. Contains l (based p t o)) (sym (nameless-here m beside before p o e (Some t) re)) (is_only (based p t o) (based p t o) refl)) k)) b
  ]
  from-operation before p o at (Some n) e c =
      let known : Bool = has_name operation_name n.it (kept_named m before) in
      elim (Contains-append_cases (faults_if known (typing_fault_at p (OperationNameCollision n.it))) (root_faults m beside p o known (m.root o.operation_type)) f c) [
        | inl a ↦ let y = if-told known (typing_fault_at p (OperationNameCollision n.it)) f a in
            rule.in_definition (before, (Operation p o, (at, rule.operation_name_collision (n, (e, y.0, y.1)))))
        | inr b ↦ at-root before p o at known (m.root o.operation_type) refl
            (λ t re k. Contains-append_right (option_to_list (kept_anonymous m ds)) (kept_named m ds) (based p t o)
            (kept-given (named_here m) operation_name (one-named m) ds before (Operation p o) (based p t o) at
            (called-here m beside before p o n e (Some t) re) (ap (λ x. has_name operation_name x (kept_named m before)) (ap text_or_empty e) ∙ k))) b
      ]

  from-condition : (before : List (DefinitionTree P)) (p : P) (g : FragmentTree P) → StandsAfter ds before (Fragment p g) → (known there : Bool) → has_name fragment_name g.name.it (kept_fragments m before) ≡ known → m.has_type g.type_condition.it ≡ there
      → Contains (condition_faults m beside p g known there) f → TypingFails m ds f
  from-condition before p g at known false k e c = rule.in_definition (before, (Fragment p g, (at, rule.undefined_type_in_named_fragment_type_condition (e, only (typing_fault_at p (UndefinedTypeInNamedFragmentTypeCondition g.type_condition.it)) f c))))
  from-condition before p g at true true k e c = absurd (not_in_nil f c)
  from-condition before p g at false true k e c =
      rule.in_named_fragment (record { place = p; base = g.type_condition.it; it = g })
      (kept-given (fragment_here m) fragment_name (one-fragment m) ds before (Fragment p g) (record { place = p; base = g.type_condition.it; it = g }) at (fragment-here m beside before p g true e) k)
      ((set-fails m g.selections g.type_condition.it f).0 c)

  from-fragment : (before : List (DefinitionTree P)) (p : P) (g : FragmentTree P) → StandsAfter ds before (Fragment p g) → Contains (fragment_faults m beside before p g) f → TypingFails m ds f
  from-fragment before p g at c =
      let known : Bool = has_name fragment_name g.name.it (kept_fragments m before) in
      elim (Contains-append_cases (faults_if known (typing_fault_at p (FragmentNameCollision g.name.it))) (condition_faults m beside p g known (m.has_type g.type_condition.it)) f c) [
        | inl a ↦ let y = if-told known (typing_fault_at p (FragmentNameCollision g.name.it)) f a in
            rule.in_definition (before, (Fragment p g, (at, rule.fragment_name_collision (y.0, y.1))))
        | inr b ↦ from-condition before p g at known (m.has_type g.type_condition.it) refl refl b
      ]

  from-definition : (before : List (DefinitionTree P)) (d : DefinitionTree P) → StandsAfter ds before d → Contains (faults_at m beside before d) f → TypingFails m ds f
  from-definition before (Operation p o) at c = from-operation before p o at o.name refl c
  from-definition before (Fragment p g) at c = from-fragment before p g at c
  from-definition before d at c = rule.in_definition (before, (d, (at, rule.type_system_definition (refl, only (typing_fault_at (definition_place d) TypeSystemDefinition) f c))))

  broken : Contains (each_place (faults_at m beside) ds) f → TypingFails m ds f
  broken c = let x = found_at (faults_at m beside) ds f c in from-definition x.0 x.1.0 x.1.1.0 x.1.1.1

  -- ---- what breaks a rule is told

  root-told : (before : List (DefinitionTree P)) (p : P) (o : OperationTree P) (x : Option (Text P)) → m.root o.operation_type ≡ None → f ≡ typing_fault_at p (UndefinedRootOperation o.operation_type) → Contains (operation_faults m beside before p o x) f
  root-told before p o None re e =
      Contains-append_right (faults_if beside (typing_fault_at p AmbiguousAnonymousOperation)) (root_faults m beside p o (is_some (kept_anonymous m before)) (m.root o.operation_type)) f
      (subst (λ r. Contains (root_faults m beside p o (is_some (kept_anonymous m before)) r) f) (sym re) (is_only (typing_fault_at p (UndefinedRootOperation o.operation_type)) f e))
  root-told before p o (Some n) re e =
      let known : Bool = has_name operation_name n.it (kept_named m before) in
      Contains-append_right (faults_if known (typing_fault_at p (OperationNameCollision n.it))) (root_faults m beside p o known (m.root o.operation_type)) f
      (subst (λ r. Contains (root_faults m beside p o known r) f) (sym re) (is_only (typing_fault_at p (UndefinedRootOperation o.operation_type)) f e))

  definition-told : (before : List (DefinitionTree P)) (d : DefinitionTree P) → DefinitionBreaks m ds before d f → Contains (faults_at m beside before d) f
  definition-told before (Operation p o) (rule.type_system_definition x) = absurd (true≢false x.0)
  definition-told before (Operation p o) (rule.ambiguous_anonymous_operation x) =
      subst (λ n. Contains (operation_faults m beside before p o n) f) (sym x.0)
      (Contains-append_left (faults_if beside (typing_fault_at p AmbiguousAnonymousOperation)) (root_faults m beside p o (is_some (kept_anonymous m before)) (m.root o.operation_type)) f (told-if beside (typing_fault_at p AmbiguousAnonymousOperation) f (lt-ltb 1 (length (filter is_operation ds)) x.1) x.2))
  definition-told before (Operation p o) (rule.operation_name_collision (n, x)) =
      let known : Bool = has_name operation_name n.it (kept_named m before) in
      subst (λ n. Contains (operation_faults m beside before p o n) f) (sym x.0)
      (Contains-append_left (faults_if known (typing_fault_at p (OperationNameCollision n.it))) (root_faults m beside p o known (m.root o.operation_type)) f (told-if known (typing_fault_at p (OperationNameCollision n.it)) f x.1 x.2))
  definition-told before (Operation p o) (rule.fragment_name_collision x) = absurd x
  definition-told before (Operation p o) (rule.undefined_root_operation x) = root-told before p o o.name x.0 x.1
  definition-told before (Operation p o) (rule.undefined_type_in_named_fragment_type_condition x) = absurd x
  definition-told before (Fragment p g) (rule.type_system_definition x) = absurd (true≢false x.0)
  definition-told before (Fragment p g) (rule.ambiguous_anonymous_operation x) = absurd x
  definition-told before (Fragment p g) (rule.operation_name_collision x) = absurd x
  definition-told before (Fragment p g) (rule.fragment_name_collision x) =
      let known : Bool = has_name fragment_name g.name.it (kept_fragments m before) in
      Contains-append_left (faults_if known (typing_fault_at p (FragmentNameCollision g.name.it))) (condition_faults m beside p g known (m.has_type g.type_condition.it)) f (told-if known (typing_fault_at p (FragmentNameCollision g.name.it)) f x.0 x.1)
  definition-told before (Fragment p g) (rule.undefined_root_operation x) = absurd x
  definition-told before (Fragment p g) (rule.undefined_type_in_named_fragment_type_condition x) =
      let known : Bool = has_name fragment_name g.name.it (kept_fragments m before) in
      Contains-append_right (faults_if known (typing_fault_at p (FragmentNameCollision g.name.it))) (condition_faults m beside p g known (m.has_type g.type_condition.it)) f
      (subst (λ b. Contains (condition_faults m beside p g known b) f) (sym x.0) (is_only (typing_fault_at p (UndefinedTypeInNamedFragmentTypeCondition g.type_condition.it)) f x.1))
  definition-told before d (rule.type_system_definition x) = is_only (typing_fault_at (definition_place d) TypeSystemDefinition) f x.1
  definition-told before d (rule.ambiguous_anonymous_operation x) = absurd x
  definition-told before d (rule.operation_name_collision x) = absurd x
  definition-told before d (rule.fragment_name_collision x) = absurd x
  definition-told before d (rule.undefined_root_operation x) = absurd x
  definition-told before d (rule.undefined_type_in_named_fragment_type_condition x) = absurd x

  -- the faults of a kept set are told at its definition
  module _ (before : List (DefinitionTree P)) where
    nameless-set : (p : P) (o : OperationTree P) (x : Option (Text P)) → o.name ≡ x → (b : Based P (OperationTree P)) → is_some (kept_anonymous m before) ≡ false
        → Contains (if is_none x then based_operation m p o else []) b → Contains (set_faults m b.it.selections b.base) f → Contains (operation_faults m beside before p o x) f
    nameless-set p o (Some n) e b k c s = absurd (not_in_nil b c)
    nameless-set p o None e b k c s = by (m.root o.operation_type) refl c
      where
        by : (r : Option (List ℕ)) → m.root o.operation_type ≡ r → Contains (option_to_list (option_map (λ t. based p t o) r)) b → Contains (operation_faults m beside before p o None) f
        by None re c = absurd (not_in_nil b c)
        by (Some t) re c =
            Contains-append_right (faults_if beside (typing_fault_at p AmbiguousAnonymousOperation)) (root_faults m beside p o (is_some (kept_anonymous m before)) (m.root o.operation_type)) f
            (subst (λ r. Contains (root_faults m beside p o (is_some (kept_anonymous m before)) r) f) (sym re)
            (subst (λ q. Contains (if q then [] else set_faults m o.selections t) f) (sym k)
            (subst (λ y. Contains (set_faults m y.it.selections y.base) f) (only (based p t o) b c) s)))

    called-set : (p : P) (o : OperationTree P) (x : Option (Text P)) → o.name ≡ x → (b : Based P (OperationTree P)) → has_name operation_name (operation_name b) (kept_named m before) ≡ false
        → Contains (if is_none x then [] else based_operation m p o) b → Contains (set_faults m b.it.selections b.base) f → Contains (operation_faults m beside before p o x) f
    called-set p o None e b k c s = absurd (not_in_nil b c)
    called-set p o (Some n) e b k c s = by (m.root o.operation_type) refl c
      where
        by : (r : Option (List ℕ)) → m.root o.operation_type ≡ r → Contains (option_to_list (option_map (λ t. based p t o) r)) b → Contains (operation_faults m beside before p o (Some n)) f
        by None re c = absurd (not_in_nil b c)
        by (Some t) re c =
            let same : b ≡ based p t o = only (based p t o) b c in
            let new : has_name operation_name n.it (kept_named m before) ≡ false = ap (λ x. has_name operation_name x (kept_named m before)) (sym (ap text_or_empty e) ∙ sym (ap operation_name same)) ∙ k in
            Contains-append_right (faults_if (has_name operation_name n.it (kept_named m before)) (typing_fault_at p (OperationNameCollision n.it))) (root_faults m beside p o (has_name operation_name n.it (kept_named m before)) (m.root o.operation_type)) f
            (subst (λ r. Contains (root_faults m beside p o (has_name operation_name n.it (kept_named m before)) r) f) (sym re)
            (subst (λ q. Contains (if q then [] else set_faults m o.selections t) f) (sym new)
            (subst (λ y. Contains (set_faults m y.it.selections y.base) f) same s)))

    at-anonymous : (d : DefinitionTree P) (b : Based P (OperationTree P)) → Contains (anonymous_here m d) b → is_some (kept_anonymous m before) ≡ false → Contains (set_faults m b.it.selections b.base) f → Contains (faults_at m beside before d) f
    at-anonymous (Operation p o) b c k s = nameless-set p o o.name refl b k c s
    at-anonymous d b c k s = absurd (not_in_nil b c)

    at-named : (d : DefinitionTree P) (b : Based P (OperationTree P)) → Contains (named_here m d) b → has_name operation_name (operation_name b) (kept_named m before) ≡ false → Contains (set_faults m b.it.selections b.base) f → Contains (faults_at m beside before d) f
    at-named (Operation p o) b c k s = called-set p o o.name refl b k c s
    at-named d b c k s = absurd (not_in_nil b c)

    at-fragment : (d : DefinitionTree P) (b : Based P (FragmentTree P)) → Contains (fragment_here m d) b → has_name fragment_name (fragment_name b) (kept_fragments m before) ≡ false → Contains (set_faults m b.it.selections b.base) f → Contains (faults_at m beside before d) f
    at-fragment (Fragment p g) b c k s =
        let x = if-told (m.has_type g.type_condition.it) (record { place = p; base = g.type_condition.it; it = g }) b c in
        let new : has_name fragment_name g.name.it (kept_fragments m before) ≡ false = ap (λ y. has_name fragment_name y (kept_fragments m before)) (sym (ap fragment_name x.1)) ∙ k in
        Contains-append_right (faults_if (has_name fragment_name g.name.it (kept_fragments m before)) (typing_fault_at p (FragmentNameCollision g.name.it))) (condition_faults m beside p g (has_name fragment_name g.name.it (kept_fragments m before)) (m.has_type g.type_condition.it)) f
        (subst (λ q. Contains (condition_faults m beside p g (has_name fragment_name g.name.it (kept_fragments m before)) q) f) (sym x.0)
        (subst (λ q. Contains (if q then [] else set_faults m g.selections g.type_condition.it) f) (sym new)
        (subst (λ y. Contains (set_faults m y.it.selections y.base) f) x.1 s)))
    at-fragment d b c k s = absurd (not_in_nil b c)

  operation-told : (o : Based P (OperationTree P)) → Contains (kept_operations m ds) o → Contains (set_faults m o.it.selections o.base) f → Contains (each_place (faults_at m beside) ds) f
  operation-told o c s = elim (Contains-append_cases (option_to_list (kept_anonymous m ds)) (kept_named m ds) o c) [
    | inl a ↦ let x = first-found (anonymous_here m) (one-anonymous m) ds o a in
        given_at (faults_at m beside) ds f (x.0, (x.1.0, (x.1.1.0, at-anonymous x.0 x.1.0 o x.1.1.1.0 x.1.1.1.1 s)))
    | inr b ↦ let x = kept-found (named_here m) operation_name (one-named m) ds o b in
        given_at (faults_at m beside) ds f (x.0, (x.1.0, (x.1.1.0, at-named x.0 x.1.0 o (subst (λ l. Contains l o) (sym x.1.1.1.0) (is_only o o refl)) x.1.1.1.1 s)))
  ]

  told-so : TypingFails m ds f → Contains (each_place (faults_at m beside) ds) f
  told-so (rule.in_definition (b, (d, (at, x)))) = given_at (faults_at m beside) ds f (b, (d, (at, definition-told b d x)))
  told-so (rule.in_operation o c x) = operation-told o c ((set-fails m o.it.selections o.base f).1 x)
  told-so (rule.in_named_fragment g c x) =
      let y = kept-found (fragment_here m) fragment_name (one-fragment m) ds g c in
      given_at (faults_at m beside) ds f (y.0, (y.1.0, (y.1.1.0, at-fragment y.0 y.1.0 g (subst (λ l. Contains l g) (sym y.1.1.1.0) (is_only g g refl)) y.1.1.1.1 ((set-fails m g.it.selections g.base f).1 x))))

  -- what is told are the ways in which a rule is broken
  pub document-fails : Contains (typed_in m ds).faults f ↔ TypingFails m ds f
  document-fails = let is = ap (λ (t : Typed P). t.faults) (typed-is m ds) in
      (λ c. broken (subst (λ l. Contains l f) is c), λ x. subst (λ l. Contains l f) (sym is) (told-so x))
