-- A list with all faults of typing is full.
use Rattle.std.proofs.Common.{◌≡◌, ℕ, ◌<◌, Bool, true, false, not, ◌&&◌, ◌||◌, List, [], ◌∷◌, ◌++◌, Option, None, Some, refl, sym, ap, subst, if◌then◌else◌, is_some, Contains, true≢false, length, arith, flat_map}
use Rattle.std.specs.Prelude.{slice_get}
use Rattle.std.specs.List.{filter}
use Rattle.std.specs.Option.{option_map_or}
use Rattle.graphql_names.specs.Placed.{Text}
use Rattle.tree_operations.specs.OperationLayout.{is_none}
use Rattle.tree_operations.specs.OperationTree.{OperationTree}
use Rattle.tree_operations.specs.OperationWritable.{has_selection}
use Rattle.tree_operations.specs.SelectionTree.{FieldHead, SelectionTree, FieldTree, SpreadTree, InlineTree, SelectionTrees}
use Rattle.tree_definitions.specs.DefinitionTree.{DefinitionTree, Operation, Fragment}
use Rattle.tree_definitions.specs.Queries.{definition_place}
use Rattle.schema_types.specs.in_components.Lists.{StandsAfter, has_name}
use Rattle.document_typing.specs.MeantTree.{Definition, MeantField, MeantInline, set_on}
use Rattle.document_typing.specs.Meanings.{Meanings, inner_type}
use Rattle.document_typing.specs.KeptSelections.{is_leaf, may_select, kept, kept_all}
use Rattle.document_typing.specs.KeptDocument.{anonymous_here, text_or_empty, operation_name, fragment_name, kept_anonymous, kept_named, kept_fragments, is_operation}
use Rattle.document_typing.specs.TypingFaults as rule
use Rattle.document_typing.specs.TypingFaults.{TypingFault, typing_fault_at, TypeSystemDefinition, AmbiguousAnonymousOperation, OperationNameCollision, FragmentNameCollision, UndefinedRootOperation, UndefinedTypeInNamedFragmentTypeCondition, UndefinedField, SubselectionOnScalarType, SubselectionOnEnumType, UndefinedTypeInInlineFragmentTypeCondition, SelectionBreaks, SetFails, DefinitionBreaks, TypingFails}
use Rattle.document_typing.specs.FullList.{is_kept, TellsSet, TellsAll}
use Rattle.document_typing.proofs.SetFailures.{both-so}

has-one : {X : Type 0} → List X → Bool
has-one [] = false
has-one (x ∷ xs) = true

not-nil : {X : Type 0} (x : X) (xs : List X) → x ∷ xs ≡ [] → ⊥
unfolding has-one
not-nil x xs e = true≢false (ap has-one e)

not-so : (b : Bool) → not b ≡ false → b ≡ true
not-so true h = refl
not-so false h = absurd (true≢false h)

module _ {P : Type 0} (m : Meanings) where
  leaf-out : (p : P) (h : FieldHead P) (ts : SelectionTrees P) (u : List ℕ) (d : Definition) → m.field u h.name.it ≡ Some d → has_selection ts ≡ true
      → (b : Bool) → m.is_scalar (inner_type d) ≡ b → (b || m.is_enum (inner_type d)) ≡ true → (f : TypingFault P) × SelectionBreaks m u (FieldTree p h ts) f
  leaf-out p h ts u d e has true so leaf = (typing_fault_at p (SubselectionOnScalarType (inner_type d)), rule.subselection_on_scalar_type (d, (e, so, has, refl)))
  leaf-out p h ts u d e has false so leaf = (typing_fault_at p (SubselectionOnEnumType (inner_type d)), rule.subselection_on_enum_type (d, (e, leaf, has, refl)))

  -- a selection that is left out breaks a rule
  pub left-out : (s : SelectionTree P) (u : List ℕ) → kept m s u ≡ [] → (f : TypingFault P) × SelectionBreaks m u s f
  left-out (FieldTree p h ts) u e = by (m.field u h.name.it) refl e
    where
      by_test : (d : Definition) → m.field u h.name.it ≡ Some d → (b : Bool) → may_select m (inner_type d) ts ≡ b
          → (if b then MeantField p d h (set_on (inner_type d) (kept_all m ts (inner_type d))) ∷ [] else []) ≡ [] → (f : TypingFault P) × SelectionBreaks m u (FieldTree p h ts) f
      by_test d is true may e = absurd (not-nil (MeantField p d h (set_on (inner_type d) (kept_all m ts (inner_type d)))) [] e)
      by_test d is false may e =
          let both = both-so (has_selection ts) (is_leaf m (inner_type d)) may in
          leaf-out p h ts u d is both.0 (m.is_scalar (inner_type d)) refl both.1

      by : (o : Option Definition) → m.field u h.name.it ≡ o
          → option_map_or (λ d. if may_select m (inner_type d) ts then MeantField p d h (set_on (inner_type d) (kept_all m ts (inner_type d))) ∷ [] else []) o [] ≡ []
          → (f : TypingFault P) × SelectionBreaks m u (FieldTree p h ts) f
      by None is e = (typing_fault_at p (UndefinedField u h.name.it), rule.undefined_field (is, refl))
      by (Some d) is e = by_test d is (may_select m (inner_type d) ts) refl e
  left-out (SpreadTree p n ds) u e = absurd (not-nil _ [] e)
  left-out (InlineTree p None ds ts) u e = absurd (not-nil _ [] e)
  left-out (InlineTree p (Some c) ds ts) u e = by (m.has_type c.it) refl e
    where
      by : (b : Bool) → m.has_type c.it ≡ b → (if b then MeantInline p (Some c) ds (set_on c.it (kept_all m ts c.it)) ∷ [] else []) ≡ [] → (f : TypingFault P) × SelectionBreaks m u (InlineTree p (Some c) ds ts) f
      by true is e = absurd (not-nil (MeantInline p (Some c) ds (set_on c.it (kept_all m ts c.it))) [] e)
      by false is e = (typing_fault_at p (UndefinedTypeInInlineFragmentTypeCondition c.it), rule.undefined_type_in_inline_fragment_type_condition (is, refl))

  pub tells-set : (ts : SelectionTrees P) (t : List ℕ) (faults : List (TypingFault P)) → ((f : TypingFault P) → SetFails m t ts f → Contains faults f) → TellsSet m t ts faults
  tells-set ts t faults all u s at e = let x = left-out s u e in (x.0, (all x.0 (u, (s, (at, x.1))), x.1))

-- ---- counting operations

module _ {P : Type 0} where
  count-one : (xs ys : List (DefinitionTree P)) (p : P) (o : OperationTree P) → 0 < length (filter is_operation (xs ++ Operation p o ∷ ys))
  count-one [] ys p o = omega arith
  count-one (Operation q x ∷ xs) ys p o = omega arith
  count-one (d ∷ xs) ys p o = count-one xs ys p o

  count-two : (xs ys : List (DefinitionTree P)) (p : P) (o : OperationTree P) → 0 < length (filter is_operation xs) → 1 < length (filter is_operation (xs ++ Operation p o ∷ ys))
  count-two [] ys p o h = absurd (omega (arith, h))
  count-two (Operation q x ∷ xs) ys p o h = let one = count-one xs ys p o in omega arith
  count-two (d ∷ xs) ys p o h = count-two xs ys p o h

  some-operation : (m : Meanings) (xs : List (DefinitionTree P)) → is_some (slice_get (flat_map (anonymous_here m) xs) 0) ≡ true → 0 < length (filter is_operation xs)
  some-operation m [] h = absurd (true≢false (sym h))
  some-operation m (Operation p o ∷ xs) h = omega arith
  some-operation m (d ∷ xs) h = some-operation m xs h

module _ {P : Type 0} (m : Meanings) (ds : List (DefinitionTree P)) where
  pub not-kept : (before : List (DefinitionTree P)) (d : DefinitionTree P) → StandsAfter ds before d → is_kept m before d ≡ false → (f : TypingFault P) × DefinitionBreaks m ds before d f
  not-kept before (Operation p o) (after, at) h = by (m.root o.operation_type) refl h
    where
      by_name : (x : Option (Text P)) → o.name ≡ x → (if is_none x then is_some (kept_anonymous m before) else has_name operation_name (text_or_empty x) (kept_named m before)) ≡ true
          → (f : TypingFault P) × DefinitionBreaks m ds before (Operation p o) f
      by_name None e k =
          (typing_fault_at p AmbiguousAnonymousOperation, rule.ambiguous_anonymous_operation (e, subst (λ l. 1 < length (filter is_operation l)) (sym at) (count-two before after p o (some-operation m before k)), refl))
      by_name (Some n) e k = (typing_fault_at p (OperationNameCollision n.it), rule.operation_name_collision (n, (e, k, refl)))

      by : (r : Option (List ℕ)) → m.root o.operation_type ≡ r → (is_some r && not (if is_none o.name then is_some (kept_anonymous m before) else has_name operation_name (text_or_empty o.name) (kept_named m before))) ≡ false
          → (f : TypingFault P) × DefinitionBreaks m ds before (Operation p o) f
      by None re h = (typing_fault_at p (UndefinedRootOperation o.operation_type), rule.undefined_root_operation (re, refl))
      by (Some t) re h = by_name o.name refl (not-so (if is_none o.name then is_some (kept_anonymous m before) else has_name operation_name (text_or_empty o.name) (kept_named m before)) h)
  not-kept before (Fragment p g) at h = by (m.has_type g.type_condition.it) refl h
    where
      by : (b : Bool) → m.has_type g.type_condition.it ≡ b → (b && not (has_name fragment_name g.name.it (kept_fragments m before))) ≡ false → (f : TypingFault P) × DefinitionBreaks m ds before (Fragment p g) f
      by false e h = (typing_fault_at p (UndefinedTypeInNamedFragmentTypeCondition g.type_condition.it), rule.undefined_type_in_named_fragment_type_condition (e, refl))
      by true e h = (typing_fault_at p (FragmentNameCollision g.name.it), rule.fragment_name_collision (not-so (has_name fragment_name g.name.it (kept_fragments m before)) h, refl))
  not-kept before d at h = (typing_fault_at (definition_place d) TypeSystemDefinition, rule.type_system_definition (refl, refl))

  pub tells-all : (faults : List (TypingFault P)) → ((f : TypingFault P) → TypingFails m ds f → Contains faults f) → TellsAll m ds faults
  tells-all faults all = record {
    definitions = λ before d at h. let x = not-kept before d at h in (x.0, (all x.0 (rule.in_definition (before, (d, (at, x.1)))), x.1));
    anonymous = λ before p o at e lt. all (typing_fault_at p AmbiguousAnonymousOperation) (rule.in_definition (before, (Operation p o, (at, rule.ambiguous_anonymous_operation (e, lt, refl)))));
    operations = λ o c. tells-set m o.it.selections o.base faults (λ f x. all f (rule.in_operation o c x));
    fragments = λ g c. tells-set m g.it.selections g.base faults (λ f x. all f (rule.in_named_fragment g c x));
  }
