-- A document is typed by the book exactly when no rule of typing is broken.
use Rattle.std.proofs.Common.{◌≡◌, ◌⊎◌, ℕ, ◌+◌, ◌<◌, ◌≤◌, Bool, true, false, List, [], ◌∷◌, length, refl, sym, ap, subst, ◌∙◌, Option, None, Some, Contains, option_to_list, if◌then◌else◌, cond, inl, inr, is_some, true≢false, arith, length-append}
use Rattle.std.specs.List.{flat_map, filter}
use Rattle.std.specs.Option.{option_map}
use Rattle.std.proofs.lemmas.Option.{same_Some}
use Rattle.std.proofs.lemmas.List.Elements.{Contains-append_left, Contains-append_right, Contains-append_cases, filter-append}
use Rattle.graphql_names.specs.Placed.{Place, Text}
use Rattle.tree_operations.specs.OperationLayout.{is_none}
use Rattle.tree_operations.specs.OperationTree.{OperationTree, FragmentTree}
use Rattle.tree_definitions.specs.DefinitionTree.{DefinitionTree, Operation, Fragment}
use Rattle.schema_components.specs.Lists.{StandsAfter, has_name}
use Rattle.schema_components.proofs.Firsts.{has_name-firsts}
use Rattle.rule_definitions.proofs.Lists.{not_in_nil, Contains-cons, Contains-first, only, is_only, found_in, given_in, index_given}
use Rattle.rule_definitions.proofs.Lookups.{among_found, among_given}
use Rattle.verdict_definitions.specs.in_typing.Meanings.{Meanings}
use Rattle.verdict_definitions.specs.in_typing.KeptDocument.{Based, based_operation, anonymous_here, named_here, fragment_here, text_or_empty, operation_name, fragment_name, kept_anonymous, kept_named, kept_operations, kept_fragments, is_operation}
use Rattle.verdict_definitions.specs.in_typing.TypingFaults.{TypingFault, DefinitionBreaks, type_system_definition, ambiguous_anonymous_operation, operation_name_collision, fragment_name_collision, undefined_root_operation, undefined_type_in_named_fragment_type_condition, in_definition, in_operation, in_named_fragment, TypingRules}
use Rattle.rule_selections.proofs.in_typing.DocumentFailures.{one-anonymous, one-named, one-fragment, first-found, first-given, kept-found, kept-given}
use Rattle.book_validity.specs.Typing.{AreTyped, operation_names, fragment_names, IsTypedOperation, IsTypedFragment, IsTypedDefinition, IsTypedDocument}
use Rattle.book_validity.specs.Laws.{TypedByTheBook}
use Rattle.book_validity.proofs.Naming.{is_there, there, is_true}
use Rattle.book_validity.proofs.TypingFacts.{sets_typed}

abbrev Def : Type 0
Def = DefinitionTree Place

-- ---- lists

place_of : {X : Type 0} (xs : List X) (x : X) → Contains xs x → (before : List X) × StandsAfter xs before x
place_of [] x c = not_in_nil x c
place_of (y ∷ xs) x c = elim (Contains-cons y xs x c) [
  | inl e ↦ ([], (xs, ap (λ z. z ∷ xs) e))
  | inr r ↦ let p = place_of xs x r in (y ∷ p.0, (p.1.0, ap (λ l. y ∷ l) p.1.1))
]

among : {X : Type 0} (xs before : List X) (x y : X) → StandsAfter xs before x → Contains before y → Contains xs y
among xs before x y (after, e) c = subst (λ l. Contains l y) (sym e) (Contains-append_left before (x ∷ after) y c)

some_passes : {X : Type 0} (p : X → Bool) (xs : List X) (x : X) → Contains xs x → p x ≡ true → 0 < length (filter p xs)
some_passes p [] x c h = not_in_nil x c
some_passes p (y ∷ xs) x c h = by (p y) refl (Contains-cons y xs x c) (some_passes p xs x)
  where
    by : (b : Bool) → p y ≡ b → (y ≡ x) ⊎ Contains xs x → (Contains xs x → p x ≡ true → 0 < length (filter p xs)) → 0 < length (filter p (y ∷ xs))
    by true e k rest = subst (λ b. 0 < length (cond b (y ∷ filter p xs) (filter p xs))) (sym e) (omega arith)
    by false e (inl same) rest = absurd (true≢false (sym h ∙ ap p (sym same) ∙ e))
    by false e (inr k) rest = subst (λ b. 0 < length (cond b (y ∷ filter p xs) (filter p xs))) (sym e) (rest k h)

-- two that pass
two_pass : {X : Type 0} (p : X → Bool) (xs before : List X) (x y : X) → StandsAfter xs before x → Contains before y → p x ≡ true → p y ≡ true → 1 < length (filter p xs)
two_pass p xs before x y (after, e) c h k =
    let here : 0 < length (filter p (x ∷ after)) = some_passes p (x ∷ after) x (Contains-first x after x refl) h in
    let earlier : 0 < length (filter p before) = some_passes p before y c k in
    let parts : length (filter p xs) ≡ length (filter p before) + length (filter p (x ∷ after)) =
    ap (λ l. length (filter p l)) e ∙ ap length (filter-append p before (x ∷ after)) ∙ length-append (filter p before) (filter p (x ∷ after)) in
    omega (arith, here, earlier, parts)

no_more : (n : ℕ) → (1 < n → ⊥) → n ≤ 1
no_more n h = omega (arith, h)

is_false : (b : Bool) → (b ≡ true → ⊥) → b ≡ false
is_false true h = absurd (h refl)
is_false false h = refl

module _ (m : Meanings) where
  abbrev based : Place → List ℕ → OperationTree Place → Based Place (OperationTree Place)
  based p t o = record { place = p; base = t; it = o }

  abbrev Op : Type 0
  Op = Based Place (OperationTree Place)

  in_based : (p : Place) (o : OperationTree Place) (r : Option (List ℕ)) → m.root o.operation_type ≡ r → (b : Op) → Contains (based_operation m p o) b → (m.root o.operation_type ≡ Some b.base) × (b ≡ based p b.base o)
  in_based p o None e b c = not_in_nil b (subst (λ s. Contains (option_to_list (option_map (λ t. based p t o) s)) b) e c)
  in_based p o (Some t) e b c =
      let same : b ≡ based p t o = only (based p t o) b (subst (λ s. Contains (option_to_list (option_map (λ t. based p t o) s)) b) e c) in
      (e ∙ ap (λ (x : Op). Some x.base) (sym same), same ∙ ap (λ u. based p u o) (ap (λ (x : Op). x.base) (sym same)))

  -- what is kept of an operation with a name, and of one without
  named_is : (p : Place) (o : OperationTree Place) (x : Option (Text Place)) → o.name ≡ x → (b : Op) → Contains (named_here m (Operation p o)) b → (n : Text Place) × ((o.name ≡ Some n) × Contains (based_operation m p o) b)
  named_is p o None e b c = not_in_nil b (subst (λ x. Contains (if is_none x then [] else based_operation m p o) b) e c)
  named_is p o (Some n) e b c = (n, (e, subst (λ x. Contains (if is_none x then [] else based_operation m p o) b) e c))

  nameless_is : (p : Place) (o : OperationTree Place) (x : Option (Text Place)) → o.name ≡ x → (b : Op) → Contains (anonymous_here m (Operation p o)) b → Contains (based_operation m p o) b
  nameless_is p o None e b c = subst (λ x. Contains (if is_none x then based_operation m p o else []) b) e c
  nameless_is p o (Some n) e b c = not_in_nil b (subst (λ x. Contains (if is_none x then based_operation m p o else []) b) e c)

  abbrev IsFrom : Def → Op → Type 0
  IsFrom d b = (p : Place) × ((o : OperationTree Place) × ((d ≡ Operation p o) × ((m.root o.operation_type ≡ Some b.base) × (b ≡ based p b.base o))))

  from_named : (d : Def) (b : Op) → Contains (named_here m d) b → IsFrom d b
  from_named (Operation p o) b c = let n = named_is p o o.name refl b c in (p, (o, (refl, in_based p o (m.root o.operation_type) refl b n.1.1)))
  from_named (Fragment p f) b c = not_in_nil b c
  from_named _ b c = not_in_nil b c

  from_nameless : (d : Def) (b : Op) → Contains (anonymous_here m d) b → IsFrom d b
  from_nameless (Operation p o) b c = (p, (o, (refl, in_based p o (m.root o.operation_type) refl b (nameless_is p o o.name refl b c))))
  from_nameless (Fragment p f) b c = not_in_nil b c
  from_nameless _ b c = not_in_nil b c

  abbrev Frag : Type 0
  Frag = Based Place (FragmentTree Place)

  conditioned : (p : Place) (f : FragmentTree Place) (k : Bool) → m.has_type f.type_condition.it ≡ k → (b : Frag) → Contains (fragment_here m (Fragment p f)) b → (k ≡ true) × (b ≡ record { place = p; base = f.type_condition.it; it = f })
  conditioned p f true e b c = (refl, only _ b (subst (λ k. Contains (if k then record { place = p; base = f.type_condition.it; it = f } ∷ [] else []) b) e c))
  conditioned p f false e b c = not_in_nil b (subst (λ k. Contains (if k then record { place = p; base = f.type_condition.it; it = f } ∷ [] else []) b) e c)

  from_fragment : (d : Def) (b : Frag) → Contains (fragment_here m d) b → (p : Place) × ((f : FragmentTree Place) × ((d ≡ Fragment p f) × (b ≡ record { place = p; base = f.type_condition.it; it = f })))
  from_fragment (Fragment p f) b c = (p, (f, (refl, (conditioned p f (m.has_type f.type_condition.it) refl b c).1)))
  from_fragment (Operation p o) b c = not_in_nil b c
  from_fragment _ b c = not_in_nil b c

  -- ---- names of what is kept, and of what is there

  given_name : (p : Place) (o : OperationTree Place) (n : Text Place) → o.name ≡ Some n → Contains (operation_names (Operation p o)) n.it
  given_name p o n e = subst (λ x. Contains (option_to_list (option_map (λ (t : Text Place). t.it) x)) n.it) (sym e) (is_only n.it n.it refl)

  kept_name : (before : List Def) (n : List ℕ) → has_name operation_name n (kept_named m before) ≡ true → Contains (flat_map operation_names before) n
  kept_name before n e =
      let (b, (c, same)) = among_given operation_name (flat_map (named_here m) before) n (sym (has_name-firsts operation_name n (flat_map (named_here m) before)) ∙ e) in
      let (d, (there, k)) = found_in (named_here m) b before c in
      by d b there k same
    where
      by : (d : Def) (b : Op) → Contains before d → Contains (named_here m d) b → operation_name b ≡ n → Contains (flat_map operation_names before) n
      by (Operation p o) b there k same =
          let (t, (e, c)) = named_is p o o.name refl b k in
          let is = (in_based p o (m.root o.operation_type) refl b c).1 in
          let name : t.it ≡ n = sym (ap (λ (x : Op). operation_name x) is ∙ ap text_or_empty e) ∙ same in
          given_in operation_names n before (Operation p o) there (subst (Contains (operation_names (Operation p o))) name (given_name p o t e))
      by (Fragment p f) b there k same = not_in_nil b k
      by _ b there k same = not_in_nil b k

  kept_fragment_name : (before : List Def) (n : List ℕ) → has_name fragment_name n (kept_fragments m before) ≡ true → Contains (flat_map fragment_names before) n
  kept_fragment_name before n e =
      let (b, (c, same)) = among_given fragment_name (flat_map (fragment_here m) before) n (sym (has_name-firsts fragment_name n (flat_map (fragment_here m) before)) ∙ e) in
      let (d, (there, k)) = found_in (fragment_here m) b before c in
      by d b there k same
    where
      by : (d : Def) (b : Frag) → Contains before d → Contains (fragment_here m d) b → fragment_name b ≡ n → Contains (flat_map fragment_names before) n
      by (Fragment p f) b there k same =
          let is = (conditioned p f (m.has_type f.type_condition.it) refl b k).1 in
          given_in fragment_names n before (Fragment p f) there (is_only f.name.it n (sym same ∙ ap (λ (x : Frag). fragment_name x) is))
      by (Operation p o) b there k same = not_in_nil b k
      by _ b there k same = not_in_nil b k

  module _ (ds : List Def) where
    -- ---- from typed to no fault

    definition_sound : (before : List Def) (d : Def) (fault : TypingFault Place) → IsTypedDefinition m ds before d → DefinitionBreaks m ds before d fault → ⊥
    definition_sound before (Operation p o) fault h (type_system_definition b) = true≢false b.0
    definition_sound before (Operation p o) fault h (ambiguous_anonymous_operation b) = omega (arith, h.alone b.0, b.1)
    definition_sound before (Operation p o) fault h (operation_name_collision b) = h.unique b.0 b.1.0 (kept_name before b.0.it b.1.1)
    definition_sound before (Operation p o) fault h (fragment_name_collision b) = b
    definition_sound before (Operation p o) fault h (undefined_root_operation b) = true≢false (sym (ap is_some h.selections.1.0) ∙ ap is_some b.0)
    definition_sound before (Operation p o) fault h (undefined_type_in_named_fragment_type_condition b) = b
    definition_sound before (Fragment p f) fault h (type_system_definition b) = true≢false b.0
    definition_sound before (Fragment p f) fault h (ambiguous_anonymous_operation b) = b
    definition_sound before (Fragment p f) fault h (operation_name_collision b) = b
    definition_sound before (Fragment p f) fault h (fragment_name_collision b) = h.unique (kept_fragment_name before f.name.it b.0)
    definition_sound before (Fragment p f) fault h (undefined_root_operation b) = b
    definition_sound before (Fragment p f) fault h (undefined_type_in_named_fragment_type_condition b) = true≢false (sym h.condition ∙ b.0)
    definition_sound before _ fault h b = h

    sound : IsTypedDocument m ds → TypingRules m ds
    sound h fault (in_definition (before, (d, (at, b)))) = definition_sound before d fault (h before d at) b
    sound h fault (in_operation b c s) = elim (Contains-append_cases (option_to_list (kept_anonymous m ds)) (kept_named m ds) b c) [
      | inl k ↦ let (before, (d, (at, here))) = first-found (anonymous_here m) (one-anonymous m) ds b k in operation before d at (from_nameless d b here.0)
      | inr k ↦ let (before, (d, (at, here))) = kept-found (named_here m) operation_name (one-named m) ds b k in operation before d at (from_named d b (subst (λ l. Contains l b) (sym here.0) (is_only b b refl)))
    ]
      where
        operation : (before : List Def) (d : Def) → StandsAfter ds before d → IsFrom d b → ⊥
        operation before d at (p, (o, (e, (root, is)))) =
            let typed : IsTypedOperation m ds before o = subst (IsTypedDefinition m ds before) e (h before d at) in
            let (t, (r, all)) = typed.selections in
            let same : t ≡ b.base = same_Some t b.base (sym r ∙ root) in
            (sets_typed m b.base b.it.selections).0 (subst (λ (x : Op). AreTyped m b.base x.it.selections) (sym is) (subst (λ u. AreTyped m u o.selections) same all)) fault s
    sound h fault (in_named_fragment b c s) =
        let (before, (d, (at, here))) = kept-found (fragment_here m) fragment_name (one-fragment m) ds b c in
        fragment before d at (from_fragment d b (subst (λ l. Contains l b) (sym here.0) (is_only b b refl)))
      where
        fragment : (before : List Def) (d : Def) → StandsAfter ds before d → (p : Place) × ((f : FragmentTree Place) × ((d ≡ Fragment p f) × (b ≡ record { place = p; base = f.type_condition.it; it = f }))) → ⊥
        fragment before d at (p, (f, (e, is))) =
            let typed : IsTypedFragment m before f = subst (IsTypedDefinition m ds before) e (h before d at) in
            (sets_typed m b.base b.it.selections).0 (subst (λ (x : Frag). AreTyped m x.base x.it.selections) (sym is) typed.selections) fault s

    -- ---- from no fault to typed

    module _ (q : TypingRules m ds) where
      root_there : (p : Place) (o : OperationTree Place) → Contains ds (Operation p o) → (t : List ℕ) × (m.root o.operation_type ≡ Some t)
      root_there p o c =
          let (before, at) = place_of ds (Operation p o) c in
          there (m.root o.operation_type) (is_there (m.root o.operation_type) (λ none. q _ (in_definition (before, (Operation p o, (at, undefined_root_operation (none, refl)))))))

      condition_there : (p : Place) (f : FragmentTree Place) → Contains ds (Fragment p f) → m.has_type f.type_condition.it ≡ true
      condition_there p f c =
          let (before, at) = place_of ds (Fragment p f) c in
          is_true (m.has_type f.type_condition.it) (λ none. q _ (in_definition (before, (Fragment p f, (at, undefined_type_in_named_fragment_type_condition (none, refl))))))

      here_named : (p : Place) (o : OperationTree Place) (n : Text Place) (t : List ℕ) → o.name ≡ Some n → m.root o.operation_type ≡ Some t → named_here m (Operation p o) ≡ based p t o ∷ []
      here_named p o n t e r = ap (λ x. if is_none x then [] else based_operation m p o) e ∙ ap (λ s. option_to_list (option_map (λ t. based p t o) s)) r

      here_nameless : (p : Place) (o : OperationTree Place) (t : List ℕ) → o.name ≡ None → m.root o.operation_type ≡ Some t → anonymous_here m (Operation p o) ≡ based p t o ∷ []
      here_nameless p o t e r = ap (λ x. if is_none x then based_operation m p o else []) e ∙ ap (λ s. option_to_list (option_map (λ t. based p t o) s)) r

      here_fragment : (p : Place) (f : FragmentTree Place) → m.has_type f.type_condition.it ≡ true → fragment_here m (Fragment p f) ≡ record { place = p; base = f.type_condition.it; it = f } ∷ []
      here_fragment p f e = ap (λ k. if k then record { place = p; base = f.type_condition.it; it = f } ∷ [] else []) e

      name_in : (n : List ℕ) (x : Option (Text Place)) → Contains (option_to_list (option_map (λ (t : Text Place). t.it) x)) n → (t : Text Place) × ((x ≡ Some t) × (t.it ≡ n))
      name_in n None c = not_in_nil n c
      name_in n (Some t) c = (t, (refl, sym (only t.it n c)))

      -- names of operations are names of kept ones
      name_kept : (before : List Def) (n : List ℕ) → ((d : Def) → Contains before d → Contains ds d) → Contains (flat_map operation_names before) n → has_name operation_name n (kept_named m before) ≡ true
      name_kept before n within c = let (d, (known, k)) = found_in operation_names n before c in by d known k
        where
          by : (d : Def) → Contains before d → Contains (operation_names d) n → has_name operation_name n (kept_named m before) ≡ true
          by (Operation p o) known k =
              let (x, (e, same)) = name_in n o.name k in
              let (t, r) = root_there p o (within (Operation p o) known) in
              let b : Op = based p t o in
              let among : Contains (flat_map (named_here m) before) b = given_in (named_here m) b before (Operation p o) known (subst (λ l. Contains l b) (sym (here_named p o x t e r)) (is_only b b refl)) in
              has_name-firsts operation_name n (flat_map (named_here m) before)
              ∙ subst (λ k. has_name operation_name k (flat_map (named_here m) before) ≡ true) (ap text_or_empty e ∙ same) (among_found operation_name (flat_map (named_here m) before) b among)
          by (Fragment p f) known k = not_in_nil n k
          by _ known k = not_in_nil n k

      fragment_name_kept : (before : List Def) (n : List ℕ) → ((d : Def) → Contains before d → Contains ds d) → Contains (flat_map fragment_names before) n → has_name fragment_name n (kept_fragments m before) ≡ true
      fragment_name_kept before n within c = let (d, (known, k)) = found_in fragment_names n before c in by d known k
        where
          by : (d : Def) → Contains before d → Contains (fragment_names d) n → has_name fragment_name n (kept_fragments m before) ≡ true
          by (Fragment p f) known k =
              let b : Frag = record { place = p; base = f.type_condition.it; it = f } in
              let among : Contains (flat_map (fragment_here m) before) b = given_in (fragment_here m) b before (Fragment p f) known (subst (λ l. Contains l b) (sym (here_fragment p f (condition_there p f (within (Fragment p f) known)))) (is_only b b refl)) in
              has_name-firsts fragment_name n (flat_map (fragment_here m) before)
              ∙ subst (λ k. has_name fragment_name k (flat_map (fragment_here m) before) ≡ true) (sym (only f.name.it n k)) (among_found fragment_name (flat_map (fragment_here m) before) b among)
          by (Operation p o) known k = not_in_nil n k
          by _ known k = not_in_nil n k

      module _ (before : List Def) (p : Place) (o : OperationTree Place) (at : StandsAfter ds before (Operation p o)) where
        here_it_is : Contains ds (Operation p o)
        here_it_is = subst (λ l. Contains l (Operation p o)) (sym at.1) (Contains-append_right before (Operation p o ∷ at.0) (Operation p o) (Contains-first (Operation p o) at.0 (Operation p o) refl))

        unique : (n : Text Place) → o.name ≡ Some n → Contains (flat_map operation_names before) n.it → ⊥
        unique n is c = q _ (in_definition (before, (Operation p o, (at, operation_name_collision (n, (is, name_kept before n.it (λ d k. among ds before (Operation p o) d at k) c, refl))))))

        alone : o.name ≡ None → 1 < length (filter is_operation ds) → ⊥
        alone none more = q _ (in_definition (before, (Operation p o, (at, ambiguous_anonymous_operation (none, more, refl)))))

        none_earlier : o.name ≡ None → is_some (kept_anonymous m before) ≡ false
        none_earlier none = is_false (is_some (kept_anonymous m before)) (λ e.
            let (b, is) = there (kept_anonymous m before) e in
            let (d, (known, k)) = found_in (anonymous_here m) b before (index_given (flat_map (anonymous_here m) before) 0 b is) in
            let (p', (o', (same, rest))) = from_nameless d b k in
            alone none (two_pass is_operation ds before (Operation p o) (Operation p' o') at (subst (Contains before) same known) refl refl))

        kept : (t : List ℕ) → m.root o.operation_type ≡ Some t → (x : Option (Text Place)) → o.name ≡ x → Contains (kept_operations m ds) (based p t o)
        kept t r None e = Contains-append_left (option_to_list (kept_anonymous m ds)) (kept_named m ds) (based p t o)
            (first-given (anonymous_here m) (one-anonymous m) ds before (Operation p o) (based p t o) at (subst (λ l. Contains l (based p t o)) (sym (here_nameless p o t e r)) (is_only (based p t o) (based p t o) refl)) (none_earlier e))
        kept t r (Some n) e = Contains-append_right (option_to_list (kept_anonymous m ds)) (kept_named m ds) (based p t o)
            (kept-given (named_here m) operation_name (one-named m) ds before (Operation p o) (based p t o) at (here_named p o n t e r)
            (is_false (has_name operation_name (operation_name (based p t o)) (kept_named m before)) (λ has. unique n e (kept_name before n.it (ap (λ k. has_name operation_name k (kept_named m before)) (sym (ap text_or_empty e)) ∙ has)))))

        operation_complete : IsTypedOperation m ds before o
        operation_complete =
            let (t, r) = root_there p o here_it_is in
            record {
              unique = unique;
              alone = λ none. no_more (length (filter is_operation ds)) (alone none);
              selections = (t, (r, (sets_typed m t o.selections).1 (λ fault s. q fault (in_operation (based p t o) (kept t r o.name refl) s))));
            }

      module _ (before : List Def) (p : Place) (f : FragmentTree Place) (at : StandsAfter ds before (Fragment p f)) where
        abbrev it_based : Frag
        it_based = record { place = p; base = f.type_condition.it; it = f }

        fragment_it_is : Contains ds (Fragment p f)
        fragment_it_is = subst (λ l. Contains l (Fragment p f)) (sym at.1) (Contains-append_right before (Fragment p f ∷ at.0) (Fragment p f) (Contains-first (Fragment p f) at.0 (Fragment p f) refl))

        fragment_unique : Contains (flat_map fragment_names before) f.name.it → ⊥
        fragment_unique c = q _ (in_definition (before, (Fragment p f, (at, fragment_name_collision (fragment_name_kept before f.name.it (λ d k. among ds before (Fragment p f) d at k) c, refl)))))

        fragment_complete : IsTypedFragment m before f
        fragment_complete =
            let known = condition_there p f fragment_it_is in
            record {
              unique = fragment_unique;
              condition = known;
              selections = (sets_typed m f.type_condition.it f.selections).1 (λ fault s. q fault (in_named_fragment it_based
                  (kept-given (fragment_here m) fragment_name (one-fragment m) ds before (Fragment p f) it_based at (here_fragment p f known)
                  (is_false (has_name fragment_name f.name.it (kept_fragments m before)) (λ has. fragment_unique (kept_fragment_name before f.name.it has)))) s));
            }

      complete : IsTypedDocument m ds
      complete before (Operation p o) at = operation_complete before p o at
      complete before (Fragment p f) at = fragment_complete before p f at
      complete before d at = q _ (in_definition (before, (d, (at, type_system_definition (refl, refl)))))

pub typed_by_the_book : TypedByTheBook
typed_by_the_book m ds = (sound m ds, complete m ds)
