-- Where no rule of typing is broken the whole document is kept, and written as it was read.
use Rattle.std.proofs.Common.{◌≡◌, ℕ, Bool, true, false, not, ◌&&◌, List, [], ◌∷◌, ◌++◌, map, Option, None, Some, refl, sym, ap, subst, ◌∙◌, append_assoc, if◌then◌else◌, is_some, option_to_list, Contains, true≢false}
use Rattle.std.specs.List.{filter}
use Rattle.std.specs.Option.{option_map, option_map_or}
use Rattle.std.proofs.lemmas.List.{map-append}
use Rattle.std.proofs.lemmas.List.Elements.{Contains-append_left, Contains-append_right}
use Rattle.graphql_names.specs.Placed.{Text}
use Rattle.tree_directives.specs.DirectiveTree.{Directives}
use Rattle.tree_operations.specs.OperationLayout.{is_none}
use Rattle.tree_operations.specs.OperationTree.{OperationTree, FragmentTree}
use Rattle.tree_operations.specs.SelectionTree.{FieldHead, SelectionTree, FieldTree, SpreadTree, InlineTree, SelectionTrees, no_selections, selection_then}
use Rattle.tree_definitions.specs.DefinitionTree.{DefinitionTree, Operation, Fragment}
use Rattle.schema_types.specs.in_components.Lists.{StandsAfter, each_place, each_place_after, has_name}
use Rattle.schema_types.proofs.in_components.Places.{is_only}
use Rattle.document_typing.specs.MeantTree.{Definition, MeantSelection, MeantField, MeantSpread, MeantInline, members, set_on}
use Rattle.document_typing.specs.Meanings.{Meanings, inner_type}
use Rattle.document_typing.specs.KeptSelections.{may_select, kept, kept_all}
use Rattle.document_typing.specs.KeptDocument.{Based, anonymous_here, named_here, fragment_here, text_or_empty, operation_name, fragment_name, kept_anonymous, kept_named, kept_operations, kept_fragments, meant_operation, meant_fragment, named_entry, fragment_entry, kept_document}
use Rattle.document_typing.specs.TypingFaults as rule
use Rattle.document_typing.specs.TypingFaults.{TypingFault, SelectionBreaks, IsInSelections, SetFails, TypingFails, TypingRules}
use Rattle.document_typing.specs.FullList.{is_kept}
use Rattle.document_typing.specs.OutDoc.{is_anonymous, is_named_operation, is_fragment_definition, out_doc, written_selection, written_selections, written_operation, written_fragment, written_document}
use Rattle.document_typing.specs.TypedDefinitions.{based}
use Rattle.document_typing.proofs.FullLists.{left-out, not-kept}
use Rattle.document_typing.proofs.DocumentFailures.{fresh, kept-places, kept-given, first-places, first-given, one-anonymous, one-named, one-fragment}

-- ---- lists

-- what a list makes place by place is what of it passes a test, if at each place it is so
module _ {X Y : Type 0} (f : List X → X → List Y) (written : Y → X) (p : X → Bool) where
  one-filter : (x : X) (b : Bool) (ys : List X) → (if b then x ∷ [] else []) ++ ys ≡ (if b then x ∷ ys else ys)
  one-filter x true ys = refl
  one-filter x false ys = refl

  filter-after : (before xs : List X)
      → ((b : List X) (x : X) → StandsAfter (before ++ xs) b x → map written (f b x) ≡ (if p x then x ∷ [] else []))
      → map written (each_place_after f before xs) ≡ filter p xs
  filter-after before [] h = refl
  filter-after before (x ∷ xs) h =
      let rest : map written (each_place_after f (before ++ x ∷ []) xs) ≡ filter p xs
      = filter-after (before ++ x ∷ []) xs (λ b y at. h b y (subst (λ l. StandsAfter l b y) (append_assoc before (x ∷ []) xs) at)) in
      map-append written (f before x) (each_place_after f (before ++ x ∷ []) xs)
      ∙ (λ i. h before x (xs, refl) i ++ rest i)
      ∙ one-filter x (p x) (filter p xs)

  pub places-filter : (xs : List X) → ((b : List X) (x : X) → StandsAfter xs b x → map written (f b x) ≡ (if p x then x ∷ [] else [])) → map written (each_place f xs) ≡ filter p xs
  places-filter xs h = filter-after [] xs h

module _ {X Y Z : Type 0} (g : Y → Z) (f : X → Y) where
  map-map : (xs : List X) → map g (map f xs) ≡ map (λ x. g (f x)) xs
  map-map [] = refl
  map-map (x ∷ xs) = ap (λ l. g (f x) ∷ l) (map-map xs)

  map-option : (o : Option X) → map g (option_to_list (option_map f o)) ≡ map (λ x. g (f x)) (option_to_list o)
  map-option None = refl
  map-option (Some x) = refl

nothing-so : {X Y : Type 0} (f : X → Y) (b : Bool) → map f (if b then [] else []) ≡ []
nothing-so f true = refl
nothing-so f false = refl

-- ---- sets

module _ {P : Type 0} (m : Meanings) where
  -- nothing in these, on the type t, breaks a rule
  abbrev Sound : List ℕ → SelectionTrees P → Type 0
  Sound t ts = (f : TypingFault P) → SetFails m t ts f → ⊥

  -- the selection is kept, and written as it is
  abbrev IsWhole : SelectionTree P → List ℕ → Type 0
  IsWhole s t = (x : MeantSelection P) × ((kept m s t ≡ x ∷ []) × (written_selection x ≡ s))

  with-rest : (s : SelectionTree P) (ss : SelectionTrees P) (t : List ℕ) → IsWhole s t → written_selections (members (kept_all m ss t)) ≡ ss
      → written_selections (members (kept m s t ++ kept_all m ss t)) ≡ selection_then s ss
  with-rest s ss t (x, (e, w)) rest = ap (λ l. written_selections (members (l ++ kept_all m ss t))) e ∙ (λ i. selection_then (w i) (rest i))

  -- the first selection of a sound set is not left out
  not-left : (s : SelectionTree P) (ss : SelectionTrees P) (t : List ℕ) → Sound t (selection_then s ss) → kept m s t ≡ [] → ⊥
  not-left s ss t sound e = let x = left-out m s t e in sound x.0 (t, (s, (rule.first ss, x.1)))

  -- what is kept of a field with this definition if the test is so, and of a field with or without a definition
  abbrev field_if : P → FieldHead P → SelectionTrees P → Definition → Bool → List (MeantSelection P)
  field_if p h ts d b = if b then MeantField p d h (set_on (inner_type d) (kept_all m ts (inner_type d))) ∷ [] else []

  abbrev field_by : P → FieldHead P → SelectionTrees P → Option Definition → List (MeantSelection P)
  field_by p h ts o = option_map_or (λ d. field_if p h ts d (may_select m (inner_type d) ts)) o []

  field-whole : (p : P) (h : FieldHead P) (ts ss : SelectionTrees P) (t : List ℕ) → Sound t (selection_then (FieldTree p h ts) ss)
      → ((u : List ℕ) → Sound u ts → written_selections (members (kept_all m ts u)) ≡ ts) → IsWhole (FieldTree p h ts) t
  field-whole p h ts ss t sound deeper = by (m.field t h.name.it) refl
    where
      by_test : (d : Definition) → m.field t h.name.it ≡ Some d → (b : Bool) → may_select m (inner_type d) ts ≡ b → IsWhole (FieldTree p h ts) t
      by_test d is true may = (
        MeantField p d h (set_on (inner_type d) (kept_all m ts (inner_type d))),
        (
          ap (field_by p h ts) is ∙ ap (field_if p h ts d) may,
          ap (FieldTree p h) (deeper (inner_type d) (λ f x. sound f (x.0, (x.1.0, (rule.in_field t p h ts ss d is may x.1.1.0, x.1.1.1))))),
        ),
      )
      by_test d is false may = absurd (not-left (FieldTree p h ts) ss t sound (ap (field_by p h ts) is ∙ ap (field_if p h ts d) may))

      by : (o : Option Definition) → m.field t h.name.it ≡ o → IsWhole (FieldTree p h ts) t
      by None is = absurd (not-left (FieldTree p h ts) ss t sound (ap (field_by p h ts) is))
      by (Some d) is = by_test d is (may_select m (inner_type d) ts) refl

  -- what is kept of an inline fragment on this condition if that is there
  abbrev inline_if : P → Text P → Directives P → SelectionTrees P → Bool → List (MeantSelection P)
  inline_if p c ds ts b = if b then MeantInline p (Some c) ds (set_on c.it (kept_all m ts c.it)) ∷ [] else []

  condition-whole : (p : P) (c : Text P) (ds : Directives P) (ts ss : SelectionTrees P) (t : List ℕ) → Sound t (selection_then (InlineTree p (Some c) ds ts) ss)
      → (Sound c.it ts → written_selections (members (kept_all m ts c.it)) ≡ ts) → IsWhole (InlineTree p (Some c) ds ts) t
  condition-whole p c ds ts ss t sound deeper = by (m.has_type c.it) refl
    where
      by : (b : Bool) → m.has_type c.it ≡ b → IsWhole (InlineTree p (Some c) ds ts) t
      by true is = (
        MeantInline p (Some c) ds (set_on c.it (kept_all m ts c.it)),
        (
          ap (inline_if p c ds ts) is,
          ap (InlineTree p (Some c) ds) (deeper (λ f x. sound f (x.0, (x.1.0, (rule.in_condition t p c ds ts ss is x.1.1.0, x.1.1.1))))),
        ),
      )
      by false is = absurd (not-left (InlineTree p (Some c) ds ts) ss t sound (ap (inline_if p c ds ts) is))

  mutual
    first-whole : (s : SelectionTree P) (ss : SelectionTrees P) (t : List ℕ) → Sound t (selection_then s ss) → IsWhole s t
    first-whole (FieldTree p h ts) ss t sound = field-whole p h ts ss t sound (λ u. whole-set ts u)
    first-whole (SpreadTree p n ds) ss t sound = (MeantSpread p n ds, (refl, refl))
    first-whole (InlineTree p None ds ts) ss t sound = (
      MeantInline p None ds (set_on t (kept_all m ts t)),
      (
        refl,
        ap (InlineTree p None ds) (whole-set ts t (λ f x. sound f (x.0, (x.1.0, (rule.in_fragment t p ds ts ss x.1.1.0, x.1.1.1))))),
      ),
    )
    first-whole (InlineTree p (Some c) ds ts) ss t sound = condition-whole p c ds ts ss t sound (λ x. whole-set ts c.it x)

    -- a set of which nothing breaks a rule is kept whole
    pub whole-set : (ts : SelectionTrees P) (t : List ℕ) → Sound t ts → written_selections (members (kept_all m ts t)) ≡ ts
    whole-set no_selections t sound = refl
    whole-set (selection_then s ss) t sound =
        with-rest s ss t (first-whole s ss t sound) (whole-set ss t (λ f x. sound f (x.0, (x.1.0, (rule.later t s ss x.1.1.0, x.1.1.1)))))

-- ---- documents

module _ {P : Type 0} (m : Meanings) (ds : List (DefinitionTree P)) (sound : TypingRules m ds) where
  all-kept : (before : List (DefinitionTree P)) (d : DefinitionTree P) → StandsAfter ds before d → is_kept m before d ≡ true
  all-kept before d at = by (is_kept m before d) refl
    where
      by : (b : Bool) → is_kept m before d ≡ b → is_kept m before d ≡ true
      by true e = e
      by false e = let x = not-kept m ds before d at e in absurd (sound x.0 (rule.in_definition (before, (d, (at, x.1)))))

  abbrev written : Based P (OperationTree P) → DefinitionTree P
  written b = written_operation (meant_operation m b)

  abbrev fragment_written : Based P (FragmentTree P) → DefinitionTree P
  fragment_written b = written_fragment (meant_fragment m b)

  operation-whole : (p : P) (o : OperationTree P) (t : List ℕ) → Contains (kept_operations m ds) (based p t o) → written (based p t o) ≡ Operation p o
  operation-whole p o t c = ap (λ ts. Operation p (record o { selections = ts })) (whole-set m o.selections t (λ f x. sound f (rule.in_operation (based p t o) c x)))

  -- ---- an operation without a name

  abbrev anonymous_at : List (DefinitionTree P) → DefinitionTree P → List (Based P (OperationTree P))
  anonymous_at before d = if is_some (kept_anonymous m before) then [] else anonymous_here m d

  nameless-whole : (before : List (DefinitionTree P)) (p : P) (o : OperationTree P) → StandsAfter ds before (Operation p o) → (n : Bool) → is_none o.name ≡ n → (a : Bool) → is_some (kept_anonymous m before) ≡ a
      → (r : Option (List ℕ)) → m.root o.operation_type ≡ r → (is_some r && not (if n then a else has_name operation_name (text_or_empty o.name) (kept_named m before))) ≡ true
      → map written (if a then [] else (if n then option_to_list (option_map (λ t. based p t o) r) else [])) ≡ (if n then Operation p o ∷ [] else [])
  nameless-whole before p o at false kn true ka r kr k = refl
  nameless-whole before p o at false kn false ka r kr k = refl
  nameless-whole before p o at true kn a ka None kr k = absurd (true≢false (sym k))
  nameless-whole before p o at true kn true ka (Some t) kr k = absurd (true≢false (sym k))
  nameless-whole before p o at true kn false ka (Some t) kr k =
      let here : anonymous_here m (Operation p o) ≡ based p t o ∷ [] = λ i. if kn i then option_to_list (option_map (λ t. based p t o) (kr i)) else [] in
      ap (λ d. d ∷ []) (operation-whole p o t (Contains-append_left (option_to_list (kept_anonymous m ds)) (kept_named m ds) (based p t o)
      (first-given (anonymous_here m) (one-anonymous m) ds before (Operation p o) (based p t o) at (subst (λ l. Contains l (based p t o)) (sym here) (is_only (based p t o) (based p t o) refl)) ka)))

  anonymous-whole : (before : List (DefinitionTree P)) (d : DefinitionTree P) → StandsAfter ds before d → map written (anonymous_at before d) ≡ (if is_anonymous d then d ∷ [] else [])
  anonymous-whole before (Operation p o) at =
      nameless-whole before p o at (is_none o.name) refl (is_some (kept_anonymous m before)) refl (m.root o.operation_type) refl (all-kept before (Operation p o) at)
  anonymous-whole before d at = nothing-so written (is_some (kept_anonymous m before))

  -- ---- an operation of a name

  abbrev named_at : List (DefinitionTree P) → DefinitionTree P → List (Based P (OperationTree P))
  named_at before d = fresh (named_here m) operation_name (one-named m) before (named_here m d)

  called-whole : (before : List (DefinitionTree P)) (p : P) (o : OperationTree P) → StandsAfter ds before (Operation p o) → (n : Bool) → is_none o.name ≡ n → (c : Bool) → has_name operation_name (text_or_empty o.name) (kept_named m before) ≡ c
      → (r : Option (List ℕ)) → m.root o.operation_type ≡ r → (is_some r && not (if n then is_some (kept_anonymous m before) else c)) ≡ true
      → map written (fresh (named_here m) operation_name (one-named m) before (if n then [] else option_to_list (option_map (λ t. based p t o) r))) ≡ (if not n then Operation p o ∷ [] else [])
  called-whole before p o at true kn c kc r kr k = refl
  called-whole before p o at false kn c kc None kr k = absurd (true≢false (sym k))
  called-whole before p o at false kn true kc (Some t) kr k = absurd (true≢false (sym k))
  called-whole before p o at false kn false kc (Some t) kr k =
      let here : named_here m (Operation p o) ≡ based p t o ∷ [] = λ i. if kn i then [] else option_to_list (option_map (λ t. based p t o) (kr i)) in
      ap (λ b. map written (if b then [] else based p t o ∷ [])) kc
      ∙ ap (λ d. d ∷ []) (operation-whole p o t (Contains-append_right (option_to_list (kept_anonymous m ds)) (kept_named m ds) (based p t o)
      (kept-given (named_here m) operation_name (one-named m) ds before (Operation p o) (based p t o) at here kc)))

  named-whole : (before : List (DefinitionTree P)) (d : DefinitionTree P) → StandsAfter ds before d → map written (named_at before d) ≡ (if is_named_operation d then d ∷ [] else [])
  named-whole before (Operation p o) at =
      called-whole before p o at (is_none o.name) refl (has_name operation_name (text_or_empty o.name) (kept_named m before)) refl (m.root o.operation_type) refl (all-kept before (Operation p o) at)
  named-whole before d at = refl

  -- ---- a fragment

  abbrev fragment_at : List (DefinitionTree P) → DefinitionTree P → List (Based P (FragmentTree P))
  fragment_at before d = fresh (fragment_here m) fragment_name (one-fragment m) before (fragment_here m d)

  abbrev on_condition : P → FragmentTree P → Based P (FragmentTree P)
  on_condition p g = record { place = p; base = g.type_condition.it; it = g }

  conditioned-whole : (before : List (DefinitionTree P)) (p : P) (g : FragmentTree P) → StandsAfter ds before (Fragment p g) → (b : Bool) → m.has_type g.type_condition.it ≡ b
      → (c : Bool) → has_name fragment_name g.name.it (kept_fragments m before) ≡ c → (b && not c) ≡ true
      → map fragment_written (fresh (fragment_here m) fragment_name (one-fragment m) before (if b then on_condition p g ∷ [] else [])) ≡ Fragment p g ∷ []
  conditioned-whole before p g at false kb c kc k = absurd (true≢false (sym k))
  conditioned-whole before p g at true kb true kc k = absurd (true≢false (sym k))
  conditioned-whole before p g at true kb false kc k =
      let here : fragment_here m (Fragment p g) ≡ on_condition p g ∷ [] = λ i. if kb i then on_condition p g ∷ [] else [] in
      let stands : Contains (kept_fragments m ds) (on_condition p g) = kept-given (fragment_here m) fragment_name (one-fragment m) ds before (Fragment p g) (on_condition p g) at here kc in
      ap (λ b. map fragment_written (if b then [] else on_condition p g ∷ [])) kc
      ∙ ap (λ ts. Fragment p (record g { selections = ts }) ∷ []) (whole-set m g.selections g.type_condition.it (λ f x. sound f (rule.in_named_fragment (on_condition p g) stands x)))

  fragment-whole : (before : List (DefinitionTree P)) (d : DefinitionTree P) → StandsAfter ds before d → map fragment_written (fragment_at before d) ≡ (if is_fragment_definition d then d ∷ [] else [])
  fragment-whole before (Fragment p g) at =
      conditioned-whole before p g at (m.has_type g.type_condition.it) refl (has_name fragment_name g.name.it (kept_fragments m before)) refl (all-kept before (Fragment p g) at)
  fragment-whole before d at = refl

  -- what is kept of the document is written as all of it
  pub document-whole : written_document (kept_document m ds) ≡ out_doc ds
  document-whole =
      let anonymous : map written_operation (option_to_list (option_map (meant_operation m) (kept_anonymous m ds))) ≡ filter is_anonymous ds =
      map-option written_operation (meant_operation m) (kept_anonymous m ds)
      ∙ ap (map written) (first-places (anonymous_here m) (one-anonymous m) ds)
      ∙ places-filter anonymous_at written is_anonymous ds anonymous-whole in
      let named : map (λ e. written_operation e.1) (map (named_entry m) (kept_named m ds)) ≡ filter is_named_operation ds =
      map-map (λ e. written_operation e.1) (named_entry m) (kept_named m ds)
      ∙ ap (map written) (kept-places (named_here m) operation_name (one-named m) ds)
      ∙ places-filter named_at written is_named_operation ds named-whole in
      let fragments : map (λ e. written_fragment e.1) (map (fragment_entry m) (kept_fragments m ds)) ≡ filter is_fragment_definition ds =
      map-map (λ e. written_fragment e.1) (fragment_entry m) (kept_fragments m ds)
      ∙ ap (map fragment_written) (kept-places (fragment_here m) fragment_name (one-fragment m) ds)
      ∙ places-filter fragment_at fragment_written is_fragment_definition ds fragment-whole in
      λ i. anonymous i ++ named i ++ fragments i
