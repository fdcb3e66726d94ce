-- What rules on subscriptions and on `@defer` tell of a document without places.
use Rattle.std.proofs.Common.{◌≡◌, ◌≢◌, ◌↔◌, ◌⊎◌, ℕ, ◌<◌, Bool, true, false, cond, List, [], ◌∷◌, map, length, codes, slice_get, refl, sym, ap, subst, ◌∙◌, Option, None, Some, Contains, inl, inr}
use Rattle.std.specs.Option.{option_map, option_and_then}
use Rattle.std.specs.List.{filter, filter_map, flat_map, cons_option}
use Rattle.std.proofs.lemmas.List.{length-map}
use Rattle.std.proofs.lemmas.List.Elements.{Contains-append_right}
use Rattle.graphql_names.specs.Placed.{Placed, unplaced_text}
use Rattle.tree_literals.specs.ValueTree.{ValueTree, unplaced_value}
use Rattle.tree_literals.specs.ValueQueries.{variable_name, string_text, boolean_value}
use Rattle.tree_directives.specs.DirectiveTree.{DirectiveTree}
use Rattle.tree_directives.specs.DirectiveQueries.{given_value, directive_has_name}
use Rattle.fault_document_errors.specs.DocumentBreaches.{DocumentBreach, SubscriptionUsesMultipleFields, SubscriptionUsesIntrospection, SubscriptionUsesConditionalSelection, DuplicateDeferLabel}
use Rattle.spec_document.specs.MeantTree.{MeantOperation, MeantDocument}
use Rattle.spec_document.specs.Unplaced.{unplaced_meant, unplaced_operation, unplaced_document}
use Rattle.rule_cycle_search.specs.Paths.{HasNoRepeat}
use Rattle.rule_definitions.specs.Words.{AtSomeIndex, Repeats}
use Rattle.rule_definitions.specs.Names.{directive_name}
use Rattle.rule_definitions.proofs.Lists.{not_in_nil, Contains-cons, Contains-first, mapped_some, mapped_none, slice_get-map, index_given}
use Rattle.rule_document_definitions.specs.DocumentFaults.{Broken, broken}
use Rattle.rule_document_definitions.specs.FaultsUnplaced.{unplaced_breach, unplaced_broken}
use Rattle.rule_document_definitions.specs.Named.{FragmentsFoundByName}
use Rattle.rule_document_definitions.specs.Selected.{Standing, StandingField, as_field, own, field_name, operation_name, selection_directives, all_selections}
use Rattle.rule_document_definitions.specs.RootFields.{IsRootField, AreRootFields}
use Rattle.rule_document_definitions.specs.Subscriptions.{SubscriptionUsesMultipleFieldsAt, SubscriptionUsesIntrospectionAt, SubscriptionUsesConditionalSelectionAt, SubscriptionBreaks}
use Rattle.rule_document_definitions.specs.DeferUses.{defers, given_if, literal_if, MayBeLeftOut, labels, string_labels, IsConditional, ReachedAlways}
use Rattle.rule_document_definitions.specs.Defer.{DeferLabelMustNotBeVariableAt, DuplicateDeferLabelAt, DeferOnRootMutationOrSubscriptionFieldAt, DeferInSubscriptionMustBeConditionalAt, DeferBreaks}
use Rattle.rule_document_definitions.specs.DocumentRules.{DeferredBreaks}
use Rattle.rule_document_definitions.proofs.Unplaced.{contains_map, contains_unmap, closed_map, closed_unmap, unplaced_standing, unplaced_field, field_same, name_same, own_same, leads_map, leads_unmap}
use Rattle.rule_document_definitions.proofs.MergingUnplaced.{starts_map, starts_unmap}
use Rattle.rule_document_definitions.proofs.Moves.{same, both_ways, either_way, neither, equal_to, same_present, same_index, Moves, moves_fault, moves_either, moves_where, moves_among, moves_present, moves_index, moves_repeats}
use Rattle.rule_document_definitions.proofs.UnplacedValues.{bare_value, variable_same, string_same, boolean_same}
use Rattle.rule_document_definitions.proofs.UnplacedUses.{bare_directive, given_value_same}
use Rattle.rule_document_definitions.proofs.UnplacedReached.{flat_map_same, cons_option_same, all_selections_same, moves_root, moves_operation}
use Rattle.rule_document_definitions.proofs.UnplacedVariables.{directives_same}
use Rattle.rule_document_definitions.proofs.Positions.{one_field}

-- ---- lists

filter_same : {X Y : Type 0} (u : X → Y) (test : Y → Bool) (xs : List X) → filter test (map u xs) ≡ map u (filter (λ x. test (u x)) xs)
filter_same u test [] = refl
filter_same u test (x ∷ xs) = by (test (u x)) (filter_same u test xs)
  where
    by : (b : Bool) → filter test (map u xs) ≡ map u (filter (λ z. test (u z)) xs) → cond b (u x ∷ filter test (map u xs)) (filter test (map u xs)) ≡ map u (cond b (x ∷ filter (λ z. test (u z)) xs) (filter (λ z. test (u z)) xs))
    by true rest = ap (λ l. u x ∷ l) rest
    by false rest = rest

filter_map_same : {X Y V W : Type 0} (u : X → Y) (v : V → W) (f : X → Option V) (g : Y → Option W) → ((x : X) → g (u x) ≡ option_map v (f x)) → (xs : List X) → filter_map g (map u xs) ≡ map v (filter_map f xs)
filter_map_same u v f g each [] = refl
filter_map_same u v f g each (x ∷ xs) =
    ap (λ l. cons_option (g (u x)) l) (filter_map_same u v f g each xs) ∙ ap (λ o. cons_option o (map v (filter_map f xs))) (each x) ∙ cons_option_same v (f x) (filter_map f xs)

module _ {X Y : Type 0} (u : X → Y) where
  -- nothing stands twice where u keeps apart what stands there
  no_repeat_on : (xs : List X) → ((x y : X) → Contains xs x → Contains xs y → u x ≡ u y → x ≡ y) → HasNoRepeat xs → HasNoRepeat (map u xs)
  no_repeat_on xs apart none i j y e k =
      let a = mapped_some u (slice_get xs i) y (sym (slice_get-map u xs i) ∙ e) in
      let b = mapped_some u (slice_get xs j) y (sym (slice_get-map u xs j) ∙ k) in
      let one : a.0 ≡ b.0 = apart a.0 b.0 (index_given xs i a.0 a.1.0) (index_given xs j b.0 b.1.0) (sym a.1.1 ∙ b.1.1) in
      none i j a.0 a.1.0 (b.1.0 ∙ ap Some (sym one))

  no_repeat_back : (xs : List X) → HasNoRepeat (map u xs) → HasNoRepeat xs
  no_repeat_back xs none i j x e k = none i j (u x) (slice_get-map u xs i ∙ ap (option_map u) e) (slice_get-map u xs j ∙ ap (option_map u) k)

  -- each of a list comes from something
  lifted : (In : X → Type 0) (Out : Y → Type 0) → ((y : Y) → Out y → (x : X) × (In x × (u x ≡ y))) → (ys : List Y) → ((y : Y) → Contains ys y → Out y) → (xs : List X) × (((x : X) → Contains xs x → In x) × (map u xs ≡ ys))
  lifted In Out back [] out = ([], ((λ x c. not_in_nil x c), refl))
  lifted In Out back (y ∷ ys) out =
      let a = back y (out y (Contains-first y ys y refl)) in
      let b = lifted In Out back ys (λ z c. out z (Contains-append_right (y ∷ []) ys z c)) in
      (a.0 ∷ b.0, ((λ x c. elim (Contains-cons a.0 b.0 x c) [ inl e ↦ subst In e a.1.0 | inr r ↦ b.1.0 x r ]), ap (λ l. u a.0 ∷ l) b.1.1 ∙ ap (λ v. v ∷ ys) a.1.1))

-- ---- subscriptions

module _ {P : Type 0} where
  abbrev pub Told : Broken P → Broken (Unit {0}) → Type 0
  Told g f = f ≡ unplaced_broken g

  pub moves_broken : (place : P) (b : DocumentBreach P) (c : DocumentBreach (Unit {0})) → unplaced_breach b ≡ c → Moves Told (λ g. g ≡ broken place b) (λ f. f ≡ broken tt c)
  moves_broken place b c e = moves_fault unplaced_broken (broken place b) (broken tt c) (ap (λ x. broken tt x) e)

  name_of : (o : MeantOperation P) → operation_name (unplaced_operation o) ≡ operation_name o
  name_of o = name_same o.name

module _ {P : Type 0} (d : MeantDocument P) (o : MeantOperation P) where
  module _ (named : FragmentsFoundByName d) where
    -- root fields that are equal without places are one
    apart : (f g : StandingField P) → IsRootField d o f → IsRootField d o g → unplaced_field f ≡ unplaced_field g → f ≡ g
    apart f g a b e = one_field d o named f g a b (ap (λ (v : StandingField (Unit {0})). v.position) e)

    root_fields_on : (fs : List (StandingField P)) → AreRootFields d o fs → AreRootFields (unplaced_document d) (unplaced_operation o) (map unplaced_field fs)
    root_fields_on fs all = (
      no_repeat_on unplaced_field fs (λ f g a b e. apart f g ((all.1 f).0 a) ((all.1 g).0 b) e) all.0,
      λ y. (
        λ c. let f = contains_unmap unplaced_field fs y c in subst (IsRootField (unplaced_document d) (unplaced_operation o)) f.1.1 (starts_map d o f.0 ((all.1 f.0).0 f.1.0)),
        λ r. let f = starts_unmap d o y r in subst (Contains (map unplaced_field fs)) f.1.1 (contains_map unplaced_field fs f.0 ((all.1 f.0).1 f.1.0)),
      ),
    )

    root_fields_back : (ys : List (StandingField (Unit {0}))) → AreRootFields (unplaced_document d) (unplaced_operation o) ys → (fs : List (StandingField P)) × (AreRootFields d o fs × (map unplaced_field fs ≡ ys))
    root_fields_back ys all =
        let l = lifted unplaced_field (IsRootField d o) (IsRootField (unplaced_document d) (unplaced_operation o)) (starts_unmap d o) ys (λ y c. (all.1 y).0 c) in (
          l.0,
          (
            (
              no_repeat_back unplaced_field l.0 (subst HasNoRepeat (sym l.1.1) all.0),
              λ f. (
                λ c. l.1.0 f c,
                λ r.
                    let g = contains_unmap unplaced_field l.0 (unplaced_field f) (subst (λ k. Contains k (unplaced_field f)) (sym l.1.1) ((all.1 (unplaced_field f)).1 (starts_map d o f r))) in
                    subst (Contains l.0) (apart g.0 f (l.1.0 g.0 g.1.0) r g.1.1) g.1.0,
              ),
            ),
            l.1.1,
          ),
        )

    multiple_fields_bared : Moves Told (SubscriptionUsesMultipleFieldsAt d o) (SubscriptionUsesMultipleFieldsAt (unplaced_document d) (unplaced_operation o))
    multiple_fields_bared =
        moves_among Told (map unplaced_field) (AreRootFields d o) (AreRootFields (unplaced_document d) (unplaced_operation o)) root_fields_on root_fields_back _ _ (λ fs all.
        moves_where Told (along_length fs)
        (moves_broken o.place (SubscriptionUsesMultipleFields (operation_name o)) (SubscriptionUsesMultipleFields (operation_name (unplaced_operation o)))
        (ap SubscriptionUsesMultipleFields (sym (name_of o)))))
      where
        along_length : (fs : List (StandingField P)) → (1 < length fs) ↔ (1 < length (map unplaced_field fs))
        along_length fs = (subst (λ n. 1 < n) (sym (length-map fs unplaced_field)), subst (λ n. 1 < n) (length-map fs unplaced_field))

  introspection_bared : Moves Told (SubscriptionUsesIntrospectionAt d o) (SubscriptionUsesIntrospectionAt (unplaced_document d) (unplaced_operation o))
  introspection_bared =
      moves_among Told unplaced_field (IsRootField d o) (IsRootField (unplaced_document d) (unplaced_operation o)) (starts_map d o) (starts_unmap d o) _ _ (λ f r.
      moves_where Told same
      (moves_broken f.place (SubscriptionUsesIntrospection (operation_name o) (field_name f)) (SubscriptionUsesIntrospection (operation_name (unplaced_operation o)) (field_name f))
      (ap (λ n. SubscriptionUsesIntrospection n (field_name f)) (sym (name_of o)))))

  conditional_selection_bared : Moves Told (SubscriptionUsesConditionalSelectionAt d o) (SubscriptionUsesConditionalSelectionAt (unplaced_document d) (unplaced_operation o))
  conditional_selection_bared =
      moves_root Told d o _ _ (λ x.
      moves_index Told bare_directive (selection_directives x.it) (selection_directives (unplaced_meant x.it)) (directives_same x.it) _ _ (λ i e.
      moves_where Told same
      (moves_broken e.place (SubscriptionUsesConditionalSelection (operation_name o)) (SubscriptionUsesConditionalSelection (operation_name (unplaced_operation o)))
      (ap SubscriptionUsesConditionalSelection (sym (name_of o))))))

  pub subscription_bared : FragmentsFoundByName d → Moves Told (SubscriptionBreaks d o) (SubscriptionBreaks (unplaced_document d) (unplaced_operation o))
  subscription_bared named =
      moves_where Told same
      (moves_either Told (multiple_fields_bared named) (moves_either Told introspection_bared conditional_selection_bared))

-- ---- `@defer`

module _ {P : Type 0} where
  defers_same : (x : Standing P) → defers (unplaced_standing x) ≡ map bare_directive (defers x)
  defers_same x = ap (filter (directive_has_name (codes "defer"))) (directives_same x.it) ∙ filter_same bare_directive (directive_has_name (codes "defer")) (selection_directives x.it)

  given_if_same : (e : Placed P (DirectiveTree P)) → given_if (bare_directive e) ≡ option_map bare_value (given_if e)
  given_if_same e = given_value_same (codes "if") e.it.arguments

  literal_same : (e : Placed P (DirectiveTree P)) → literal_if (bare_directive e) ≡ literal_if e
  literal_same e = ap (λ o. option_and_then (λ (v : Placed (Unit {0}) (ValueTree (Unit {0}))). boolean_value v.it) o) (given_if_same e) ∙ of (given_if e)
    where
      of : (o : Option (Placed P (ValueTree P))) → option_and_then (λ v. boolean_value v.it) (option_map bare_value o) ≡ option_and_then (λ v. boolean_value v.it) o
      of None = refl
      of (Some v) = boolean_same v.it

  left_out_same : (x : Standing P) → MayBeLeftOut x ↔ MayBeLeftOut (unplaced_standing x)
  left_out_same x = subst (λ l. MayBeLeftOut x ↔ AtSomeIndex l (λ i e.
      ((directive_name e ≡ codes "skip") × (literal_if e ≢ Some false)) ⊎ ((directive_name e ≡ codes "include") × (literal_if e ≢ Some true)))) (sym (directives_same x.it))
      (same_index bare_directive (selection_directives x.it) _ _ (λ i e. either_way
      (both_ways same (neither (equal_to (Some false) (sym (literal_same e)))))
      (both_ways same (neither (equal_to (Some true) (sym (literal_same e)))))))

  conditional_same : (e : Placed P (DirectiveTree P)) → IsConditional e ↔ IsConditional (bare_directive e)
  conditional_same e = either_way (equal_to (Some false) (sym (literal_same e)))
      (same_present bare_value (given_if e) (given_if (bare_directive e)) (given_if_same e) _ _ (λ v.
      same_present unplaced_text (variable_name v.it) (variable_name (unplaced_value v.it)) (variable_same v.it) (λ n. Unit {0}) (λ n. Unit {0}) (λ n. same)))

  no_field_same : (x : Standing P) → (as_field x ≡ None) ↔ (as_field (unplaced_standing x) ≡ None)
  no_field_same x = (
    λ h. field_same x.position x.parent x.it ∙ ap (option_map unplaced_field) h,
    λ h. mapped_none unplaced_field (as_field x) (sym (field_same x.position x.parent x.it) ∙ h),
  )

module _ {P : Type 0} (d : MeantDocument P) where
  labels_same : labels (unplaced_document d) ≡ map bare_value (labels d)
  labels_same =
      ap (λ l. filter_map (λ (e : Placed (Unit {0}) (DirectiveTree (Unit {0}))). given_value (codes "label") e.it.arguments) l)
      (ap (flat_map defers) (all_selections_same d) ∙ flat_map_same unplaced_standing bare_directive defers defers defers_same (all_selections d))
      ∙ filter_map_same bare_directive bare_value (λ e. given_value (codes "label") e.it.arguments) (λ e. given_value (codes "label") e.it.arguments)
      (λ e. given_value_same (codes "label") e.it.arguments) (flat_map defers (all_selections d))

  string_labels_same : string_labels (unplaced_document d) ≡ map unplaced_text (string_labels d)
  string_labels_same =
      ap (λ l. filter_map (λ (v : Placed (Unit {0}) (ValueTree (Unit {0}))). option_map (λ t. record { it = t; place = v.place }) (string_text v.it)) l) labels_same
      ∙ filter_map_same bare_value unplaced_text (λ v. option_map (λ t. record { it = t; place = v.place }) (string_text v.it)) (λ v. option_map (λ t. record { it = t; place = v.place }) (string_text v.it))
      (λ v. ap (option_map (λ (t : List ℕ). record { it = t; place = tt })) (string_same v.it) ∙ of v (string_text v.it)) (labels d)
    where
      of : (v : Placed P (ValueTree P)) (o : Option (List ℕ)) → option_map (λ t. record { it = t; place = tt }) o ≡ option_map unplaced_text (option_map (λ t. record { it = t; place = v.place }) o)
      of v None = refl
      of v (Some t) = refl

  label_variable_bared : Moves Told (DeferLabelMustNotBeVariableAt d) (DeferLabelMustNotBeVariableAt (unplaced_document d))
  label_variable_bared =
      moves_index Told bare_value (labels d) (labels (unplaced_document d)) labels_same _ _ (λ i v.
      moves_present Told unplaced_text (variable_name v.it) (variable_name (unplaced_value v.it)) (variable_same v.it) _ _ (λ n.
      moves_broken v.place _ _ refl))

  duplicate_label_bared : Moves Told (DuplicateDeferLabelAt d) (DuplicateDeferLabelAt (unplaced_document d))
  duplicate_label_bared =
      subst (λ l. Moves Told (DuplicateDeferLabelAt d) (λ f. Repeats (λ t. t.it) l (λ i first j later. f ≡ broken later.place (DuplicateDeferLabel later.it first.place)))) (sym string_labels_same)
      (moves_repeats Told unplaced_text (λ t. t.it) (string_labels d)
      (λ i first j later g. g ≡ broken later.place (DuplicateDeferLabel later.it first.place))
      (λ i first j later f. f ≡ broken later.place (DuplicateDeferLabel later.it first.place))
      (λ i first j later. moves_broken later.place (DuplicateDeferLabel later.it first.place) (DuplicateDeferLabel later.it tt) refl))

  module _ (o : MeantOperation P) where
    always_without_places : (x : Standing P) → ReachedAlways d o x → ReachedAlways (unplaced_document d) (unplaced_operation o) (unplaced_standing x)
    always_without_places x r = closed_map unplaced_standing
        (λ z h. (subst (λ l. Contains l (unplaced_standing z)) (sym (own_same o)) (contains_map unplaced_standing (own o) z h.0), (neither (left_out_same z)).0 h.1))
        (λ y z l. (leads_map d y z l.0, (neither (left_out_same z)).0 l.1)) x r

    always_with_places : (y : Standing (Unit {0})) → ReachedAlways (unplaced_document d) (unplaced_operation o) y → (x : Standing P) × (ReachedAlways d o x × (unplaced_standing x ≡ y))
    always_with_places y r = closed_unmap unplaced_standing
        (λ w h. let z = contains_unmap unplaced_standing (own o) w (subst (λ l. Contains l w) (own_same o) h.0) in
        (z.0, ((z.1.0, (neither (left_out_same z.0)).1 (subst (λ v. MayBeLeftOut v → ⊥) (sym z.1.1) h.1)), z.1.1)))
        (λ x w l. let z = leads_unmap d x w l.0 in
        (z.0, ((z.1.0, (neither (left_out_same z.0)).1 (subst (λ v. MayBeLeftOut v → ⊥) (sym z.1.1) l.1)), z.1.1))) y r

    at_root_bared : Moves Told (DeferOnRootMutationOrSubscriptionFieldAt d o) (DeferOnRootMutationOrSubscriptionFieldAt (unplaced_document d) (unplaced_operation o))
    at_root_bared =
        moves_where Told same
        (moves_root Told d o _ _ (λ x. moves_where Told (no_field_same x)
        (moves_index Told bare_directive (defers x) (defers (unplaced_standing x)) (defers_same x) _ _ (λ i e. moves_broken e.place _ _ refl))))

    in_subscription_bared : Moves Told (DeferInSubscriptionMustBeConditionalAt d o) (DeferInSubscriptionMustBeConditionalAt (unplaced_document d) (unplaced_operation o))
    in_subscription_bared =
        moves_where Told same
        (moves_among Told unplaced_standing (ReachedAlways d o) (ReachedAlways (unplaced_document d) (unplaced_operation o)) always_without_places always_with_places _ _ (λ x r.
        moves_index Told bare_directive (defers x) (defers (unplaced_standing x)) (defers_same x) _ _ (λ i e.
        moves_where Told (neither (conditional_same e)) (moves_broken e.place _ _ refl))))

  pub deferred_bared : Moves Told (DeferredBreaks d) (DeferredBreaks (unplaced_document d))
  deferred_bared =
      moves_either Told
      (moves_operation Told d (λ o g. DeferBreaks d o g) (λ o f. DeferBreaks (unplaced_document d) o f) (λ o. moves_either Told (at_root_bared o) (in_subscription_bared o)))
      (moves_either Told label_variable_bared duplicate_label_bared)
