-- What is told of the selections at the root of a subscription is what breaks its rules.
use Rattle.std.proofs.Common.{◌≡◌, ◌↔◌, ◌⊎◌, ℕ, zero, suc, ◌<◌, false, ◌+◌, List, [], ◌∷◌, ◌++◌, map, length, codes, bytes_eq, Some, option_to_list, length-append, refl, sym, ap, subst, ◌∙◌, inl, inr, arith, true≢false, is_some, Contains}
use Rattle.std.specs.List.{flat_map, list_any}
use Rattle.std.proofs.lemmas.Option.{same_Some}
use Rattle.std.proofs.lemmas.List.{map-append}
use Rattle.std.proofs.lemmas.List.Elements.{Contains-append_left, Contains-append_right, Contains-append_cases}
use Rattle.graphql_names.specs.Placed.{Placed}
use Rattle.tree_directives.specs.DirectiveTree.{DirectiveTree}
use Rattle.tree_directives.specs.declared.operation_type.OperationType.TheVariants as operation
use Rattle.rule_cycle_search.specs.Paths.{HasNoRepeat}
use Rattle.rule_cycle_search.proofs.Lists.{not_in_nil, Contains-cons, Contains-first, only, is_only, found_in, given_in, index_given}
use Rattle.spec_document.specs.MeantTree.{MeantSelection, MeantField, MeantSpread, MeantInline, MeantOperation, MeantDocument}
use Rattle.fault_document_errors.specs.DocumentBreaches.{SubscriptionUsesMultipleFields, SubscriptionUsesIntrospection, SubscriptionUsesConditionalSelection}
use Rattle.rule_definitions.specs.Names.{directive_name}
use Rattle.rule_document_definitions.specs.DocumentFaults.{Broken, broken}
use Rattle.rule_document_definitions.specs.Selected.{Position, Standing, StandingField, as_field, field_there, field_name, operation_name, selection_directives}
use Rattle.rule_document_definitions.specs.Reached.{AtRoot}
use Rattle.rule_document_definitions.specs.RootFields.{meta_field_names, IsRootField, AreRootFields}
use Rattle.rule_document_definitions.specs.Subscriptions.{SubscriptionUsesMultipleFieldsAt, SubscriptionUsesIntrospectionAt, SubscriptionUsesConditionalSelectionAt, SubscriptionBreaks}
use Rattle.rule_fragments.specs.Used.{AreUnderOwnNames}
use Rattle.rule_selection_queries.specs.Stays.{is_directive}
use Rattle.rule_fragments.specs.ListedBreaches.{fields_in, field_count, introspection, conditional, at_root}
use Rattle.rule_fragments.specs.Rooted.{Apart, AreRoots, HasSeveralFields}
use Rattle.rule_fragments.specs.Thinned.{MayReplace}
use Rattle.rule_selection_queries.proofs.Mapped.{in_mapped}
use Rattle.rule_selection_queries.proofs.Staying.{or_cases, or_left, or_right, named_so, so_named}
use Rattle.rule_selection_queries.proofs.Found.{name_here}
use Rattle.rule_fragments.proofs.Quiet.{name_back, roots_less, roots_more}
use Rattle.rule_fragments.proofs.Listing.{when_true, true_when, at_index, index_at, option_in, in_option, mapped_told, told_mapped}

-- ---- two of a list without repetition are two of any that has them

more_than_one : {X : Type 0} (fs gs : List X) → HasNoRepeat fs → 1 < length fs → ((x : X) → Contains fs x → Contains gs x) → 1 < length gs
more_than_one [] gs once more all = absurd (omega (arith, more))
more_than_one (a ∷ []) gs once more all = absurd (omega (arith, more))
more_than_one (a ∷ b ∷ fs) [] once more all = not_in_nil a (all a (Contains-first a (b ∷ fs) a refl))
more_than_one (a ∷ b ∷ fs) (g ∷ []) once more all =
    absurd (omega (
      arith,
      once 0 1 g (ap Some (only g a (all a (Contains-first a (b ∷ fs) a refl)))) (ap Some (only g b (all b (Contains-append_right (a ∷ []) (b ∷ fs) b (Contains-first b fs b refl))))),
    ))
more_than_one (a ∷ b ∷ fs) (g ∷ h ∷ gs) once more all = omega arith

-- ---- fields of selections

module _ {P : Type 0} where
  abbrev fields_of : List (Standing P) → List (StandingField P)
  fields_of xs = flat_map (λ x. option_to_list (as_field x)) xs

  abbrev places : List (Standing P) → List Position
  places xs = map (λ x. x.position) xs

  abbrev field_places : List (StandingField P) → List Position
  field_places fs = map (λ f. f.position) fs

  one_field : (at : Position) (t : List ℕ) (s : MeantSelection P) → length (option_to_list (field_there at t s)) ≡ fields_in s
  one_field at t (MeantField p d h s) = refl
  one_field at t (MeantSpread p n ds) = refl
  one_field at t (MeantInline p c ds s) = refl

  as_many : (xs : List (Standing P)) → length (fields_of xs) ≡ field_count (map (λ x. x.it) xs)
  as_many [] = refl
  as_many (x ∷ xs) = length-append (option_to_list (as_field x)) (fields_of xs) ∙ (λ k. one_field x.position x.parent x.it k + as_many xs k)

  -- ---- each field is at a place of its own

  one_place : (at : Position) (t : List ℕ) (s : MeantSelection P) (p : Position) → Contains (field_places (option_to_list (field_there at t s))) p → p ≡ at
  one_place at t (MeantField q d h s) p c = only at p c
  one_place at t (MeantSpread q n ds) p c = not_in_nil p c
  one_place at t (MeantInline q c' ds s) p c = not_in_nil p c

  place_of : (xs : List (Standing P)) (p : Position) → Contains (field_places (fields_of xs)) p → Contains (places xs) p
  place_of [] p c = not_in_nil p c
  place_of (x ∷ xs) p c = elim (Contains-append_cases (field_places (option_to_list (as_field x))) (field_places (fields_of xs)) p
      (subst (λ l. Contains l p) (map-append (λ (f : StandingField P). f.position) (option_to_list (as_field x)) (fields_of xs)) c)) [
        | inl a ↦ Contains-first x.position (places xs) p (sym (one_place x.position x.parent x.it p a))
        | inr b ↦ Contains-append_right (x.position ∷ []) (places xs) p (place_of xs p b)
      ]

  apart_one : (at : Position) (t : List ℕ) (s : MeantSelection P) (l : List (StandingField P)) → (Contains (field_places l) at → ⊥) → Apart (field_places l) → Apart (field_places (option_to_list (field_there at t s) ++ l))
  apart_one at t (MeantField p d h s) l never a = (never, a)
  apart_one at t (MeantSpread p n ds) l never a = a
  apart_one at t (MeantInline p c ds s) l never a = a

  apart_fields : (xs : List (Standing P)) → Apart (places xs) → Apart (field_places (fields_of xs))
  apart_fields [] a = tt
  apart_fields (x ∷ xs) a = apart_one x.position x.parent x.it (fields_of xs) (λ c. a.0 (place_of xs x.position c)) (apart_fields xs a.1)

  no_repeat : (fs : List (StandingField P)) → Apart (field_places fs) → HasNoRepeat fs
  no_repeat [] a i j x e q = absurd (true≢false (sym (ap is_some e)))
  no_repeat (f ∷ fs) a zero zero x e q = refl
  no_repeat (f ∷ fs) a zero (suc j) x e q = absurd (a.0 (subst (λ (g : StandingField P). Contains (field_places fs) g.position) (sym (same_Some _ _ e)) (in_mapped (λ (g : StandingField P). g.position) fs x (index_given fs j x q))))
  no_repeat (f ∷ fs) a (suc i) zero x e q = absurd (a.0 (subst (λ (g : StandingField P). Contains (field_places fs) g.position) (sym (same_Some _ _ q)) (in_mapped (λ (g : StandingField P). g.position) fs x (index_given fs i x e))))
  no_repeat (f ∷ fs) a (suc i) (suc j) x e q = ap suc (no_repeat fs a.1 i j x e q)

-- ---- the rules

module _ {P : Type 0} (d : MeantDocument P) (o : MeantOperation P) (xs : List (Standing P)) (roots : (x : Standing P) → Contains xs x ↔ AtRoot d o x) where
  root_field : (f : StandingField P) → Contains (fields_of xs) f → IsRootField d o f
  root_field f c =
      let x = found_in (λ (x : Standing P). option_to_list (as_field x)) f xs c in
      (x.0, ((roots x.0).0 x.1.0, option_in (as_field x.0) f x.1.1))

  field_root : (f : StandingField P) → IsRootField d o f → Contains (fields_of xs) f
  field_root f (x, (r, e)) = given_in (λ (x : Standing P). option_to_list (as_field x)) f xs x ((roots x).1 r) (in_option (as_field x) f e)

  root_fields : Apart (places xs) → AreRootFields d o (fields_of xs)
  root_fields a = (no_repeat (fields_of xs) (apart_fields xs a), (λ f. (root_field f, field_root f)))

  several : Apart (places xs) → 1 < field_count (map (λ x. x.it) xs) → HasSeveralFields d o
  several a more = (fields_of xs, (root_fields a, subst (λ n. 1 < n) (sym (as_many xs)) more))

  as_several : HasSeveralFields d o → 1 < field_count (map (λ x. x.it) xs)
  as_several (gs, (are, more)) = subst (λ n. 1 < n) (as_many xs) (more_than_one gs (fields_of xs) are.0 more (λ f c. field_root f ((are.1 f).0 c)))

  -- ---- meta-fields

  abbrev told_meta : StandingField P → Broken P
  told_meta f = broken f.place (SubscriptionUsesIntrospection (operation_name o) (field_name f))

  meta_there : (at : Position) (t : List ℕ) (s : MeantSelection P) (fault : Broken P) → Contains (introspection o s) fault
      → (f : StandingField P) × ((field_there at t s ≡ Some f) × (Contains meta_field_names (field_name f) × (fault ≡ told_meta f)))
  meta_there at t (MeantField p x h s) fault c =
      let q = when_true (list_any (bytes_eq h.name.it) meta_field_names) (broken p (SubscriptionUsesIntrospection (operation_name o) h.name.it)) fault c in
      (record { position = at; parent = t; place = p; definition = x; head = h; set = s }, (refl, (name_here h.name.it meta_field_names q.0, q.1)))
  meta_there at t (MeantSpread p n ds) fault c = not_in_nil fault c
  meta_there at t (MeantInline p x ds s) fault c = not_in_nil fault c

  there_meta : (at : Position) (t : List ℕ) (s : MeantSelection P) (fault : Broken P) (f : StandingField P) → field_there at t s ≡ Some f → Contains meta_field_names (field_name f) → fault ≡ told_meta f
      → Contains (introspection o s) fault
  there_meta at t (MeantField p x h s) fault f e m is =
      let g : StandingField P = record { position = at; parent = t; place = p; definition = x; head = h; set = s } in
      let same : g ≡ f = same_Some _ _ e in
      true_when (list_any (bytes_eq h.name.it) meta_field_names) (broken p (SubscriptionUsesIntrospection (operation_name o) h.name.it)) fault
      (name_back h.name.it meta_field_names (subst (λ (k : StandingField P). Contains meta_field_names (field_name k)) (sym same) m)) (is ∙ ap told_meta (sym same))
  there_meta at t (MeantSpread p n ds) fault f e m is = absurd (true≢false (sym (ap is_some e)))
  there_meta at t (MeantInline p x ds s) fault f e m is = absurd (true≢false (sym (ap is_some e)))

  -- ---- conditions

  abbrev told_condition : Placed P (DirectiveTree P) → Broken P
  told_condition e = broken e.place (SubscriptionUsesConditionalSelection (operation_name o))

  abbrev conditions : List (List ℕ)
  conditions = codes "skip" ∷ codes "include" ∷ []

  condition_there : (e : Placed P (DirectiveTree P)) (fault : Broken P) → Contains (conditional o e) fault → Contains conditions (directive_name e) × (fault ≡ told_condition e)
  condition_there e fault c =
      let p = when_true _ (told_condition e) fault c in (
        elim (or_cases (is_directive (codes "skip") e) (is_directive (codes "include") e) p.0) [
          | inl a ↦ Contains-first (codes "skip") (codes "include" ∷ []) (directive_name e) (sym (named_so (codes "skip") e a))
          | inr b ↦ Contains-append_right (codes "skip" ∷ []) (codes "include" ∷ []) (directive_name e) (Contains-first (codes "include") [] (directive_name e) (sym (named_so (codes "include") e b)))
        ],
        p.1,
      )

  there_condition : (e : Placed P (DirectiveTree P)) (fault : Broken P) → Contains conditions (directive_name e) → fault ≡ told_condition e → Contains (conditional o e) fault
  there_condition e fault c is = true_when _ (told_condition e) fault
      (elim (Contains-cons (codes "skip") (codes "include" ∷ []) (directive_name e) c) [
        | inl a ↦ or_left (is_directive (codes "skip") e) (is_directive (codes "include") e) (so_named (codes "skip") e (sym a))
        | inr b ↦ or_right (is_directive (codes "skip") e) (is_directive (codes "include") e) (so_named (codes "include") e (only (codes "include") (directive_name e) b))
      ]) is

  -- ---- all

  abbrev told_roots : List (Broken P)
  told_roots = flat_map (at_root o) (map (λ x. x.it) xs)

  root_told : (fault : Broken P) → Contains told_roots fault → SubscriptionUsesIntrospectionAt d o fault ⊎ SubscriptionUsesConditionalSelectionAt d o fault
  root_told fault c =
      let x = mapped_told (λ (x : Standing P). x.it) (at_root o) xs fault c in
      let r = (roots x.0).0 x.1.0 in
      elim (Contains-append_cases (introspection o x.0.it) (flat_map (conditional o) (selection_directives x.0.it)) fault x.1.1) [
        | inl a ↦ let f = meta_there x.0.position x.0.parent x.0.it fault a in inl (f.0, ((x.0, (r, f.1.0)), f.1.1))
        | inr b ↦ let e = at_index (conditional o) (selection_directives x.0.it) fault b in inr (x.0, (r, (e.0, (e.1.0, (e.1.1.0, condition_there e.1.0 fault e.1.1.1)))))
      ]

  meta_told : (fault : Broken P) → SubscriptionUsesIntrospectionAt d o fault → Contains told_roots fault
  meta_told fault (f, ((x, (r, e)), (m, is))) =
      told_mapped (λ (x : Standing P). x.it) (at_root o) xs fault x ((roots x).1 r)
      (Contains-append_left (introspection o x.it) (flat_map (conditional o) (selection_directives x.it)) fault (there_meta x.position x.parent x.it fault f e m is))

  condition_told : (fault : Broken P) → SubscriptionUsesConditionalSelectionAt d o fault → Contains told_roots fault
  condition_told fault (x, (r, (i, (e, (at, (m, is)))))) =
      told_mapped (λ (x : Standing P). x.it) (at_root o) xs fault x ((roots x).1 r)
      (Contains-append_right (introspection o x.it) (flat_map (conditional o) (selection_directives x.it)) fault (index_at (conditional o) (selection_directives x.it) fault i e at (there_condition e fault m is)))

-- ---- of selections that are those at the root

-- whether several of them are fields
pub several_fields : {P : Type 0} (d : MeantDocument P) (o : MeantOperation P) (ss : List (MeantSelection P)) → AreRoots d o ss → AreUnderOwnNames d → (1 < field_count ss) ↔ HasSeveralFields d o
several_fields d o ss (xs, (is, (roots, apart))) own = (
  (λ more. several d o xs roots (apart own) (subst (λ l. 1 < field_count l) (sym is) more)),
  (λ has. subst (λ l. 1 < field_count l) is (as_several d o xs roots has)),
)

module _ {P : Type 0} (d w : MeantDocument P) (in' : MayReplace false d.fragments w.fragments) (o : MeantOperation P) where
  -- what is told of them, where the fragments of `w` replace those of `d`
  roots_told : (ss : List (MeantSelection P)) → AreRoots w o ss → (fault : Broken P)
      → Contains (flat_map (at_root o) ss) fault ↔ (SubscriptionUsesIntrospectionAt d o fault ⊎ SubscriptionUsesConditionalSelectionAt d o fault)
  roots_told ss (xs, (is, (roots, apart))) fault = (
    (λ c. roots_more d w in' o fault (root_told w o xs roots fault (subst (λ l. Contains (flat_map (at_root o) l) fault) (sym is) c))),
    (λ breaks. subst (λ l. Contains (flat_map (at_root o) l) fault) is (elim (roots_less d w in' o fault breaks) [
      | inl m ↦ meta_told w o xs roots fault m
      | inr m ↦ condition_told w o xs roots fault m
    ])),
  )

  pub subscription_told : o.operation_type ≡ operation.Subscription → (ms : List (Broken P)) (ss : List (MeantSelection P)) → ((fault : Broken P) → Contains ms fault ↔ SubscriptionUsesMultipleFieldsAt d o fault) → AreRoots w o ss
      → (fault : Broken P) → Contains (ms ++ flat_map (at_root o) ss) fault ↔ SubscriptionBreaks d o fault
  subscription_told kind ms ss many roots fault = (
    (λ c. (
      kind,
      elim (Contains-append_cases ms (flat_map (at_root o) ss) fault c) [
        | inl l ↦ inl ((many fault).0 l)
        | inr r ↦ inr ((roots_told ss roots fault).0 r)
      ],
    )),
    (λ breaks. elim breaks.1 [
      | inl m ↦ Contains-append_left ms (flat_map (at_root o) ss) fault ((many fault).1 m)
      | inr m ↦ Contains-append_right ms (flat_map (at_root o) ss) fault ((roots_told ss roots fault).1 m)
    ]),
  )

-- no rule on subscriptions is on another operation
pub tells_nothing : {P : Type 0} (d : MeantDocument P) (o : MeantOperation P) → (o.operation_type ≡ operation.Subscription → ⊥) → (fault : Broken P) → Contains [] fault ↔ SubscriptionBreaks d o fault
tells_nothing d o other fault = ((λ c. not_in_nil fault c), (λ breaks. absurd (other breaks.0)))

-- ---- several fields

module _ {P : Type 0} (d : MeantDocument P) (o : MeantOperation P) where
  pub none_multiple : (HasSeveralFields d o → ⊥) → (fault : Broken P) → Contains [] fault ↔ SubscriptionUsesMultipleFieldsAt d o fault
  none_multiple never fault = ((λ c. not_in_nil fault c), (λ breaks. absurd (never (breaks.0, (breaks.1.0, breaks.1.1.0)))))

  pub one_multiple : HasSeveralFields d o → (told : Broken P) → told ≡ broken o.place (SubscriptionUsesMultipleFields (operation_name o)) → (fault : Broken P) → Contains (told ∷ []) fault ↔ SubscriptionUsesMultipleFieldsAt d o fault
  one_multiple (fs, (are, more)) told is fault = ((λ c. (fs, (are, (more, only told fault c ∙ is)))), (λ breaks. is_only told fault (breaks.1.1.1 ∙ sym is)))
