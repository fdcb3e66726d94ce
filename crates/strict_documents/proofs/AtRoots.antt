-- What a set reaches through fragments alone, by its typed selections, is what is at the root of what these mean.
use Rattle.std.proofs.Common.{◌≡◌, ◌↔◌, ◌∙◌, ℕ, Bool, List, [], ◌∷◌, map, true, false, refl, ap, sym, subst, inl, inr, Contains, true≢false}
use Rattle.std.specs.Prelude.{Option, Some, None, is_some, option_map, find, cond}
use Rattle.std.specs.List.{flat_map}
use Rattle.std.specs.Str.{bytes_eq}
use Rattle.graphql_names.specs.Node.{content}
use Rattle.graphql_names.specs.NameValue.{NameValue}
use Rattle.graphql_names.specs.Placed.{Placed, Place, node_tree}
use Rattle.graphql_names.specs.declared.node.Node.{Node}
use Rattle.tree_directives.specs.declared.operation_type.OperationType.TheVariants as operation
use Rattle.schema_components.specs.Names.{Entries, entries_of}
use Rattle.schema_components.proofs.Places.{not_in_nil, only, is_only}
use Rattle.schema_types.specs.Addresses.{under}
use Rattle.schema_types.specs.SchemaTree.{SchemaTree}
use Rattle.schema_types.specs.TypeView.{name_text}
use Rattle.document_typed_selections.specs.TypedTree.{TypedSelection, TypedField, TypedSpread, TypedInline, TypedSet, typed_set_tree, set_type as typed_type}
use Rattle.document_typed_selections.specs.declared.selection.SelectionSet.{SelectionSet}
use Rattle.document_typed_selections.proofs.TypedTrees.{typed_set_tree_out}
use Rattle.document_typed_operations.specs.TypedDocument.{TypedFragment, typed_fragment_tree}
use Rattle.document_typed_operations.specs.DocumentView.{meant_by_fragment, document_meant, operation_meant}
use Rattle.document_typed_operations.specs.Reached.{NamedSet, Fragments, Member as TypedMember, own_selections, inner_sets, spread_names, fragment_named as set_named, ReachedSet, from_start, from_inner, from_spread, IsReached}
use Rattle.document_typed_operations.specs.WalkView.{fragments_tree}
use Rattle.document_typed_operations.specs.declared.document.ExecutableDocument.{ExecutableDocument}
use Rattle.document_typed_operations.specs.declared.operation.Fragment.{Fragment}
use Rattle.document_typed_operations.specs.declared.operation.Operation.{Operation}
use Rattle.document_typed_operations.proofs.Finding.{some_is}
use Rattle.document_typed_operations.proofs.WalkLaws.{from_one, to_all}
use Rattle.spec_document.specs.MeantTree.{MeantSelection, MeantFragment, MeantDocument, meant, meant_of_set}
use Rattle.rule_definitions.specs.Room.{◌⊕◌}
use Rattle.rule_document_definitions.specs.Selected.{Position, InOperation, InFragment, SelectionAt, Standing, standing_in, fragment_named, operation_name}
use Rattle.rule_document_definitions.specs.Reached.{Closed, first, next, InFragmentOf}
use Rattle.rule_reach.specs.Reach.{meant_fragments}
use Rattle.rule_reach.proofs.MeantStandings.{StandsFor, standing_at, from_standing, to_standing}
use Rattle.strict_documents.specs.DepartureViews.{departures_of}
use Rattle.strict_documents.specs.declared.departure.Departure.{Departure as Rust}
use Rattle.strict_documents.specs.Applying.{root_departures}
use Rattle.strict_documents.specs.DepartsIn.{set_type, DepartsAtRoot}
use Rattle.strict_documents.specs.Telling.{TellsRoots, AddsDepartures, roots_departures}
use Rattle.std.specs.Prelude.{Vec}
use Rattle.std.specs.declared.alloc.Global.{Global}

none_is : {A B : Type 0} (a : A) → None ≡ Some a → B
none_is a h = absurd (true≢false (sym (ap is_some h)))

find-map : {A B : Type 0} (f : A → B) (p : B → Bool) (xs : List A) → find p (map f xs) ≡ option_map f (find (λ x. p (f x)) xs)
find-map f p [] = refl
find-map f p (x ∷ xs) = by (p (f x)) (find-map f p xs)
  where
    by : (b : Bool) → find p (map f xs) ≡ option_map f (find (λ x. p (f x)) xs) → cond b (Some (f x)) (find p (map f xs)) ≡ option_map f (cond b (Some x) (find (λ x. p (f x)) xs))
    by true rest = refl
    by false rest = rest

option_map-twice : {A B C : Type 0} (g : B → C) (f : A → B) (o : Option A) → option_map g (option_map f o) ≡ option_map (λ x. g (f x)) o
option_map-twice g f None = refl
option_map-twice g f (Some x) = refl

map-twice : {A B C : Type 0} (g : B → C) (f : A → B) (xs : List A) → map g (map f xs) ≡ map (λ x. g (f x)) xs
map-twice g f [] = refl
map-twice g f (x ∷ xs) = ap (λ l. g (f x) ∷ l) (map-twice g f xs)

module _ {P : Type 0} (d : MeantDocument P) (es : Entries (Placed P (TypedFragment P))) (same : d.fragments ≡ map (λ e. (e.0, meant_by_fragment e.1)) es) where
  -- ---- fragments by name

  abbrev sets : Fragments P
  sets = map (λ e. (e.0, e.1.it.set)) es

  abbrev found : List ℕ → Option (List ℕ × Placed P (TypedFragment P))
  found n = find (λ e. bytes_eq n e.0) es

  set_found : (n : List ℕ) → set_named sets n ≡ option_map (λ e. (e.0, e.1.it.set)) (found n)
  set_found n = find-map (λ (e : List ℕ × Placed P (TypedFragment P)). (e.0, e.1.it.set)) (λ f. bytes_eq n f.0) es

  fragment_found : (n : List ℕ) → fragment_named d n ≡ option_map (λ e. meant_by_fragment e.1) (found n)
  fragment_found n =
      ap (under n) same
      ∙ ap (option_map (λ e. e.1)) (find-map (λ (e : List ℕ × Placed P (TypedFragment P)). (e.0, meant_by_fragment e.1)) (λ f. bytes_eq n f.0) es)
      ∙ option_map-twice (λ e. e.1) (λ (e : List ℕ × Placed P (TypedFragment P)). (e.0, meant_by_fragment e.1)) (found n)

  fragment_of_set : (n : List ℕ) (g : NamedSet P) → set_named sets n ≡ Some g → (f : MeantFragment P) × ((fragment_named d n ≡ Some f) × (f.set ≡ meant_of_set g.1))
  fragment_of_set n g h = by (found n) refl
    where
      by : (o : Option (List ℕ × Placed P (TypedFragment P))) → found n ≡ o → (f : MeantFragment P) × ((fragment_named d n ≡ Some f) × (f.set ≡ meant_of_set g.1))
      by None is = none_is g (sym (set_found n ∙ ap (option_map (λ e. (e.0, e.1.it.set))) is) ∙ h)
      by (Some e) is = (
        meant_by_fragment e.1,
        (
          fragment_found n ∙ ap (option_map (λ e. meant_by_fragment e.1)) is,
          ap (λ (v : NamedSet P). meant_of_set v.1) (some_is (e.0, e.1.it.set) g (sym (set_found n ∙ ap (option_map (λ e. (e.0, e.1.it.set))) is) ∙ h)),
        ),
      )

  set_of_fragment : (n : List ℕ) (f : MeantFragment P) → fragment_named d n ≡ Some f → (g : NamedSet P) × ((set_named sets n ≡ Some g) × (f.set ≡ meant_of_set g.1))
  set_of_fragment n f h = by (found n) refl
    where
      by : (o : Option (List ℕ × Placed P (TypedFragment P))) → found n ≡ o → (g : NamedSet P) × ((set_named sets n ≡ Some g) × (f.set ≡ meant_of_set g.1))
      by None is = none_is f (sym (fragment_found n ∙ ap (option_map (λ e. meant_by_fragment e.1)) is) ∙ h)
      by (Some e) is = (
        (e.0, e.1.it.set),
        (
          set_found n ∙ ap (option_map (λ e. (e.0, e.1.it.set))) is,
          ap (λ (v : MeantFragment P). v.set) (some_is f (meant_by_fragment e.1) (sym h ∙ fragment_found n ∙ ap (option_map (λ e. meant_by_fragment e.1)) is)),
        ),
      )

  module _ (holder : Position) (start : TypedSet P) where
    abbrev IsAtRoot : Standing P → Type 0
    IsAtRoot = Closed (Contains (standing_in holder (meant_of_set start))) (InFragmentOf d)

    -- ---- from typed sets to where they stand

    -- somewhere all selections of what the set means are at the root
    abbrev IsAllThere : TypedSet P → Type 0
    IsAllThere t = (q : Position) × ((x : Standing P) → Contains (standing_in q (meant_of_set t)) x → IsAtRoot x)

    -- so are those of an inline fragment among them, and of what one of them spreads
    all_inside : (t u : TypedSet P) (s : TypedSelection P) → IsAllThere u → Contains (own_selections u) s → Contains (inner_sets false s) t → IsAllThere t
    all_inside t u (TypedField p df h v) above own inner = absurd (not_in_nil t inner)
    all_inside t u (TypedSpread p n ds) above own inner = absurd (not_in_nil t inner)
    all_inside t u (TypedInline p c ds v) (q, above) own inner =
        let s = TypedInline p c ds v in
        let at = to_standing q u s own in
        let here = above (standing_at q (typed_type u).it at.0 s) at.1 in
        subst IsAllThere (sym (only v t inner)) (SelectionAt q at.0, λ y k. next here (inl k))

    all_spread : (u : TypedSet P) (s : TypedSelection P) (n : List ℕ) (g : NamedSet P) → IsAllThere u → Contains (own_selections u) s → Contains (spread_names s) n → set_named sets n ≡ Some g → IsAllThere g.1
    all_spread u (TypedField p df h v) n g above own spread is = absurd (not_in_nil n spread)
    all_spread u (TypedSpread p m ds) n g (q, above) own spread is =
        let s = TypedSpread p m ds in
        let at = to_standing q u s own in
        let here = above (standing_at q (typed_type u).it at.0 s) at.1 in
        let f = fragment_of_set n g is in
        (InFragment f.0.name.it, λ y c. next here (inr (m.it, (refl, (f.0, (ap (fragment_named d) (sym (only m.it n spread)) ∙ f.1.0, subst (λ v. Contains (standing_in (InFragment f.0.name.it) v) y) (sym f.1.1) c))))))
    all_spread u (TypedInline p c ds v) n g above own spread is = absurd (not_in_nil n spread)

    all_there : (t : TypedSet P) → ReachedSet false sets start t → IsAllThere t
    all_there t from_start = (holder, λ x c. first c)
    all_there t (from_inner u s r own inner) = all_inside t u s (all_there u r) own inner
    all_there t (from_spread u s n m r own spread is) = all_spread u s n (m, t) (all_there u r) own spread is

    -- ---- from where selections stand to typed sets

    -- it is what a selection of a typed set that is reached means
    abbrev Comes : Standing P → Type 0
    Comes x = (t : TypedSet P) × (ReachedSet false sets start t × StandsFor t x)

    comes_next : (t : TypedSet P) (s : TypedSelection P) (q : Position) (n : List ℕ) (y : Standing P) → ReachedSet false sets start t → Contains (own_selections t) s → InFragmentOf d (record { position = q; parent = n; it = meant s }) y → Comes y
    comes_next t (TypedField p df h v) q n y r own (inl c) = absurd (not_in_nil y c)
    comes_next t (TypedField p df h v) q n y r own (inr (m, (is, k))) = none_is m is
    comes_next t (TypedSpread p m ds) q n y r own (inl c) = absurd (not_in_nil y c)
    comes_next t (TypedSpread p m ds) q n y r own (inr (k, (is, (f, (named, c))))) =
        let g = set_of_fragment k f named in (
          g.0.1,
          (
            from_spread t (TypedSpread p m ds) k g.0.0 r own (is_only m.it k (sym (some_is m.it k is))) g.1.0,
            from_standing (InFragment f.name.it) g.0.1 y (subst (λ v. Contains (standing_in (InFragment f.name.it) v) y) g.1.1 c),
          ),
        )
    comes_next t (TypedInline p co ds v) q n y r own (inl c) = (v, (from_inner t (TypedInline p co ds v) r own (is_only v v refl), from_standing q v y c))
    comes_next t (TypedInline p co ds v) q n y r own (inr (m, (is, k))) = none_is m is

    comes : (x : Standing P) → IsAtRoot x → Comes x
    comes x (first c) = (start, (from_start, from_standing holder start x c))
    comes y (next {x} r leads) =
        let before = comes x r in
        let s = before.1.1.0 in
        comes_next before.0 s x.position x.parent y before.1.0 before.1.1.1.0 (subst (λ (i : MeantSelection P). InFragmentOf d (record { position = x.position; parent = x.parent; it = i }) y) before.1.1.1.1.0 leads)

    -- ---- what is told of each

    -- a typed selection that is reached stands somewhere
    stands : (e : TypedMember P) → IsReached false sets start e → (x : Standing P) × (IsAtRoot x × (x.it ≡ meant e.1))
    stands e (t, (r, (is, own))) =
        let all = all_there t r in
        let at = to_standing all.0 t e.1 own in
        (standing_at all.0 (typed_type t).it at.0 e.1, (all.1 _ at.1, refl))

    roots_told : {B : Type 0} (tells : MeantSelection P → List B) (members : List (TypedMember P)) → ((e : TypedMember P) → Contains members e ↔ IsReached false sets start e)
        → (u : B) → Contains (flat_map (λ (e : TypedMember P). tells (meant e.1)) members) u ↔ ((x : Standing P) × (IsAtRoot x × Contains (tells x.it) u))
    roots_told tells members reached u = (
      λ c. let e = from_one (λ (e : TypedMember P). tells (meant e.1)) members u c in
          let x = stands e.0 ((reached e.0).0 e.1.0) in
          (x.0, (x.1.0, subst (λ i. Contains (tells i) u) (sym x.1.1) e.1.1)),
      λ h. let t = comes h.0 h.1.0 in
          let s = t.1.1.0 in
          let k = (reached (typed_type t.0, s)).1 (t.0, (t.1.0, (refl, t.1.1.1.0))) in
          to_all (λ (e : TypedMember P). tells (meant e.1)) members (typed_type t.0, s) u k (subst (λ i. Contains (tells i) u) t.1.1.1.1.0 h.1.1),
    )

-- the type of a set
set_on : (s : SelectionSet) → set_type (meant_of_set (typed_set_tree s)) ≡ s.ty.text
set_on s = ap (λ t. set_type (meant_of_set t)) (typed_set_tree_out s)

module _ (t : SchemaTree Place) (document : ExecutableDocument) (node : Node Operation) (old new : Vec Rust Global) where
  abbrev d : MeantDocument Place
  d = document_meant document

  abbrev set : SelectionSet
  set = (content node).selection_set

  sets_tree : map (λ e. (e.0, e.1.it.set)) (entries_of name_text (node_tree typed_fragment_tree) document.fragments) ≡ fragments_tree document.fragments
  sets_tree = map-twice (λ e. (e.0, e.1.it.set)) (λ (e : NameValue × Node Fragment). (e.0.text, node_tree typed_fragment_tree e.1)) document.fragments.entries

  -- what is told at the root of a subscription
  pub at_root : (operation_meant node).operation_type ≡ operation.Subscription → TellsRoots t (meant_fragments document.fragments) set.ty.text (fragments_tree document.fragments) (typed_set_tree set) old new
      → AddsDepartures old new (λ u. DepartsAtRoot t d u (operation_meant node))
  at_root kind (members, (reached, told)) =
      let tells = root_departures t d.fragments (set_type (operation_meant node).set) in
      let members_told = roots_told d (entries_of name_text (node_tree typed_fragment_tree) document.fragments) refl (InOperation (operation_name (operation_meant node))) (typed_set_tree set) tells members
      (subst (λ (fs : Fragments Place). (e : TypedMember Place) → Contains members e ↔ IsReached false fs (typed_set_tree set) e) (sym sets_tree) reached) in (
        flat_map (λ (e : TypedMember Place). tells (meant e.1)) members,
        (
          told ∙ ap (λ n. departures_of old ⊕ roots_departures t (meant_fragments document.fragments) n members) (sym (set_on set)),
          λ u. (λ c. (kind, (members_told u).0 c), λ h. (members_told u).1 h.1),
        ),
      )

  -- and at that of another operation
  pub no_root : ((operation_meant node).operation_type ≡ operation.Subscription → ⊥) → AddsDepartures old old (λ u. DepartsAtRoot t d u (operation_meant node))
  no_root other = ([], (refl, λ u. (λ c. absurd (not_in_nil u c), λ h. absurd (other h.0))))
