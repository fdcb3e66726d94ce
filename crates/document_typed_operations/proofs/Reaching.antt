-- A walk lends exactly the selections that are reached.
use Rattle.std.proofs.Common.{◌≡◌, ◌++◌, ◌↔◌, ◌⊎◌, inl, inr, Bool, true, false, ℕ, List, [], ◌∷◌, map, refl, ap, sym, ◌∙◌, subst, Contains}
use Rattle.std.specs.Prelude.{Some, if◌then◌else◌}
use Rattle.std.specs.List.{flat_map}
use Rattle.std.proofs.lemmas.List.Elements.{Contains-append_left, Contains-append_right, Contains-append_cases}
use Rattle.graphql_names.specs.Placed.{Text}
use Rattle.document_typed_selections.specs.TypedTree.{TypedSelection, TypedField, TypedSpread, TypedInline, TypedSet, typed_set, TypedSelections, no_typed, typed_then, set_type, typed_selections_list}
use Rattle.document_typed_operations.specs.Reached.{NamedSet, Fragments, Member, members_of, members_in, members_along, selections_in, own_selections, inner_sets, spread_names, Spreads, fragment_named, ReachedFragment, by_start, by_fragment, ReachedSet, from_start, from_inner, from_spread, IsReached, IsMemberWalk}
use Rattle.document_typed_operations.specs.Left.{bare_selections}
use Rattle.document_typed_operations.proofs.Finding.{not_in_nil, Contains-cons, Contains-first, Contains-rest}
use Rattle.document_typed_operations.proofs.Passing.{bare_in}
use Rattle.document_typed_operations.proofs.WalkLaws.{from_one, to_all}

-- each element of a mapped list comes from one of the list, and each of the list has its image there
from_map : {A B : Type 0} (f : A → B) (xs : List A) (y : B) → Contains (map f xs) y → (x : A) × (Contains xs x × (f x ≡ y))
from_map f [] y c = absurd (not_in_nil y c)
from_map f (x ∷ xs) y c = elim (Contains-cons (f x) (map f xs) y c) [
  | inl e ↦ (x, (Contains-first x xs x refl, e))
  | inr r ↦ let rest = from_map f xs y r in (rest.0, (Contains-rest x xs rest.0 rest.1.0, rest.1.1))
]

to_map : {A B : Type 0} (f : A → B) (xs : List A) (x : A) → Contains xs x → Contains (map f xs) (f x)
to_map f [] x c = absurd (not_in_nil x c)
to_map f (y ∷ xs) x c = elim (Contains-cons y xs x c) [
  | inl e ↦ Contains-first (f y) (map f xs) (f x) (ap f e)
  | inr r ↦ Contains-rest (f y) (map f xs) (f x) (to_map f xs x r)
]

one : {A : Type 0} (x y : A) → Contains (x ∷ []) y → x ≡ y
one x y c = elim (Contains-cons x [] y c) [
  | inl e ↦ e
  | inr r ↦ absurd (not_in_nil y r)
]

module _ {P : Type 0} (nested : Bool) where
  -- ---- the members of a set, of a selection in it, and of a set in such a selection

  -- a selection is among its own
  first_of : (ty : Text P) (x : TypedSelection P) → Contains (members_of nested ty x) (ty, x)
  first_of ty (TypedField p d h s) = Contains-first (ty, TypedField p d h s) (if nested then members_in nested s else []) (ty, TypedField p d h s) refl
  first_of ty (TypedSpread p n ds) = Contains-first (ty, TypedSpread p n ds) [] (ty, TypedSpread p n ds) refl
  first_of ty (TypedInline p c ds s) = Contains-first (ty, TypedInline p c ds s) (members_in nested s) (ty, TypedInline p c ds s) refl

  along : (ty : Text P) (ss : TypedSelections P) (x : TypedSelection P) → Contains (typed_selections_list ss) x → (e : Member P) → Contains (members_of nested ty x) e → Contains (members_along nested ty ss) e
  along ty no_typed x c e h = absurd (not_in_nil x c)
  along ty (typed_then s ss) x c e h = elim (Contains-cons s (typed_selections_list ss) x c) [
    | inl q ↦ Contains-append_left (members_of nested ty s) (members_along nested ty ss) e (subst (λ y. Contains (members_of nested ty y) e) (sym q) h)
    | inr r ↦ Contains-append_right (members_of nested ty s) (members_along nested ty ss) e (along ty ss x r e h)
  ]

  in_set : (t : TypedSet P) (x : TypedSelection P) → Contains (own_selections t) x → (e : Member P) → Contains (members_of nested (set_type t) x) e → Contains (members_in nested t) e
  in_set (typed_set ty ss) x c e h = along ty ss x c e h

  in_field : (b : Bool) (s t : TypedSet P) → Contains (if b then s ∷ [] else []) t → (e : Member P) → Contains (members_in nested t) e → Contains (if b then members_in nested s else []) e
  in_field true s t c e h = subst (λ u. Contains (members_in nested u) e) (sym (one s t c)) h
  in_field false s t c e h = absurd (not_in_nil t c)

  in_selection : (ty : Text P) (x : TypedSelection P) (t : TypedSet P) → Contains (inner_sets nested x) t → (e : Member P) → Contains (members_in nested t) e → Contains (members_of nested ty x) e
  in_selection ty (TypedField p d h s) t c e m = Contains-rest (ty, TypedField p d h s) (if nested then members_in nested s else []) e (in_field nested s t c e m)
  in_selection ty (TypedSpread p n ds) t c e m = absurd (not_in_nil t c)
  in_selection ty (TypedInline p c' ds s) t c e m = Contains-rest (ty, TypedInline p c' ds s) (members_in nested s) e (subst (λ u. Contains (members_in nested u) e) (sym (one s t c)) m)

  -- what a member spreads, its set spreads
  spreads : (t : TypedSet P) (e : Member P) (n : List ℕ) → Contains (members_in nested t) e → Contains (spread_names e.1) n → Spreads nested t n
  spreads t e n c h = to_all spread_names (selections_in nested t) e.1 n (subst (λ l. Contains l e.1) (bare_in nested t) (to_map (λ (m : Member P). m.1) (members_in nested t) e c)) h

  spread_by : (t : TypedSet P) (n : List ℕ) → Spreads nested t n → (e : Member P) × (Contains (members_in nested t) e × Contains (spread_names e.1) n)
  spread_by t n h =
      let x = from_one spread_names (selections_in nested t) n h in
      let e = from_map (λ (m : Member P). m.1) (members_in nested t) x.0 (subst (λ l. Contains l x.0) (sym (bare_in nested t)) x.1.0) in
      (e.0, (e.1.0, subst (λ y. Contains (spread_names y) n) (sym e.1.1) x.1.1))

  module _ (fs : Fragments P) (start : TypedSet P) where
    -- ---- what is in a reached set is reached

    abbrev Reaches : Member P → Type 0
    Reaches = IsReached nested fs start

    mutual
      inside_set : (t : TypedSet P) → ReachedSet nested fs start t → (e : Member P) → Contains (members_in nested t) e → Reaches e
      inside_set (typed_set ty ss) r e c = inside_along (typed_set ty ss) r ty refl ss (λ x h. h) e c

      inside_along : (t : TypedSet P) → ReachedSet nested fs start t → (ty : Text P) → set_type t ≡ ty → (ss : TypedSelections P) → ((x : TypedSelection P) → Contains (typed_selections_list ss) x → Contains (own_selections t) x)
          → (e : Member P) → Contains (members_along nested ty ss) e → Reaches e
      inside_along t r ty is no_typed own e c = absurd (not_in_nil e c)
      inside_along t r ty is (typed_then s ss) own e c = elim (Contains-append_cases (members_of nested ty s) (members_along nested ty ss) e c) [
        | inl a ↦ inside_one t r ty is s (own s (Contains-first s (typed_selections_list ss) s refl)) e a
        | inr b ↦ inside_along t r ty is ss (λ x h. own x (Contains-rest s (typed_selections_list ss) x h)) e b
      ]

      inside_one : (t : TypedSet P) → ReachedSet nested fs start t → (ty : Text P) → set_type t ≡ ty → (x : TypedSelection P) → Contains (own_selections t) x → (e : Member P) → Contains (members_of nested ty x) e → Reaches e
      inside_one t r ty is (TypedField p d h s) own e c = elim (Contains-cons (ty, TypedField p d h s) (if nested then members_in nested s else []) e c) [
        | inl q ↦ subst Reaches q (t, (r, (is, own)))
        | inr m ↦ inside_nested s nested (λ k. from_inner t (TypedField p d h s) r own k) e m
      ]
      inside_one t r ty is (TypedSpread p n ds) own e c = subst Reaches (one (ty, TypedSpread p n ds) e c) (t, (r, (is, own)))
      inside_one t r ty is (TypedInline p c' ds s) own e c = elim (Contains-cons (ty, TypedInline p c' ds s) (members_in nested s) e c) [
        | inl q ↦ subst Reaches q (t, (r, (is, own)))
        | inr m ↦ inside_set s (from_inner t (TypedInline p c' ds s) r own (Contains-first s [] s refl)) e m
      ]

      inside_nested : (s : TypedSet P) (b : Bool) → (Contains (if b then s ∷ [] else []) s → ReachedSet nested fs start s) → (e : Member P) → Contains (if b then members_in nested s else []) e → Reaches e
      inside_nested (typed_set ty ss) true r e c = inside_along (typed_set ty ss) (r (Contains-first (typed_set ty ss) [] (typed_set ty ss) refl)) ty refl ss (λ x h. h) e c
      inside_nested (typed_set ty ss) false r e c = absurd (not_in_nil e c)

    -- the set of a reached fragment is reached
    spread_set : (t : TypedSet P) → ReachedSet nested fs start t → (n : List ℕ) → Spreads nested t n → (f : NamedSet P) → fragment_named fs n ≡ Some f → ReachedSet nested fs start f.1
    spread_set t r n h f is =
        let m = spread_by t n h in
        let at = inside_set t r m.0 m.1.0 in
        from_spread at.0 m.0.1 n f.0 at.1.0 at.1.1.1 m.1.1 is

    fragment_set : (f : NamedSet P) → ReachedFragment nested fs start f → ReachedSet nested fs start f.1
    fragment_set f (by_start n h is) = spread_set start from_start n h f is
    fragment_set f (by_fragment g n r h is) = spread_set g.1 (fragment_set g r) n h f is

    -- ---- what is reached is lent

    module _ (given : List (Member P)) (walk : IsMemberWalk nested fs start given) where
      -- a set is lent, and what it spreads is reached
      record Covered (t : TypedSet P) : Type 0 where
        lent : (e : Member P) → Contains (members_in nested t) e → Contains given e
        spread : (n : List ℕ) → Spreads nested t n → (f : NamedSet P) → fragment_named fs n ≡ Some f → ReachedFragment nested fs start f

      covered_fragment : (f : NamedSet P) → ReachedFragment nested fs start f → Covered f.1
      covered_fragment f r = record {
        lent = λ e c. subst (λ l. Contains l e) (sym walk.members)
            (Contains-append_right (members_in nested start) (flat_map (λ (g : NamedSet P). members_in nested g.1) walk.order) e (to_all (λ (g : NamedSet P). members_in nested g.1) walk.order f e ((walk.reached f).1 r) c));
        spread = λ n h g is. by_fragment f n r h is;
      }

      covered : (t : TypedSet P) → ReachedSet nested fs start t → Covered t
      covered t from_start = record {
        lent = λ e c. subst (λ l. Contains l e) (sym walk.members) (Contains-append_left (members_in nested start) (flat_map (λ (g : NamedSet P). members_in nested g.1) walk.order) e c);
        spread = λ n h f is. by_start n h is;
      }
      covered t (from_inner u x r own inner) =
          let above = covered u r in
          let up : (e : Member P) → Contains (members_in nested t) e → Contains (members_in nested u) e = λ e c. in_set u x own e (in_selection (set_type u) x t inner e c) in
          record {
            lent = λ e c. above.lent e (up e c);
            spread = λ n h f is. let m = spread_by t n h in above.spread n (spreads u m.0 n (up m.0 m.1.0) m.1.1) f is;
          }
      covered t (from_spread u x n m r own h is) =
          covered_fragment (m, t) ((covered u r).spread n (spreads u (set_type u, x) n (in_set u x own (set_type u, x) (first_of (set_type u) x)) h) (m, t) is)

      there : (e : Member P) → Contains given e → Reaches e
      there e c = elim (Contains-append_cases (members_in nested start) (flat_map (λ (f : NamedSet P). members_in nested f.1) walk.order) e (subst (λ l. Contains l e) walk.members c)) [
        | inl a ↦ inside_set start from_start e a
        | inr b ↦ let f = from_one (λ (f : NamedSet P). members_in nested f.1) walk.order e b in inside_set f.0.1 (fragment_set f.0 ((walk.reached f.0).0 f.1.0)) e f.1.1
      ]

      back : (e : Member P) → Reaches e → Contains given e
      back e (t, (r, (is, own))) = (covered t r).lent e (in_set t e.1 own e (subst (λ ty. Contains (members_of nested (set_type t) e.1) (ty, e.1)) is (first_of (set_type t) e.1)))

      pub lends_members : (e : Member P) → Contains given e ↔ Reaches e
      lends_members e = (there e, back e)
