-- What a set reaches by its typed selections is what it reaches by what these mean.
use Rattle.std.proofs.Common.{◌≡◌, ◌↔◌, ◌∙◌, ℕ, Bool, List, [], ◌∷◌, map, true, false, refl, ap, sym, subst, inl, inr, Contains, true≢false}
use Rattle.std.specs.Prelude.{Option, Some, None, is_some, option_map, option_to_list, find, cond}
use Rattle.std.specs.Str.{bytes_eq}
use Rattle.std.proofs.lemmas.Slice.Eq.{bytes_eq-Decides}
use Rattle.graphql_names.specs.Placed.{Placed}
use Rattle.schema_components.specs.Names.{Entries}
use Rattle.schema_components.proofs.Places.{not_in_nil, only, is_only, Contains-cons, Contains-first, Contains-rest}
use Rattle.schema_types.specs.Addresses.{under}
use Rattle.document_typed_selections.specs.TypedTree.{TypedSelection, TypedField, TypedSpread, TypedInline, TypedSet, set_type}
use Rattle.document_typed_operations.specs.TypedDocument.{TypedFragment}
use Rattle.document_typed_operations.specs.Reached.{NamedSet, Fragments, Member as TypedMember, own_selections, inner_sets, spread_names, fragment_named as set_named, ReachedSet, from_start, from_inner, from_spread, IsReached, IsReachedFragment}
use Rattle.document_typed_operations.proofs.Finding.{some_is}
use Rattle.document_typed_operations.proofs.WalkLaws.{from_one, to_all}
use Rattle.rule_document_definitions.specs.in_spec_document.MeantTree.{MeantSelection, MeantFragment, MeantDocument, meant, meant_of_set}
use Rattle.document_typed_operations.specs.DocumentView.{meant_by_fragment}
use Rattle.rule_document_definitions.specs.Selected.{Position, InFragment, SelectionAt, Standing, StandingField, standing_in, spread_name, fragment_named}
use Rattle.rule_document_definitions.specs.Reached.{Closed, first, next, LeadsInto}
use Rattle.rule_reach.specs.Reach.{Member, IsReach}
use Rattle.rule_reach.specs.Gathered.{fragments_under}
use Rattle.rule_reach.proofs.MeantStandings.{StandsFor, standing_at, from_standing, to_standing}

none_is : {A B : Type 0} (a : A) → None ≡ Some a → B
none_is a h = absurd (true≢false (sym (ap is_some h)))

find-map : {A B : Type 0} (f : A → B) (p : B → Bool) (xs : List A) → find p (map f xs) ≡ option_map f (find (λ x. p (f x)) xs)
find-map f p [] = refl
find-map f p (x ∷ xs) = by (p (f x)) (find-map f p xs)
  where
    by : (b : Bool) → find p (map f xs) ≡ option_map f (find (λ x. p (f x)) xs) → cond b (Some (f x)) (find p (map f xs)) ≡ option_map f (cond b (Some x) (find (λ x. p (f x)) xs))
    by true rest = refl
    by false rest = rest

option_map-twice : {A B C : Type 0} (g : B → C) (f : A → B) (o : Option A) → option_map g (option_map f o) ≡ option_map (λ x. g (f x)) o
option_map-twice g f None = refl
option_map-twice g f (Some x) = refl

pub from_map : {A B : Type 0} (f : A → B) (xs : List A) (y : B) → Contains (map f xs) y → (x : A) × (Contains xs x × (f x ≡ y))
from_map f [] y c = absurd (not_in_nil y c)
from_map f (x ∷ xs) y c = elim (Contains-cons (f x) (map f xs) y c) [
  | inl e ↦ (x, (Contains-first x xs x refl, e))
  | inr r ↦ let rest = from_map f xs y r in (rest.0, (Contains-rest x xs rest.0 rest.1.0, rest.1.1))
]

pub to_map : {A B : Type 0} (f : A → B) (xs : List A) (x : A) → Contains xs x → Contains (map f xs) (f x)
to_map f [] x c = absurd (not_in_nil x c)
to_map f (y ∷ xs) x c = elim (Contains-cons y xs x c) [
  | inl e ↦ Contains-first (f y) (map f xs) (f x) (ap f e)
  | inr r ↦ Contains-rest (f y) (map f xs) (f x) (to_map f xs x r)
]

-- what is in an option
from_option : {A : Type 0} (o : Option A) (x : A) → Contains (option_to_list o) x → o ≡ Some x
from_option None x c = absurd (not_in_nil x c)
from_option (Some y) x c = ap Some (sym (only y x c))

to_option : {A : Type 0} (o : Option A) (x : A) → o ≡ Some x → Contains (option_to_list o) x
to_option o x e = subst (λ p. Contains (option_to_list p) x) (sym e) (is_only x x refl)

-- what is under a name stands among the entries
pub find_stands : {V : Type 0} (n : List ℕ) (es : Entries V) (v : V) → under n es ≡ Some v → (e : List ℕ × V) × (Contains es e × ((e.0 ≡ n) × (e.1 ≡ v)))
find_stands n [] v h = none_is v h
find_stands {V} n (e ∷ es) v h = by (bytes_eq n e.0) refl (find_stands n es v)
  where
    step : (b : Bool) → bytes_eq n e.0 ≡ b → option_map (λ e. e.1) (cond b (Some e) (find (λ e. bytes_eq n e.0) es)) ≡ Some v
    step b is = sym (ap (λ b. option_map (λ e. e.1) (cond b (Some e) (find (λ e. bytes_eq n e.0) es))) is) ∙ h

    by : (b : Bool) → bytes_eq n e.0 ≡ b → (under n es ≡ Some v → (e : List ℕ × V) × (Contains es e × ((e.0 ≡ n) × (e.1 ≡ v)))) → (g : List ℕ × V) × (Contains (e ∷ es) g × ((g.0 ≡ n) × (g.1 ≡ v)))
    by true is rest = (e, (Contains-first e es e refl, (sym ((bytes_eq-Decides n e.0).0 is), some_is e.1 v (step true is))))
    by false is rest = let r = rest (step false is) in (r.0, (Contains-rest e es r.0 r.1.0, r.1.1))

module _ {P : Type 0} (d : MeantDocument P) (es : Entries (Placed P (TypedFragment P))) (same : d.fragments ≡ map (λ e. (e.0, meant_by_fragment e.1)) es) where
  -- ---- fragments by name

  abbrev sets : Fragments P
  sets = map (λ e. (e.0, e.1.it.set)) es

  abbrev found : List ℕ → Option (List ℕ × Placed P (TypedFragment P))
  found n = find (λ e. bytes_eq n e.0) es

  set_found : (n : List ℕ) → set_named sets n ≡ option_map (λ e. (e.0, e.1.it.set)) (found n)
  set_found n = find-map (λ (e : List ℕ × Placed P (TypedFragment P)). (e.0, e.1.it.set)) (λ f. bytes_eq n f.0) es

  fragment_found : (n : List ℕ) → fragment_named d n ≡ option_map (λ e. meant_by_fragment e.1) (found n)
  fragment_found n =
      ap (under n) same
      ∙ ap (option_map (λ e. e.1)) (find-map (λ (e : List ℕ × Placed P (TypedFragment P)). (e.0, meant_by_fragment e.1)) (λ f. bytes_eq n f.0) es)
      ∙ option_map-twice (λ e. e.1) (λ (e : List ℕ × Placed P (TypedFragment P)). (e.0, meant_by_fragment e.1)) (found n)

  fragment_of_set : (n : List ℕ) (g : NamedSet P) → set_named sets n ≡ Some g → (f : MeantFragment P) × ((fragment_named d n ≡ Some f) × (f.set ≡ meant_of_set g.1))
  fragment_of_set n g h = by (found n) refl
    where
      by : (o : Option (List ℕ × Placed P (TypedFragment P))) → found n ≡ o → (f : MeantFragment P) × ((fragment_named d n ≡ Some f) × (f.set ≡ meant_of_set g.1))
      by None is = none_is g (sym (set_found n ∙ ap (option_map (λ e. (e.0, e.1.it.set))) is) ∙ h)
      by (Some e) is = (
        meant_by_fragment e.1,
        (
          fragment_found n ∙ ap (option_map (λ e. meant_by_fragment e.1)) is,
          ap (λ (v : NamedSet P). meant_of_set v.1) (some_is (e.0, e.1.it.set) g (sym (set_found n ∙ ap (option_map (λ e. (e.0, e.1.it.set))) is) ∙ h)),
        ),
      )

  set_of_fragment : (n : List ℕ) (f : MeantFragment P) → fragment_named d n ≡ Some f → (g : NamedSet P) × ((set_named sets n ≡ Some g) × (f.set ≡ meant_of_set g.1))
  set_of_fragment n f h = by (found n) refl
    where
      by : (o : Option (List ℕ × Placed P (TypedFragment P))) → found n ≡ o → (g : NamedSet P) × ((set_named sets n ≡ Some g) × (f.set ≡ meant_of_set g.1))
      by None is = none_is f (sym (fragment_found n ∙ ap (option_map (λ e. meant_by_fragment e.1)) is) ∙ h)
      by (Some e) is = (
        (e.0, e.1.it.set),
        (
          set_found n ∙ ap (option_map (λ e. (e.0, e.1.it.set))) is,
          ap (λ (v : MeantFragment P). v.set) (some_is f (meant_by_fragment e.1) (sym h ∙ fragment_found n ∙ ap (option_map (λ e. meant_by_fragment e.1)) is)),
        ),
      )

  module _ (holder : Position) (start : TypedSet P) where
    abbrev IsThere : Standing P → Type 0
    IsThere = Closed (Contains (standing_in holder (meant_of_set start))) (LeadsInto d)

    -- ---- from typed sets to where they stand

    -- somewhere all selections of what the set means are reached
    abbrev IsAllThere : TypedSet P → Type 0
    IsAllThere t = (q : Position) × ((x : Standing P) → Contains (standing_in q (meant_of_set t)) x → IsThere x)

    -- so are those of what is in one of them, and of what one of them spreads
    all_inside : (t u : TypedSet P) (s : TypedSelection P) → IsAllThere u → Contains (own_selections u) s → Contains (inner_sets true s) t → IsAllThere t
    all_inside t u (TypedField p df h v) (q, above) own inner =
        let s = TypedField p df h v in
        let at = to_standing q u s own in
        let here = above (standing_at q (set_type u).it at.0 s) at.1 in
        subst IsAllThere (sym (only v t inner)) (SelectionAt q at.0, λ y c. next here (inl (_, (refl, c))))
    all_inside t u (TypedSpread p n ds) above own inner = absurd (not_in_nil t inner)
    all_inside t u (TypedInline p c ds v) (q, above) own inner =
        let s = TypedInline p c ds v in
        let at = to_standing q u s own in
        let here = above (standing_at q (set_type u).it at.0 s) at.1 in
        subst IsAllThere (sym (only v t inner)) (SelectionAt q at.0, λ y k. next here (inr (inl k)))

    all_spread : (u : TypedSet P) (s : TypedSelection P) (n : List ℕ) (g : NamedSet P) → IsAllThere u → Contains (own_selections u) s → Contains (spread_names s) n → set_named sets n ≡ Some g → IsAllThere g.1
    all_spread u (TypedField p df h v) n g above own spread is = absurd (not_in_nil n spread)
    all_spread u (TypedSpread p m ds) n g (q, above) own spread is =
        let s = TypedSpread p m ds in
        let at = to_standing q u s own in
        let here = above (standing_at q (set_type u).it at.0 s) at.1 in
        let f = fragment_of_set n g is in
        (InFragment f.0.name.it, λ y c. next here (inr (inr (m.it, (refl, (f.0, (ap (fragment_named d) (sym (only m.it n spread)) ∙ f.1.0, subst (λ v. Contains (standing_in (InFragment f.0.name.it) v) y) (sym f.1.1) c)))))))
    all_spread u (TypedInline p c ds v) n g above own spread is = absurd (not_in_nil n spread)

    all_there : (t : TypedSet P) → ReachedSet true sets start t → IsAllThere t
    all_there t from_start = (holder, λ x c. first c)
    all_there t (from_inner u s r own inner) = all_inside t u s (all_there u r) own inner
    all_there t (from_spread u s n m r own spread is) = all_spread u s n (m, t) (all_there u r) own spread is

    -- ---- from where selections stand to typed sets

    -- it is what a selection of a typed set that is reached means
    abbrev Comes : Standing P → Type 0
    Comes x = (t : TypedSet P) × (ReachedSet true sets start t × StandsFor t x)

    comes_next : (t : TypedSet P) (s : TypedSelection P) (q : Position) (n : List ℕ) (y : Standing P) → ReachedSet true sets start t → Contains (own_selections t) s → LeadsInto d (record { position = q; parent = n; it = meant s }) y → Comes y
    comes_next t (TypedField p df h v) q n y r own (inl (f, (is, c))) =
        let field : StandingField P = record { position = q; parent = n; place = p; definition = _; head = h; set = meant_of_set v } in
        let e : field ≡ f = some_is field f is in
        (v, (from_inner t (TypedField p df h v) r own (is_only v v refl), from_standing q v y (subst (λ (g : StandingField P). Contains (standing_in g.position g.set) y) (sym e) c)))
    comes_next t (TypedField p df h v) q n y r own (inr (inl c)) = absurd (not_in_nil y c)
    comes_next t (TypedField p df h v) q n y r own (inr (inr (m, (is, k)))) = none_is m is
    comes_next t (TypedSpread p m ds) q n y r own (inl (f, (is, c))) = none_is f is
    comes_next t (TypedSpread p m ds) q n y r own (inr (inl c)) = absurd (not_in_nil y c)
    comes_next t (TypedSpread p m ds) q n y r own (inr (inr (k, (is, (f, (named, c)))))) =
        let g = set_of_fragment k f named in (
          g.0.1,
          (
            from_spread t (TypedSpread p m ds) k g.0.0 r own (is_only m.it k (sym (some_is m.it k is))) g.1.0,
            from_standing (InFragment f.name.it) g.0.1 y (subst (λ v. Contains (standing_in (InFragment f.name.it) v) y) g.1.1 c),
          ),
        )
    comes_next t (TypedInline p co ds v) q n y r own (inl (f, (is, c))) = none_is f is
    comes_next t (TypedInline p co ds v) q n y r own (inr (inl c)) = (v, (from_inner t (TypedInline p co ds v) r own (is_only v v refl), from_standing q v y c))
    comes_next t (TypedInline p co ds v) q n y r own (inr (inr (m, (is, k)))) = none_is m is

    comes : (x : Standing P) → IsThere x → Comes x
    comes x (first c) = (start, (from_start, from_standing holder start x c))
    comes y (next {x} r leads) =
        let before = comes x r in
        let s = before.1.1.0 in
        comes_next before.0 s x.position x.parent y before.1.0 before.1.1.1.0 (subst (λ (i : MeantSelection P). LeadsInto d (record { position = x.position; parent = x.parent; it = i }) y) before.1.1.1.1.0 leads)

    -- ---- the lists

    abbrev meant_member : TypedMember P → Member P
    meant_member e = (e.0.it, meant e.1)

    -- a typed selection that is reached stands somewhere
    stands : (e : TypedMember P) → IsReached true sets start e → (x : Standing P) × (IsThere x × ((x.parent, x.it) ≡ meant_member e))
    stands e (t, (r, (is, own))) =
        let all = all_there t r in
        let at = to_standing all.0 t e.1 own in
        (standing_at all.0 (set_type t).it at.0 e.1, (all.1 _ at.1, ap (λ ty. (ty.it, meant e.1)) is))

    spread_of_meant : (s : TypedSelection P) (n : List ℕ) → Contains (spread_names s) n → spread_name (meant s) ≡ Some n
    spread_of_meant (TypedField p df h v) n c = absurd (not_in_nil n c)
    spread_of_meant (TypedSpread p m ds) n c = ap Some (sym (only m.it n c))
    spread_of_meant (TypedInline p co ds v) n c = absurd (not_in_nil n c)

    meant_of_spread : (s : TypedSelection P) (n : List ℕ) → spread_name (meant s) ≡ Some n → Contains (spread_names s) n
    meant_of_spread (TypedField p df h v) n e = none_is n e
    meant_of_spread (TypedSpread p m ds) n e = is_only m.it n (sym (some_is m.it n e))
    meant_of_spread (TypedInline p co ds v) n e = none_is n e

    pub is_reach : (members : List (TypedMember P)) → ((e : TypedMember P) → Contains members e ↔ IsReached true sets start e)
        → (names : List (List ℕ)) → ((n : List ℕ) → Contains names n ↔ IsReachedFragment true sets start n)
        → IsReach d (standing_in holder (meant_of_set start)) (map meant_member members) (fragments_under d.fragments names)
    is_reach members reached names spread = record {
      selections = λ e. (
        λ c. let m = from_map meant_member members e c in let x = stands m.0 ((reached m.0).0 m.1.0) in (x.0, (x.1.0, x.1.1 ∙ m.1.1)),
        λ h. let t = comes h.0 h.1.0 in
            let s = t.1.1.0 in
            let k = (reached (set_type t.0, s)).1 (t.0, (t.1.0, (refl, t.1.1.1.0))) in
            subst (Contains (map meant_member members)) ((λ i. (sym t.1.1.1.1.1 i, sym t.1.1.1.1.0 i)) ∙ h.1.1) (to_map meant_member members (set_type t.0, s) k),
      );
      fragments = λ f. (
        λ c. let n = from_one (λ n. option_to_list (under n d.fragments)) names f c in
            let r = (spread n.0).0 n.1.0 in
            let x = stands r.1.0 r.1.1.0 in
            (x.0, (x.1.0, (n.0, (ap (λ (e : Member P). spread_name e.1) x.1.1 ∙ spread_of_meant r.1.0.1 n.0 r.1.1.1, from_option (under n.0 d.fragments) f n.1.1)))),
        λ h. let t = comes h.0 h.1.0 in
            let s = t.1.1.0 in
            let n = h.1.1.0 in
            let g = set_of_fragment n f h.1.1.1.1 in
            let k = (spread n).1 (ap is_some g.1.0, ((set_type t.0, s), ((t.0, (t.1.0, (refl, t.1.1.1.0))), meant_of_spread s n (sym (ap spread_name t.1.1.1.1.0) ∙ h.1.1.1.0)))) in
            to_all (λ n. option_to_list (under n d.fragments)) names n f k (to_option (under n d.fragments) f h.1.1.1.1),
      );
    }
