-- What is left of selections and sets: it has a look as before, is typed as before, and what is not left is settled.
use Rattle.std.proofs.Common.{◌≡◌, ◌⊎◌, ◌∙◌, ℕ, List, [], true, refl, sym, ap, subst, inl, inr, None, Some, Contains, true≢false}
use Rattle.graphql_names.specs.Placed.{Place}
use Rattle.tree_directives.specs.declared.directive_location.DirectiveLocation.TheVariants as location
use Rattle.schema_components.proofs.Places.{not_in_nil, Contains-cons, Contains-first, Contains-rest}
use Rattle.tree_operations.specs.SelectionTree.{FieldHead}
use Rattle.spec_document.specs.MeantTree.{Definition, MeantSelection, MeantField, MeantSpread, MeantInline, MeantSet, meant_set, MeantSelections, no_meant, meant_then}
use Rattle.document_typing.specs.Meanings.{Meanings, inner_type}
use Rattle.document_typing.specs.TypedByPlace.{IsTyped, IsSetOn, AreTyped}
use Rattle.rule_document_definitions.specs.Selected.{InOperation}
use Rattle.rule_reach.specs.Reach.{Member}
use Rattle.rule_selections.specs.SelectionFaults.{selects_none}
use Rattle.rule_selections.specs.Settled.{Terms, filler, filled, with_left, IsQuiet, IsSettled, IsSettledSet, AreSettled, Thins, LeavesOf, Leaves, LeavesBelow}
use Rattle.rule_selections.proofs.Elsewhere.{along, own_members, hollow, Look, look}

pub filled_same : (v : MeantSet Place) → filled v v ≡ v
filled_same (meant_set t no_meant) = refl
filled_same (meant_set t (meant_then x xs)) = refl

-- the member is a filler
abbrev pub IsFiller : Member Place → Type 0
IsFiller k = (t : List ℕ) × ((t, filler t) ≡ k)

-- the look of a field, with such a set
abbrev of_field : List ℕ → Place → Definition → FieldHead Place → MeantSet Place → Look
of_field t p d h u = record {
  parent = t;
  place = p;
  location = location.Field;
  directives = h.directives;
  spread = None;
  condition = None;
  field = Some (record { position = InOperation None; parent = t; place = p; definition = d; head = h; set = u });
}

module _ (s : Terms) where
  -- ---- all may be left

  mutual
    pub thins_same : (x : MeantSelection Place) → Thins s x x
    thins_same (MeantField p d h v) = (v, (leaves_same v, ap (λ (w : MeantSet Place). MeantField p d h w) (sym (filled_same v))))
    thins_same (MeantSpread p n ds) = refl
    thins_same (MeantInline p c ds v) = (v, (leaves_same v, refl))

    pub leaves_same : (v : MeantSet Place) → LeavesOf s v v
    leaves_same (meant_set t ss) = (ss, (refl, all_same t ss))

    all_same : (t : List ℕ) (ss : MeantSelections Place) → Leaves s t ss ss
    all_same t no_meant = refl
    all_same t (meant_then x xs) = inr (x, (xs, (refl, (thins_same x, all_same t xs))))

  -- ---- members

  -- the second is what is left of the first, under the same type
  abbrev pub StaysAs : Member Place → Member Place → Type 0
  StaysAs e k = (k.0 ≡ e.0) × Thins s e.1 k.1

  pub stays_same : (e : Member Place) → StaysAs e e
  stays_same e = (refl, thins_same e.1)

  -- this is left of some member
  abbrev pub IsOf : List (Member Place) → Member Place → Type 0
  IsOf old k = (e : Member Place) × (Contains old e × StaysAs e k)

  -- of this some member is left; or it is settled
  abbrev pub StaysIn : List (Member Place) → Member Place → Type 0
  StaysIn new e = ((k : Member Place) × (Contains new k × StaysAs e k)) ⊎ IsSettled s e.0 e.1

  left_of : (t : List ℕ) (ss ws : MeantSelections Place) → Leaves s t ss ws → (k : Member Place) → Contains (along t ws) k → IsOf (along t ss) k
  left_of t no_meant ws none k c = absurd (not_in_nil k (subst (λ (l : MeantSelections Place). Contains (along t l) k) none c))
  left_of t (meant_then x xs) ws (inl (q, l)) k c = let r = left_of t xs ws l k c in (r.0, (Contains-rest (t, x) (along t xs) r.0 r.1.0, r.1.1))
  left_of t (meant_then x xs) ws (inr (y, (ys, (is, (thin, l))))) k c = elim (Contains-cons (t, y) (along t ys) k (subst (λ (l : MeantSelections Place). Contains (along t l) k) is c)) [
    | inl same ↦ ((t, x), (Contains-first (t, x) (along t xs) (t, x) refl, subst (StaysAs (t, x)) same (refl, thin)))
    | inr more ↦ let r = left_of t xs ys l k more in (r.0, (Contains-rest (t, x) (along t xs) r.0 r.1.0, r.1.1))
  ]

  stays_in : (t : List ℕ) (ss ws : MeantSelections Place) → Leaves s t ss ws → (e : Member Place) → Contains (along t ss) e → StaysIn (along t ws) e
  stays_in t no_meant ws none e c = absurd (not_in_nil e c)
  stays_in t (meant_then x xs) ws (inl (q, l)) e c = elim (Contains-cons (t, x) (along t xs) e c) [
    | inl same ↦ inr (subst (λ (e : Member Place). IsSettled s e.0 e.1) same q)
    | inr more ↦ stays_in t xs ws l e more
  ]
  stays_in t (meant_then x xs) ws (inr (y, (ys, (is, (thin, l))))) e c = subst (λ (l : MeantSelections Place). StaysIn (along t l) e) (sym is) (elim (Contains-cons (t, x) (along t xs) e c) [
    | inl same ↦ inl ((t, y), (Contains-first (t, y) (along t ys) (t, y) refl, subst (λ (e : Member Place). StaysAs e (t, y)) same (refl, thin)))
    | inr more ↦ elim (stays_in t xs ys l e more) [
      | inl r ↦ inl (r.0, (Contains-rest (t, y) (along t ys) r.0 r.1.0, r.1.1))
      | inr q ↦ inr q
    ]
  ])

  -- of sets
  pub set_left_of : (v w : MeantSet Place) → LeavesOf s v w → (k : Member Place) → Contains (own_members w) k → IsOf (own_members v) k
  set_left_of (meant_set t ss) w (ws, (is, l)) k c = left_of t ss ws l k (subst (λ (w : MeantSet Place). Contains (own_members w) k) is c)

  pub set_stays_in : (v w : MeantSet Place) → LeavesOf s v w → (e : Member Place) → Contains (own_members v) e → StaysIn (own_members w) e
  set_stays_in (meant_set t ss) w (ws, (is, l)) e c = subst (λ (w : MeantSet Place). StaysIn (own_members w) e) (sym is) (stays_in t ss ws l e c)

  -- of the set of a field
  pub filled_of : (v w : MeantSet Place) → LeavesOf s v w → (k : Member Place) → Contains (own_members (filled v w)) k → IsOf (own_members v) k ⊎ IsFiller k
  filled_of (meant_set t no_meant) w l k c = inl (set_left_of (meant_set t no_meant) w l k c)
  filled_of (meant_set t (meant_then x xs)) (meant_set u no_meant) l k c = elim (Contains-cons (t, filler t) [] k c) [
    | inl same ↦ inr (t, same)
    | inr more ↦ absurd (not_in_nil k more)
  ]
  filled_of (meant_set t (meant_then x xs)) (meant_set u (meant_then y ys)) l k c = inl (set_left_of (meant_set t (meant_then x xs)) (meant_set u (meant_then y ys)) l k c)

  pub stays_filled : (v w : MeantSet Place) → LeavesOf s v w → (e : Member Place) → Contains (own_members v) e → StaysIn (own_members (filled v w)) e
  stays_filled (meant_set t no_meant) w l e c = absurd (not_in_nil e c)
  stays_filled (meant_set t (meant_then x xs)) (meant_set u no_meant) l e c = elim (set_stays_in (meant_set t (meant_then x xs)) (meant_set u no_meant) l e c) [
    | inl r ↦ absurd (not_in_nil r.0 r.1.0)
    | inr q ↦ inr q
  ]
  stays_filled (meant_set t (meant_then x xs)) (meant_set u (meant_then y ys)) l e c = set_stays_in (meant_set t (meant_then x xs)) (meant_set u (meant_then y ys)) l e c

  -- ---- what the rules read of it

  hollow_same : (v w : MeantSet Place) → LeavesOf s v w → hollow (filled v w) ≡ hollow v
  hollow_same (meant_set t no_meant) w (ws, (is, none)) = ap hollow is ∙ ap (λ (l : MeantSelections Place). hollow (meant_set t l)) none
  hollow_same (meant_set t (meant_then x xs)) (meant_set u no_meant) l = refl
  hollow_same (meant_set t (meant_then x xs)) (meant_set u (meant_then y ys)) l = refl

  look_same : (t : List ℕ) (x y : MeantSelection Place) → Thins s x y → look (t, y) ≡ look (t, x)
  look_same t (MeantField p d h v) y (w, (l, is)) = ap (λ (y : MeantSelection Place). look (t, y)) is ∙ ap (of_field t p d h) (hollow_same v w l)
  look_same t (MeantSpread p n ds) y is = ap (λ (y : MeantSelection Place). look (t, y)) is
  look_same t (MeantInline p c ds v) y (w, (l, is)) = ap (λ (y : MeantSelection Place). look (t, y)) is

  pub look_stays : (e k : Member Place) → StaysAs e k → look k ≡ look e
  look_stays e k m = ap (λ (t : List ℕ). look (t, k.1)) m.0 ∙ look_same e.0 e.1 k.1 m.1

  -- ---- it is typed

  module _ (m : Meanings) where
    filled_typed : (t : List ℕ) (v w : MeantSet Place) → IsSetOn m t v → IsSetOn m t w → IsSetOn m t (filled v w)
    filled_typed t (meant_set u no_meant) w on left = left
    filled_typed t (meant_set u (meant_then x xs)) (meant_set k no_meant) on left = (on.0, ((on.0, tt), tt))
    filled_typed t (meant_set u (meant_then x xs)) (meant_set k (meant_then y ys)) on left = left

    filled_leaf : (i : List ℕ) (v w : MeantSet Place) → LeavesOf s v w → v ≡ meant_set i no_meant → filled v w ≡ meant_set i no_meant
    filled_leaf i (meant_set u no_meant) w (ws, (is, none)) leaf = is ∙ ap (λ (l : MeantSelections Place). meant_set u l) none ∙ leaf
    filled_leaf i (meant_set u (meant_then x xs)) w l leaf = absurd (true≢false (sym (ap (λ (v : MeantSet Place). selects_none v) leaf)))

    mutual
      typed_left : (t : List ℕ) (x y : MeantSelection Place) → Thins s x y → IsTyped m t x → IsTyped m t y
      typed_left t (MeantField p d h v) y (w, (l, is)) typed = subst (IsTyped m t) (sym is)
          (typed.0, (filled_typed (inner_type d) v w typed.1.0 (set_typed (inner_type d) v w l typed.1.0), λ leaf. filled_leaf (inner_type d) v w l (typed.1.1 leaf)))
      typed_left t (MeantSpread p n ds) y is typed = subst (IsTyped m t) (sym is) tt
      typed_left t (MeantInline p None ds v) y (w, (l, is)) typed = subst (IsTyped m t) (sym is) (set_typed t v w l typed)
      typed_left t (MeantInline p (Some c) ds v) y (w, (l, is)) typed = subst (IsTyped m t) (sym is) (typed.0, set_typed c.it v w l typed.1)

      set_typed : (t : List ℕ) (v w : MeantSet Place) → LeavesOf s v w → IsSetOn m t v → IsSetOn m t w
      set_typed t (meant_set u ss) w (ws, (is, l)) typed = subst (IsSetOn m t) (sym is) (typed.0, all_typed t u ss ws l typed.1)

      all_typed : (t u : List ℕ) (ss ws : MeantSelections Place) → Leaves s u ss ws → AreTyped m t ss → AreTyped m t ws
      all_typed t u no_meant ws none typed = subst (AreTyped m t) (sym none) tt
      all_typed t u (meant_then x xs) ws (inl (q, l)) typed = all_typed t u xs ws l typed.1
      all_typed t u (meant_then x xs) ws (inr (y, (ys, (is, (thin, l))))) typed = subst (AreTyped m t) (sym is) (typed_left t x y thin typed.0, all_typed t u xs ys l typed.1)

    pub stays_typed : (e k : Member Place) → StaysAs e k → IsTyped m e.0 e.1 → IsTyped m k.0 k.1
    stays_typed e k st typed = subst (λ (t : List ℕ). IsTyped m t k.1) (sym st.0) (typed_left e.0 e.1 k.1 st.1 typed)

    pub filler_typed : (k : Member Place) → IsFiller k → IsTyped m k.0 k.1
    filler_typed k (t, is) = subst (λ (e : Member Place). IsTyped m e.0 e.1) is (refl, tt)

  -- ---- what is settled

  pub settled_quiet : (t : List ℕ) (x : MeantSelection Place) → IsSettled s t x → IsQuiet s (t, x)
  settled_quiet t (MeantField p d h v) q = q.0
  settled_quiet t (MeantSpread p n ds) q = q
  settled_quiet t (MeantInline p c ds v) q = q.0

  each_settled : (t : List ℕ) (ss : MeantSelections Place) → AreSettled s t ss → (e : Member Place) → Contains (along t ss) e → IsSettled s e.0 e.1
  each_settled t no_meant q e c = absurd (not_in_nil e c)
  each_settled t (meant_then x xs) q e c = elim (Contains-cons (t, x) (along t xs) e c) [
    | inl same ↦ subst (λ (e : Member Place). IsSettled s e.0 e.1) same q.0
    | inr more ↦ each_settled t xs q.1 e more
  ]

  pub set_settled : (v : MeantSet Place) → IsSettledSet s v → (e : Member Place) → Contains (own_members v) e → IsSettled s e.0 e.1
  set_settled (meant_set t ss) q e c = each_settled t ss q e c

  -- where nothing is left, all is settled
  all_settled : (t : List ℕ) (ss ws : MeantSelections Place) → selects_none (meant_set t ws) ≡ true → Leaves s t ss ws → AreSettled s t ss
  all_settled t no_meant ws none l = tt
  all_settled t (meant_then x xs) ws none (inl (q, l)) = (q, all_settled t xs ws none l)
  all_settled t (meant_then x xs) ws none (inr (y, (ys, (is, l)))) = absurd (true≢false (sym none ∙ ap (λ (l : MeantSelections Place). selects_none (meant_set t l)) is))

  none_left : (v w : MeantSet Place) → selects_none w ≡ true → LeavesOf s v w → IsSettledSet s v
  none_left (meant_set t ss) w none (ws, (is, l)) = all_settled t ss ws (sym (ap (λ (w : MeantSet Place). selects_none w) is) ∙ none) l

  pub settled_if : (t : List ℕ) (x : MeantSelection Place) (w : MeantSet Place) → selects_none w ≡ true → IsQuiet s (t, x) → LeavesBelow s x w → IsSettled s t x
  settled_if t (MeantField p d h v) w none q l = (q, none_left v w none l)
  settled_if t (MeantSpread p n ds) w none q l = q
  settled_if t (MeantInline p c ds v) w none q l = (q, none_left v w none l)

  -- ---- with what is left of its set, a selection stays

  pub stays_with : (x y : MeantSelection Place) (w : MeantSet Place) → LeavesBelow s x w → y ≡ with_left x w → Thins s x y
  stays_with (MeantField p d h v) y w l is = (w, (l, is))
  stays_with (MeantSpread p n ds) y w l is = is
  stays_with (MeantInline p c ds v) y w l is = (w, (l, is))
