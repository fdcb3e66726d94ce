-- What is told of those whose name an earlier one has.
use Rattle.std.proofs.Common.{◌≡◌, ◌⊎◌, ℕ, Bool, true, false, List, [], ◌∷◌, ◌++◌, map, refl, sym, ap, subst, ◌∙◌, inl, inr, cond, if◌then◌else◌, Contains}
use Rattle.std.specs.Prelude.{◌↔◌}
use Rattle.std.proofs.lemmas.List.Elements.{Contains-append_left, Contains-append_right, Contains-append_cases}
use Rattle.schema_fold_index.specs.in_components.Lists.{repeats, has_name, IsRepeated}
use Rattle.schema_fold_index.proofs.in_components.Places.{not_in_nil, Contains-cons, Contains-first, Contains-rest, found_at, given_at, AtSomePlace-map, only, is_only}

module _ {X F : Type 0} (note : X → F) where
  pub from_map : (xs : List X) (f : F) → Contains (map note xs) f → (x : X) × (Contains xs x × (f ≡ note x))
  from_map [] f h = absurd (not_in_nil f h)
  from_map (x ∷ xs) f h = elim (Contains-cons (note x) (map note xs) f h) [
    | inl e ↦ (x, (Contains-first x xs x refl, sym e))
    | inr r ↦ let p = from_map xs f r in (p.0, (Contains-rest x xs p.0 p.1.0, p.1.1))
  ]

  pub to_map : (xs : List X) (x : X) → Contains xs x → Contains (map note xs) (note x)
  to_map [] x h = absurd (not_in_nil x h)
  to_map (y ∷ ys) x h = elim (Contains-cons y ys x h) [
    | inl e ↦ Contains-first (note y) (map note ys) (note x) (ap note e)
    | inr r ↦ Contains-rest (note y) (map note ys) (note x) (to_map ys x r)
  ]

module _ {X : Type 0} (key : X → List ℕ) where
  abbrev again : List X → X → List X
  again before x = if has_name key (key x) before then x ∷ [] else []

  here : (b : List X) (x y : X) → Contains (again b x) y → (x ≡ y) × (has_name key (key y) b ≡ true)
  here b x y h = by (has_name key (key x) b) refl h
    where
      by : (c : Bool) → has_name key (key x) b ≡ c → Contains (cond c (x ∷ []) []) y → (x ≡ y) × (has_name key (key y) b ≡ true)
      by true e k = let same = sym (only x y k) in (same, subst (λ z. has_name key (key z) b ≡ true) same e)
      by false e k = absurd (not_in_nil y k)

  there : (b : List X) (x y : X) → (x ≡ y) × (has_name key (key y) b ≡ true) → Contains (again b x) y
  there b x y h = subst (λ c. Contains (cond c (x ∷ []) []) y) (sym (ap (λ z. has_name key (key z) b) h.0 ∙ h.1)) (is_only x y (sym h.0))

  pub is_repeated : (xs : List X) (x : X) → Contains (repeats key xs) x → IsRepeated key xs x
  is_repeated xs x h = AtSomePlace-map xs (λ b y k. here b y x k) (found_at again xs x h)

  pub repeated : (xs : List X) (x : X) → IsRepeated key xs x → Contains (repeats key xs) x
  repeated xs x h = given_at again xs x (AtSomePlace-map xs (λ b y k. there b y x k) h)

  module _ {F : Type 0} (note : X → F) where
    -- f is what is told of one whose name an earlier one has
    abbrev pub IsTold : List X → F → Type 0
    IsTold xs f = (x : X) × (IsRepeated key xs x × (f ≡ note x))

    pub told : (xs : List X) (f : F) → Contains (map note (repeats key xs)) f ↔ IsTold xs f
    told xs f = (
      λ h. let p = from_map note (repeats key xs) f h in (p.0, (is_repeated xs p.0 p.1.0, p.1.1)),
      λ t. subst (Contains (map note (repeats key xs))) (sym t.1.1) (to_map note (repeats key xs) t.0 (repeated xs t.0 t.1.0)),
    )

-- the same on both sides of a list that grew
pub told_more : {F : Type 0} (old more new : List F) (f : F) (P : Type 0) → new ≡ old ++ more → Contains more f ↔ P → Contains new f ↔ (Contains old f ⊎ P)
told_more {F} old more new f P is iff = (
  λ h. elim (Contains-append_cases old more f (subst (λ l. Contains l f) is h)) [ inl e ↦ inl e | inr r ↦ inr (iff.0 r) ],
  λ h. subst (λ l. Contains l f) (sym is) (elim h [ inl e ↦ Contains-append_left old more f e | inr r ↦ Contains-append_right old more f (iff.1 r) ]),
)
