-- What is in lists that are made from the elements of others.
use Rattle.std.proofs.Common.{◌≡◌, ◌⊎◌, ℕ, Bool, true, false, List, [], ◌∷◌, map, Option, None, Some, slice_get, option_to_list, refl, sym, ap, subst, ◌∙◌, inl, inr, true≢false, is_some, Contains}
use Rattle.std.specs.Prelude.{if◌then◌else◌}
use Rattle.std.specs.List.{flat_map, filter}
use Rattle.std.specs.Option.{option_map_or}
use Rattle.std.proofs.lemmas.Option.{same_Some}
use Rattle.std.proofs.lemmas.List.Elements.{Contains-append_left, Contains-append_right, Contains-append_cases}
use Rattle.rule_cycle_search.proofs.Lists.{not_in_nil, Contains-cons, Contains-first, only, is_only, found_in, given_in, index_found, index_given}
use Rattle.rule_definitions.specs.Words.{AtSomeIndex, Present}

module _ {B : Type 0} where
  -- one of a list or none, by a test
  pub when_true : (b : Bool) (x f : B) → Contains (if b then x ∷ [] else []) f → (b ≡ true) × (f ≡ x)
  when_true true x f c = (refl, only x f c)
  when_true false x f c = not_in_nil f c

  pub true_when : (b : Bool) (x f : B) → b ≡ true → f ≡ x → Contains (if b then x ∷ [] else []) f
  true_when true x f e i = is_only x f i
  true_when false x f e i = absurd (true≢false (sym e))

  pub present_in : {X : Type 0} (g : X → List B) (o : Option X) (f : B) → Contains (option_map_or g o []) f → Present o (λ x. Contains (g x) f)
  present_in g None f c = not_in_nil f c
  present_in g (Some x) f c = (x, (refl, c))

  pub in_present : {X : Type 0} (g : X → List B) (o : Option X) (f : B) (x : X) → o ≡ Some x → Contains (g x) f → Contains (option_map_or g o []) f
  in_present g None f x e c = absurd (true≢false (sym (ap is_some e)))
  in_present g (Some y) f x e c = subst (λ z. Contains (g z) f) (sym (same_Some _ _ e)) c

  -- what is told of some element
  pub at_index : {X : Type 0} (tells : X → List B) (xs : List X) (f : B) → Contains (flat_map tells xs) f → AtSomeIndex xs (λ i x. Contains (tells x) f)
  at_index tells xs f c =
      let p = found_in tells f xs c in
      let i = index_found xs p.0 p.1.0 in
      (i.0, (p.0, (i.1, p.1.1)))

  pub index_at : {X : Type 0} (tells : X → List B) (xs : List X) (f : B) (i : ℕ) (x : X) → slice_get xs i ≡ Some x → Contains (tells x) f → Contains (flat_map tells xs) f
  index_at tells xs f i x e c = given_in tells f xs x (index_given xs i x e) c

module _ {X : Type 0} (p : X → Bool) where
  keeps : (b : Bool) (x : X) (l : List X) (y : X) → Contains (if b then x ∷ l else l) y → (b ≡ true × (x ≡ y)) ⊎ Contains l y
  keeps true x l y c = elim (Contains-cons x l y c) [
    | inl e ↦ inl (refl, e)
    | inr r ↦ inr r
  ]
  keeps false x l y c = inr c

  pub filtered : (xs : List X) (y : X) → Contains (filter p xs) y → Contains xs y × (p y ≡ true)
  filtered [] y c = not_in_nil y c
  filtered (x ∷ xs) y c = elim (keeps (p x) x (filter p xs) y c) [
    | inl e ↦ (Contains-first x xs y e.1, ap p (sym e.1) ∙ e.0)
    | inr r ↦ let q = filtered xs y r in (Contains-append_right (x ∷ []) xs y q.0, q.1)
  ]

  keep_first : (b : Bool) (x : X) (l : List X) → b ≡ true → Contains (if b then x ∷ l else l) x
  keep_first true x l e = Contains-first x l x refl
  keep_first false x l e = absurd (true≢false (sym e))

  keep_rest : (b : Bool) (x : X) (l : List X) (y : X) → Contains l y → Contains (if b then x ∷ l else l) y
  keep_rest true x l y c = Contains-append_right (x ∷ []) l y c
  keep_rest false x l y c = c

  pub in_filter : (xs : List X) (y : X) → Contains xs y → p y ≡ true → Contains (filter p xs) y
  in_filter [] y c e = not_in_nil y c
  in_filter (x ∷ xs) y c e = elim (Contains-cons x xs y c) [
    | inl i ↦ subst (λ z. Contains (if p x then x ∷ filter p xs else filter p xs) z) i (keep_first (p x) x (filter p xs) (ap p i ∙ e))
    | inr r ↦ keep_rest (p x) x (filter p xs) y (in_filter xs y r e)
  ]

-- what an option has
pub option_in : {X : Type 0} (o : Option X) (x : X) → Contains (option_to_list o) x → o ≡ Some x
option_in None x c = not_in_nil x c
option_in (Some y) x c = ap Some (sym (only y x c))

pub in_option : {X : Type 0} (o : Option X) (x : X) → o ≡ Some x → Contains (option_to_list o) x
in_option None x e = absurd (true≢false (sym (ap is_some e)))
in_option (Some y) x e = is_only y x (sym (same_Some _ _ e))

-- what is told where a condition holds, and comes from elements of a mapped list
pub mapped_told : {X Y B : Type 0} (g : X → Y) (tells : Y → List B) (xs : List X) (f : B) → Contains (flat_map tells (map g xs)) f → (x : X) × (Contains xs x × Contains (tells (g x)) f)
mapped_told g tells [] f c = not_in_nil f c
mapped_told g tells (x ∷ xs) f c = elim (Contains-append_cases (tells (g x)) (flat_map tells (map g xs)) f c) [
  | inl a ↦ (x, (Contains-first x xs x refl, a))
  | inr b ↦ let p = mapped_told g tells xs f b in (p.0, (Contains-append_right (x ∷ []) xs p.0 p.1.0, p.1.1))
]

pub told_mapped : {X Y B : Type 0} (g : X → Y) (tells : Y → List B) (xs : List X) (f : B) (x : X) → Contains xs x → Contains (tells (g x)) f → Contains (flat_map tells (map g xs)) f
told_mapped g tells [] f x m c = not_in_nil x m
told_mapped g tells (z ∷ xs) f x m c = elim (Contains-cons z xs x m) [
  | inl e ↦ Contains-append_left (tells (g z)) (flat_map tells (map g xs)) f (subst (λ y. Contains (tells (g y)) f) (sym e) c)
  | inr r ↦ Contains-append_right (tells (g z)) (flat_map tells (map g xs)) f (told_mapped g tells xs f x r c)
]
