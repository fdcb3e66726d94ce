-- What is told where the work ends once as many faults are told as one call tells.
use Rattle.std.proofs.Common.{◌≡◌, ◌≤◌, ◌<◌, ◌⊎◌, ◌↔◌, inl, inr, ◌++◌, List, [], ◌∷◌, take, drop, length, refl, sym, ap, ◌∙◌, subst, Contains, arith}
use Rattle.std.proofs.lemmas.Bool.{cases_lt}
use Rattle.std.proofs.lemmas.List.{length-take-le, take-append-drop, take_all}
use Rattle.std.proofs.lemmas.List.Elements.{Contains-append_left, Contains-append_right, Contains-append_cases}
use Rattle.rule_definitions.proofs.Lists.{not_in_nil, only}
use Rattle.rule_definitions.specs.Room.{most_told, ◌⊕◌}
use Rattle.rule_definitions.proofs.Room.{no_room, room_both, room_first}
use Rattle.rule_fragments.specs.UnlessFull.{IsFull, TellsUnlessFull, HasAll, AddsUnlessFull}

module _ {A : Type 0} where
  -- ---- the first of a list

  -- one of the first is one of all
  pub of_first : (all : List A) (f : A) → Contains (take most_told all) f → Contains all f
  of_first all f c = subst (λ l. Contains l f) (take-append-drop most_told all) (Contains-append_left (take most_told all) (drop most_told all) f c)

  -- those of a full list are as many as may be
  pub first_full : (all : List A) → IsFull all → IsFull (take most_told all)
  first_full all full = let long = length-take-le most_told all full in omega (arith, long)

  -- a list of none is not full
  pub full_none : {R : Type 0} (told : List A) → told ≡ [] → IsFull told → R
  full_none told none full = let h : most_told ≤ length {A = A} [] = subst IsFull none full in absurd (omega (arith, h))

  module _ {Right : A → Type 0} {TellsAll : List A → Type 0} where
    -- where all of a list is right, its first are told, and all unless they are as many as may be
    pub first_tells : (told all : List A) → told ≡ take most_told all → ((f : A) → Contains all f → Right f) → IsFull told ⊎ TellsAll all → TellsUnlessFull Right TellsAll told
    first_tells told all is right full = subst (TellsUnlessFull Right TellsAll) (sym is) (by (cases_lt (length all) most_told))
      where
        by : (length all < most_told) ⊎ (most_told ≤ length all) → TellsUnlessFull Right TellsAll (take most_told all)
        by (inl fits) =
            let same = take_all most_told all (omega (arith, fits)) in
            subst (TellsUnlessFull Right TellsAll) (sym same) (record {
              right = right;
              most = omega (arith, fits);
              full = elim full [ inl h ↦ inl (subst IsFull (is ∙ same) h) | inr h ↦ inr h ];
            })
        by (inr more) =
            let long = length-take-le most_told all more in record {
              right = λ f c. right f (of_first all f c);
              most = omega (arith, long);
              full = inl (omega (arith, long));
            }

    -- what is told is what is added to an empty list
    pub as_added : (told : List A) → TellsUnlessFull Right TellsAll told → AddsUnlessFull [] told Right TellsAll
    as_added told tells = (told, (sym (room_first told ∙ take_all most_told told tells.most), (tells.right, tells.full)))

    -- where nothing is told, that is all
    pub tells_none : (told : List A) → TellsUnlessFull Right TellsAll told → told ≡ [] → TellsAll []
    tells_none told tells none = elim tells.full [ inl full ↦ full_none told none full | inr all ↦ subst TellsAll none all ]

  -- ---- adding

  -- a full list stays full
  still_full : (mid new l : List A) → new ≡ mid ⊕ l → IsFull mid → IsFull new
  still_full mid new l is full = subst IsFull (sym (is ∙ no_room mid l full)) full

  module _ {Right : A → Type 0} where
    -- nothing is added; below, two lists, one after the other
    pub adds_none : (TellsAll : List A → Type 0) (old : List A) → TellsAll [] → AddsUnlessFull old old Right TellsAll
    adds_none TellsAll old all = ([], (refl, (λ f c. absurd (not_in_nil f c), inr all)))

    pub adds_both : {T U V : List A → Type 0} (old mid new : List A) → ((l m : List A) → T l → U m → V (l ++ m)) → AddsUnlessFull old mid Right T → AddsUnlessFull mid new Right U → AddsUnlessFull old new Right V
    adds_both old mid new both (l, (e, (right, all))) (m, (e', (right', all'))) = (
      l ++ m,
      (
        e' ∙ ap (λ k. k ⊕ m) e ∙ room_both old l m,
        (
          λ f c. elim (Contains-append_cases l m f c) [ inl h ↦ right f h | inr h ↦ right' f h ],
          elim all [
            | inl full ↦ inl (still_full mid new m e' full)
            | inr a ↦ elim all' [ inl full ↦ inl full | inr b ↦ inr (both l m a b) ]
          ],
        ),
      ),
    )

    -- what is added to an empty list is what is told
    pub adds_first : {T : List A → Type 0} (old new : List A) → old ≡ [] → AddsUnlessFull old new Right T → TellsUnlessFull Right T new
    adds_first old new none (l, (e, (right, all))) = first_tells new l (e ∙ ap (λ k. k ⊕ l) none ∙ room_first l) right all

  -- by more rules
  pub adds_by : {Right Other : A → Type 0} {T U : List A → Type 0} (old new : List A) → ((f : A) → Right f → Other f) → ((l : List A) → T l → U l) → AddsUnlessFull old new Right T → AddsUnlessFull old new Other U
  adds_by old new by all (l, (e, (right, full))) = (l, (e, (λ f c. by f (right f c), elim full [ inl h ↦ inl h | inr h ↦ inr (all l h) ])))

  -- where the list is full, the rest is left
  pub adds_full : {Right : A → Type 0} {T U : List A → Type 0} (old new : List A) → IsFull new → AddsUnlessFull old new Right T → AddsUnlessFull old new Right U
  adds_full old new full (l, (e, (right, all))) = (l, (e, (right, inl full)))

  -- where exactly those are told
  pub adds_exactly : {Right : A → Type 0} (old new l : List A) → new ≡ old ⊕ l → ((f : A) → Contains l f → Right f) → HasAll Right l → AddsUnlessFull old new Right (HasAll Right)
  adds_exactly old new l e right all = (l, (e, (right, inr all)))

-- ---- over a loop

-- of each of these each way to break a rule is told, or answered by one that is told
abbrev pub TellsEach : {X A : Type 0} (Breaks : X → A → Type 0) (Answers : X → A → A → Type 0) → List X → List A → Type 0
TellsEach {X} {A} Breaks Answers xs told = (x : X) → Contains xs x → (f : A) → Breaks x f → (g : A) × (Contains told g × Answers x f g)

module _ {X A : Type 0} (Breaks : X → A → Type 0) (Answers : X → A → A → Type 0) {Right : A → Type 0} where
  pub each_none : (old : List A) → AddsUnlessFull old old Right (TellsEach Breaks Answers [])
  each_none old = adds_none (TellsEach Breaks Answers []) old (λ x c f breaks. absurd (not_in_nil x c))

  -- of one more
  pub each_more : (old mid new : List A) (xs all : List X) (x : X) → all ≡ xs ++ x ∷ [] → AddsUnlessFull old mid Right (TellsEach Breaks Answers xs)
      → (added : List A) × ((new ≡ mid ⊕ added) × (((f : A) → Contains added f → Right f) × ((f : A) → Breaks x f → (g : A) × (Contains added g × Answers x f g))))
      → AddsUnlessFull old new Right (TellsEach Breaks Answers all)
  each_more old mid new xs all x is before (m, (e, (right, this))) =
      adds_both {T = TellsEach Breaks Answers xs} {U = λ m. (f : A) → Breaks x f → (g : A) × (Contains m g × Answers x f g)} old mid new both before (m, (e, (right, inr this)))
    where
      both : (l m : List A) → TellsEach Breaks Answers xs l → ((f : A) → Breaks x f → (g : A) × (Contains m g × Answers x f g)) → TellsEach Breaks Answers all (l ++ m)
      both l m first last y c f breaks = elim (Contains-append_cases xs (x ∷ []) y (subst (λ k. Contains k y) is c)) [
        | inl h ↦ let g = first y h f breaks in (g.0, (Contains-append_left l m g.0 g.1.0, g.1.1))
        | inr h ↦ let same = only x y h in
            let g = last f (subst (λ z. Breaks z f) same breaks) in
            (g.0, (Contains-append_right l m g.0 g.1.0, subst (λ z. Answers z f g.0) (sym same) g.1.1))
      ]

module _ {X A : Type 0} (Breaks : X → A → Type 0) where
  -- where each is told itself: of one, and of all
  pub exactly_one : (mid new : List A) (among : List X) (x : X) → Contains among x → (added : List A) × ((new ≡ mid ⊕ added) × ((f : A) → Contains added f ↔ Breaks x f))
      → (added : List A) × ((new ≡ mid ⊕ added) × (((f : A) → Contains added f → (y : X) × (Contains among y × Breaks y f)) × ((f : A) → Breaks x f → (g : A) × (Contains added g × (f ≡ g)))))
  exactly_one mid new among x one (l, (e, lists)) = (l, (e, (λ f c. (x, (one, (lists f).0 c)), λ f breaks. (f, ((lists f).1 breaks, refl)))))

  pub each_exactly : (xs all : List X) (told : List A) → xs ≡ all → TellsEach Breaks (λ x f g. f ≡ g) xs told → HasAll (λ f. (x : X) × (Contains all x × Breaks x f)) told
  each_exactly xs all told is tells f at =
      let g = tells at.0 (subst (λ l. Contains l at.0) (sym is) at.1.0) f at.1.1 in
      subst (Contains told) (sym g.1.1) g.1.0
