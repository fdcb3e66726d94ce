-- Which names are added: for a set, those of the variables that are in it.
use Rattle.std.proofs.Common.{◌≡◌, ◌↔◌, ◌⊎◌, inl, inr, ◌++◌, ◌<◌, ◌≤◌, ◌+◌, length, get_or, take, drop, ℕ, true, List, [], ◌∷◌, map, ap, sym, ◌∙◌, subst, Contains, bytes_eq}
use Rattle.std.specs.List.{list_any}
use Rattle.std.proofs.lemmas.List.Elements.{Contains-append_cases}
use Rattle.std.proofs.lemmas.List.{drop_more, drop_all}
use Rattle.std.proofs.lemmas.List.Sums.{fold-append}
use Rattle.std.proofs.lemmas.Map.Views.{Contains-from_any}
use Rattle.std.proofs.lemmas.Slice.Eq.{bytes_eq-Decides}
use Rattle.graphql_names.specs.NameValue.{NameValue}
use Rattle.graphql_names.specs.Placed.{Place}
use Rattle.document_typed_selections.specs.TypedTree.{TypedSelection, TypedField, TypedSpread, TypedInline, TypedSet, typed_set, TypedSelections, no_typed, typed_then, typed_selections}
use Rattle.spec_document.specs.MeantTree.{meant, meant_of_set, meant_of_all}
use Rattle.rule_definitions.proofs.Listing.{mapped_more}
use Rattle.rule_definitions.proofs.Lists.{not_in_nil, Contains-cons}
use Rattle.rule_reach.specs.UsedNames.{with_selection}
use Rattle.rule_reach.proofs.UsedNames.{StandsHere, in_both, in_none, in_selection}
use Rattle.rule_selections.specs.Settled.{UsesWithin, UsesInSet, UsesAlong, UsesAll}
use Rattle.rule_selections.specs.UsedNames.{with_along, with_set, with_sets}
use Rattle.rule_selections.specs.Within.{within, within_one, within_all}

module _ (n : List ℕ) where
  -- ---- sets, at any depth

  -- the variable is in a selection of the set itself; below, in one of several sets
  abbrev StandsThere : TypedSelections Place → Type 0
  StandsThere no_typed = ⊥
  StandsThere (typed_then x xs) = StandsHere n (meant x) ⊎ StandsThere xs

  abbrev IsTokenAt : TypedSet Place → Type 0
  IsTokenAt (typed_set t ss) = StandsThere ss

  abbrev StandsAmong : List (TypedSet Place) → Type 0
  StandsAmong [] = ⊥
  StandsAmong (v ∷ vs) = IsTokenAt v ⊎ StandsAmong vs

  in_along : (ns : List (List ℕ)) (ss : TypedSelections Place) → Contains (with_along ns ss) n ↔ (Contains ns n ⊎ StandsThere ss)
  in_along ns no_typed = in_none
  in_along ns (typed_then x xs) = in_both (in_along (with_selection ns (meant x)) xs) (in_selection n ns (meant x))

  in_set : (ns : List (List ℕ)) (v : TypedSet Place) → Contains (with_set ns v) n ↔ (Contains ns n ⊎ IsTokenAt v)
  in_set ns (typed_set t ss) = in_along ns ss

  in_sets : (ns : List (List ℕ)) (vs : List (TypedSet Place)) → Contains (with_sets ns vs) n ↔ (Contains ns n ⊎ StandsAmong vs)
  in_sets ns [] = in_none
  in_sets ns (v ∷ vs) = in_both (in_sets (with_set ns v) vs) (in_set ns v)

  among_left : (vs ws : List (TypedSet Place)) → StandsAmong vs → StandsAmong (vs ++ ws)
  among_left [] ws h = absurd h
  among_left (v ∷ vs) ws (inl h) = inl h
  among_left (v ∷ vs) ws (inr h) = inr (among_left vs ws h)

  among_right : (vs ws : List (TypedSet Place)) → StandsAmong ws → StandsAmong (vs ++ ws)
  among_right [] ws h = h
  among_right (v ∷ vs) ws h = inr (among_right vs ws h)

  among_either : (vs ws : List (TypedSet Place)) → StandsAmong (vs ++ ws) → StandsAmong vs ⊎ StandsAmong ws
  among_either [] ws h = inr h
  among_either (v ∷ vs) ws (inl h) = inl (inl h)
  among_either (v ∷ vs) ws (inr h) = elim (among_either vs ws h) [ inl k ↦ inl (inr k) | inr k ↦ inr k ]

  -- what is in a set at any depth is in the own selections of the set or of one within it, and conversely
  mutual
    into_set : (v : TypedSet Place) → UsesInSet n (meant_of_set v) → StandsAmong (within v)
    into_set (typed_set t ss) h = elim (into_all ss h) [ inl k ↦ inl k | inr k ↦ inr k ]

    into_all : (ss : TypedSelections Place) → UsesAlong n (meant_of_all ss) → StandsThere ss ⊎ StandsAmong (within_all ss)
    into_all no_typed h = absurd h
    into_all (typed_then x xs) (inl h) = elim (into_one x h) [ inl k ↦ inl (inl k) | inr k ↦ inr (among_left (within_one x) (within_all xs) k) ]
    into_all (typed_then x xs) (inr h) = elim (into_all xs h) [ inl k ↦ inl (inr k) | inr k ↦ inr (among_right (within_one x) (within_all xs) k) ]

    into_one : (x : TypedSelection Place) → UsesWithin n (meant x) → StandsHere n (meant x) ⊎ StandsAmong (within_one x)
    into_one (TypedField p d h v) (inl (inl u)) = inl (inr u)
    into_one (TypedField p d h v) (inl (inr u)) = inl (inl u)
    into_one (TypedField p d h v) (inr u) = inr (into_set v u)
    into_one (TypedSpread p m ds) u = inl u
    into_one (TypedInline p c ds v) (inl u) = inl u
    into_one (TypedInline p c ds v) (inr u) = inr (into_set v u)

  mutual
    of_set : (v : TypedSet Place) → StandsAmong (within v) → UsesInSet n (meant_of_set v)
    of_set (typed_set t ss) (inl h) = of_here ss h
    of_set (typed_set t ss) (inr h) = of_all ss h

    of_here : (ss : TypedSelections Place) → StandsThere ss → UsesAlong n (meant_of_all ss)
    of_here no_typed h = absurd h
    of_here (typed_then x xs) (inl h) = inl (of_one x h)
    of_here (typed_then x xs) (inr h) = inr (of_here xs h)

    of_one : (x : TypedSelection Place) → StandsHere n (meant x) → UsesWithin n (meant x)
    of_one (TypedField p d h v) u = inl (elim u [ inl a ↦ inr a | inr e ↦ inl e ])
    of_one (TypedSpread p m ds) u = u
    of_one (TypedInline p c ds v) u = inl u

    of_all : (ss : TypedSelections Place) → StandsAmong (within_all ss) → UsesAlong n (meant_of_all ss)
    of_all no_typed h = absurd h
    of_all (typed_then x xs) h = elim (among_either (within_one x) (within_all xs) h) [ inl k ↦ inl (of_below x k) | inr k ↦ inr (of_all xs k) ]

    of_below : (x : TypedSelection Place) → StandsAmong (within_one x) → UsesWithin n (meant x)
    of_below (TypedField p d h v) k = inr (of_set v k)
    of_below (TypedSpread p m ds) k = absurd k
    of_below (TypedInline p c ds v) k = inr (of_set v k)

  -- the names that are noted in a set
  pub names_in : (v : TypedSet Place) → Contains (with_sets [] (within v)) n ↔ UsesInSet n (meant_of_set v)
  names_in v =
      let all = in_sets [] (within v) in (
        λ c. elim (all.0 c) [ inl none ↦ not_in_nil n none | inr h ↦ of_set v h ],
        λ u. all.1 (inr (into_set v u)),
      )

-- where all names that are noted in the one are noted in the other
pub uses_all : (left whole : TypedSet Place) (used wanted : List (List ℕ)) → used ≡ with_sets [] (within left) → wanted ≡ with_sets [] (within whole) → ((n : List ℕ) → Contains wanted n → Contains used n)
    → UsesAll (meant_of_set left) (meant_of_set whole)
uses_all left whole used wanted here there all n u =
    (names_in n left).0 (subst (λ l. Contains l n) here (all n (subst (λ l. Contains l n) (sym there) ((names_in n whole).1 u))))

-- ---- in a loop

module _ {X : Type 0} (tree : X → TypedSelection Place) where
  pub next_noted : (old new : List (List ℕ)) (xs : List X) (i : ℕ) (x : X) → i < length xs → x ≡ get_or xs i x → new ≡ with_selection old (meant (tree x))
      → with_along old (typed_selections tree (drop i xs)) ≡ with_along new (typed_selections tree (drop (i + 1) xs))
  next_noted old new xs i x h at is =
      ap (λ l. with_along old (typed_selections tree l)) (drop_more xs i x h ∙ ap (λ y. y ∷ drop (i + 1) xs) (sym at))
      ∙ ap (λ ns. with_along ns (typed_selections tree (drop (i + 1) xs))) (sym is)

  pub all_noted : (ns : List (List ℕ)) (xs : List X) (i : ℕ) → length xs ≤ i → with_along ns (typed_selections tree (drop i xs)) ≡ ns
  all_noted ns xs i h = ap (λ l. with_along ns (typed_selections tree l)) (drop_all i xs h)

pub next_set : {X : Type 0} (tree : X → TypedSet Place) (start old new : List (List ℕ)) (xs : List X) (i : ℕ) (x : X) → i < length xs → x ≡ get_or xs i x → new ≡ with_set old (tree x)
    → old ≡ with_sets start (map tree (take i xs)) → new ≡ with_sets start (map tree (take (i + 1) xs))
next_set tree start old new xs i x h at is so_far =
    is ∙ ap (λ ns. with_set ns (tree x)) so_far
    ∙ sym (ap (with_sets start) (mapped_more tree xs i x h at) ∙ fold-append with_set start (map tree (take i xs)) (tree x ∷ []))

-- names that are in a set, so far
pub next_in : (set : List (List ℕ)) (xs : List NameValue) (i : ℕ) (x : NameValue) → i < length xs → x ≡ get_or xs i x → list_any (bytes_eq x.text) set ≡ true
    → ((n : List ℕ) → Contains (map (λ k. k.text) (take i xs)) n → Contains set n) → (n : List ℕ) → Contains (map (λ k. k.text) (take (i + 1) xs)) n → Contains set n
next_in set xs i x h at is so_far n c =
    elim (Contains-append_cases (map (λ k. k.text) (take i xs)) (x.text ∷ []) n (subst (λ l. Contains l n) (mapped_more (λ (k : NameValue). k.text) xs i x h at) c)) [
      | inl k ↦ so_far n k
      | inr k ↦ elim (Contains-cons x.text [] n k) [
        | inl e ↦ subst (Contains set) e (Contains-from_any (λ a b. (bytes_eq-Decides a b).0) x.text set is)
        | inr none ↦ not_in_nil n none
      ]
    ]
