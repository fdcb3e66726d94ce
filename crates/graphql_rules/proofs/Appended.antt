-- The faults that are added after those told before.
use Rattle.std.proofs.Common.{◌≡◌, ◌↔◌, List, [], ◌∷◌, ◌++◌, map, take, length, refl, sym, ap, subst, ◌∙◌, Contains, arith, append-nil}
use Rattle.std.proofs.lemmas.List.{length-append, length-map, nil_from_length}
use Rattle.graphql_faults.specs.DetailsTree.{of_rule, Telling}
use Rattle.rule_definitions.specs.PlacedFaults.{PlacedFault}
use Rattle.rule_definitions.proofs.Lists.{not_in_nil, Contains-first}
use Rattle.rule_definitions.specs.Room.{most_told, ◌⊕◌}
use Rattle.rule_definitions.proofs.Room.{room_first, room_silent}
use Rattle.rule_definitions.proofs.Adding.{Gains}
use Rattle.graphql_rules.specs.Appends.{AppendsThese, Appends}

-- if the list is unchanged, nothing was added
pub nothing_after : (old new : Telling) (added : List PlacedFault) → AppendsThese old new added → new ≡ old → added ≡ []
nothing_after old new added following same =
    let whole = ap length (sym following ∙ same) in
    let parts = length-append old (map of_rule added) in
    let long = length-map added of_rule in
    nil_from_length added (omega (arith, whole, parts, long))

pub after_nothing : (old new : Telling) (added : List PlacedFault) → AppendsThese old new added → added ≡ [] → new ≡ old
after_nothing old new added following none = following ∙ ap (λ l. old ++ map of_rule l) none ∙ append-nil old

-- the first of all are none only where there is none
pub none_of_all : (all : List PlacedFault) → take most_told all ≡ [] → all ≡ []
none_of_all all none = room_silent all (room_first all ∙ none)

-- what an empty list gained is the first part of all that there was to tell
pub first_after_nothing : (none new added : List PlacedFault) → none ≡ [] → new ≡ none ⊕ added → new ≡ take most_told added
first_after_nothing none new added e is = is ∙ ap (λ l. l ⊕ added) e ∙ room_first added

-- and it is what a longer list gains
pub appends_first : (old list : Telling) (none new : List PlacedFault) (R : PlacedFault → Type 0) → none ≡ [] → Gains none new R → AppendsThese old list new → Appends old list R
appends_first old list none new R e (added, (is, tells)) following = (added, (subst (AppendsThese old list) (first_after_nothing none new added e is) following, tells))

module _ (old new : Telling) (Breaks : PlacedFault → Type 0) (appends : Appends old new Breaks) where
  -- nothing is told exactly when no rule is broken
  pub silent_where_kept : (new ≡ old) ↔ ((f : PlacedFault) → Breaks f → ⊥)
  silent_where_kept = (
    λ same f b. not_in_nil f (subst (λ l. Contains l f) (none_of_all appends.0 (nothing_after old new (take most_told appends.0) appends.1.0 same)) ((appends.1.1 f).1 b)),
    λ kept. after_nothing old new (take most_told appends.0) appends.1.0 (ap (take most_told) (none appends.0 (λ f h. kept f ((appends.1.1 f).0 h)))),
  )
    where
      none : (l : List PlacedFault) → ((f : PlacedFault) → Contains l f → ⊥) → l ≡ []
      none [] h = refl
      none (f ∷ fs) h = absurd (h f (Contains-first f fs f refl))
