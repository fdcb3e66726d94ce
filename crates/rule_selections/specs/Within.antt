-- Private: leads to `MayReplace`. The sets within a set, and how they are thinned, from the last to the first.
use Rattle.std.specs.Prelude.{◌≡◌, ◌++◌, ◌∷◌, List, [], map, fold, flat_map, Option, MatchOption}
use Rattle.std.specs.Borrow.{Bor}
use Rattle.graphql_names.specs.NameValue.{NameValue}
use Rattle.graphql_names.specs.Placed.{Place}
use Rattle.document_typed_selections.specs.TypedTree.{TypedSelection, TypedField, TypedSpread, TypedInline, TypedSet, typed_set, TypedSelections, no_typed, typed_then, typed_selection_tree, typed_set_tree}
use Rattle.document_typed_selections.specs.declared.selection.Selection.{Selection}
use Rattle.document_typed_selections.specs.declared.selection.SelectionSet.{SelectionSet}
use Rattle.spec_document.specs.MeantTree.{meant, meant_of_set}
use Rattle.rule_selections.specs.Settled.{Terms, LeavesBelow, LeavesOfTyped}
use Rattle.rule_selections.specs.Telling.{KeepsSelection}

-- the set of a selection, in a list; a spread has none
abbrev pub own_sets : TypedSelection Place → List (TypedSet Place)
own_sets (TypedField p d h v) = v ∷ []
own_sets (TypedSpread p n ds) = []
own_sets (TypedInline p c ds v) = v ∷ []

-- the sets of these selections; the sets of the selections of a set
abbrev pub sets_along : TypedSelections Place → List (TypedSet Place)
sets_along no_typed = []
sets_along (typed_then x xs) = own_sets x ++ sets_along xs

abbrev pub sets_below : TypedSet Place → List (TypedSet Place)
sets_below (typed_set t ss) = sets_along ss

-- a set and all sets within it, at any depth, each before those within it
abbrev mutual
  pub within : TypedSet Place → List (TypedSet Place)
  within (typed_set t ss) = typed_set t ss ∷ within_all ss

  pub within_one : TypedSelection Place → List (TypedSet Place)
  within_one (TypedField p d h v) = within v
  within_one (TypedSpread p n ds) = []
  within_one (TypedInline p c ds v) = within v

  pub within_all : TypedSelections Place → List (TypedSet Place)
  within_all no_typed = []
  within_all (typed_then x xs) = within_one x ++ within_all xs

abbrev pub typed_sets : List (Bor SelectionSet) → List (TypedSet Place)
typed_sets sets = map (λ (v : Bor SelectionSet). typed_set_tree v.now) sets

-- the sets in reverse order
abbrev pub last_first : {X : Type 0} → (X → TypedSet Place) → List X → List (TypedSet Place)
last_first tree xs = fold (λ vs x. tree x ∷ vs) [] xs

abbrev pub waiting_sets : List (Bor SelectionSet) → List (TypedSet Place)
waiting_sets sets = last_first (λ (v : Bor SelectionSet). typed_set_tree v.now) sets

abbrev pub thin_sets : List SelectionSet → List (TypedSet Place)
thin_sets sets = last_first typed_set_tree sets

module _ (s : Terms) where
  -- the second list begins with what is left of the sets of the first list, in order
  abbrev pub AreLeft : List (TypedSet Place) → List (TypedSet Place) → Type 0
  AreLeft [] ws = Unit {0}
  AreLeft (v ∷ vs) [] = ⊥
  AreLeft (v ∷ vs) (w ∷ ws) = LeavesOfTyped s v w × AreLeft vs ws

  -- takes what is left of the sets `vs` from the end of `old`, where that of the first is last: if `old` has this, then `Q` holds and `new` has the rest
  abbrev pub Takes : List (TypedSet Place) → List SelectionSet → List SelectionSet → Type 0 → Type 0
  Takes vs old new Q = (more : List (TypedSet Place)) → AreLeft (vs ++ more) (thin_sets old) → Q × AreLeft more (thin_sets new)

  -- takes what is left of the selection's own set; then the selection stays, with that set, or is settled
  abbrev pub TakesKept : NameValue → Selection → (old new : List SelectionSet) → (kept after : SelectionSet) → Type 0
  TakesKept ty selection old new kept after = Takes (own_sets (typed_selection_tree selection)) old new (KeepsSelection s ty selection kept after)

  -- takes what is left of the sets of a set's selections; then `thin` is what is left of the set
  abbrev pub TakesThinned : SelectionSet → SelectionSet → (old new : List SelectionSet) → Type 0
  TakesThinned set thin old new = Takes (sets_below (typed_set_tree set)) old new (LeavesOfTyped s (typed_set_tree set) (typed_set_tree thin))

  -- if `sets` are some root sets and all sets within them, then `thin` ends with what is left of the root sets, the first one last
  abbrev pub AreThinned : List (Bor SelectionSet) → List SelectionSet → Type 0
  AreThinned sets thin = (roots : List (TypedSet Place)) → flat_map within roots ≡ typed_sets sets → AreLeft roots (thin_sets thin)

-- takes what is left of the selection's own set: that is `below`, if there is one
abbrev pub TakesBelow : Selection → Option SelectionSet → (old new : List SelectionSet) → Type 0
TakesBelow selection below old new =
    (s : Terms)
    → Takes s (own_sets (typed_selection_tree selection)) old new (MatchOption below (Unit {0}) (λ left. LeavesBelow s (meant (typed_selection_tree selection)) (meant_of_set (typed_set_tree left))))
