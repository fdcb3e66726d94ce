-- The sets (GraphQL, October 2021, section 5.3.2) that are found within a set, and the indices
-- of fragments.
use Rattle.std.specs.Prelude.{◌≡◌, ◌<◌, ℕ, false, List, map, flat_map, Option, Some, MatchOption, IsSome, Contains, slice_get}
use Rattle.std.specs.List.{position}
use Rattle.std.specs.Str.{bytes_eq}
use Rattle.std.specs.Borrow.{Bor}
use Rattle.graphql_names.specs.Node.{content}
use Rattle.graphql_names.specs.NameValue.{NameValue}
use Rattle.graphql_names.specs.Placed.{Place}
use Rattle.document_typed_selections.specs.TypedTree.{TypedSet, typed_set_tree}
use Rattle.spec_document.specs.MeantTree.{meant_of_set}
use Rattle.document_typed_operations.specs.Reached.{NamedSet, Fragments, members_in, selections_in, spread_names, fragment_named}
use Rattle.rule_cycle_search.specs.Paths.{HasNoRepeat}
use Rattle.rule_document_definitions.specs.Selected.{HasNone}
use Rattle.rule_field_sets.specs.Fields.{fields_of}
use Rattle.rule_reach.specs.Lent.{fields_lent}
use Rattle.rule_reach.specs.declared.field_selection.FieldSelection.{FieldSelection}
use Rattle.rule_field_sets.specs.declared.found.FoundField.{FoundField}
use Rattle.rule_field_sets.specs.declared.found.FoundSet.{FoundSet}

-- the set of a field
abbrev pub set_of : FoundField → TypedSet Place
set_of f = typed_set_tree (content f.selection.field.now).selection_set

-- the fields of a set that was found
abbrev pub selections_of : FoundSet → List FieldSelection
selections_of v = map (λ (f : FoundField). f.selection) v.fields.items

-- names as texts
abbrev pub texts_of : List (Bor NameValue) → List (List ℕ)
texts_of names = map (λ (n : Bor NameValue). n.now.text) names

-- the set itself of a found set
abbrev pub set_at : FoundSet → TypedSet Place
set_at v = typed_set_tree v.set.now

abbrev pub sets_at : List FoundSet → List (TypedSet Place)
sets_at found = map set_at found

-- the set, within the one at index `i`, has no selections and no index; or it has some, and a greater index
abbrev pub IsBelow : ℕ → List (TypedSet Place) → TypedSet Place → Option ℕ → Type 0
IsBelow i sets s below = MatchOption below (HasNone (meant_of_set s)) (λ p. (HasNone (meant_of_set s) → ⊥) × ((i < p) × (slice_get sets p ≡ Some s)))

-- the first found set is this set; each has the fields of its set and of its inline fragments, in the order of the text, with the indices
-- of their sets, and the names of the fragments that are spread there, as often as they are
pub record AreFound (set : TypedSet Place) (found : List FoundSet) : Type 0 where
  pub first : slice_get (sets_at found) 0 ≡ Some set
  pub fields : (v : FoundSet) → Contains found v → fields_of (selections_of v) ≡ fields_lent (members_in false (set_at v))
  pub spreads : (v : FoundSet) → Contains found v → texts_of v.spreads.items ≡ flat_map spread_names (selections_in false (set_at v))
  pub below : (i : ℕ) (v : FoundSet) → slice_get found i ≡ Some v → (f : FoundField) → Contains v.fields.items f → IsBelow i (sets_at found) (set_of f) f.below

module _ (fragments : Fragments Place) where
  -- the fragment of this name has this index
  pub record IsPlaceOf (n : List ℕ) (p : ℕ) : Type 0 where
    pub place : position (bytes_eq n) (map (λ (f : NamedSet Place). f.0) fragments) ≡ Some p
    pub fragment : NamedSet Place
    pub stands : slice_get fragments p ≡ Some fragment
    pub named : fragment_named fragments n ≡ Some fragment

  -- these are exactly the indices of the fragments of these names, each once
  pub record ArePlaces (names : List (List ℕ)) (places : List ℕ) : Type 0 where
    pub within : (p : ℕ) → Contains places p → (n : List ℕ) × (Contains names n × IsPlaceOf n p)
    pub covers : (n : List ℕ) → Contains names n → IsSome (fragment_named fragments n) → (p : ℕ) × (Contains places p × IsPlaceOf n p)
    pub apart : HasNoRepeat places
