-- What a walk still has to lend.
use Rattle.std.specs.Prelude.{◌++◌, ◌+◌, ◌-◌, ℕ, zero, suc, Bool, if◌then◌else◌, nat_eq, List, [], ◌∷◌, map, fold, length, slice_get, is_some}
use Rattle.std.specs.List.{flat_map, filter, position}
use Rattle.std.specs.Option.{option_map_or}
use Rattle.std.specs.Str.{bytes_eq}
use Rattle.indexmap.specs.IndexSet.{insert_key}
use Rattle.document_typed_selections.specs.TypedTree.{TypedSelection, TypedSet, set_type}
use Rattle.document_typed_operations.specs.Reached.{Fragments, Member, members_of, members_in, own_selections, selections_in, is_field, spread_names, fragment_named}

-- the state of a walk: whether it enters fields; the document's fragments; the selections that it has come to and not yet passed, the next
-- one first; the indexes of the fragments whose spreads it has passed, by first spread; and how many of these fragments it has entered
pub record WalkState (P : Type 0) : Type 0 where
  pub nested : Bool
  pub fragments : Fragments P
  pub pending : List (Member P)
  pub noted : List ℕ
  pub entered : ℕ

module _ {P : Type 0} where
  -- the indexes, with that of the fragment of this name, if there is one
  abbrev pub note : Fragments P → List ℕ → List ℕ → List ℕ
  note fragments noted n = option_map_or (insert_key nat_eq noted) (position (bytes_eq n) (map (λ f. f.0) fragments)) noted

  -- the indexes, with those of the fragments that these selections spread
  abbrev pub note_all : Fragments P → List ℕ → List (TypedSelection P) → List ℕ
  note_all fragments noted passed = fold (note fragments) noted (flat_map spread_names passed)

  -- the selections in the fragment at this index
  abbrev pub selections_at : Bool → Fragments P → ℕ → List (TypedSelection P)
  selections_at nested fragments place = option_map_or (λ f. selections_in nested f.1) (slice_get fragments place) []

  -- the same, each with the type of its set
  abbrev pub members_at : Bool → Fragments P → ℕ → List (Member P)
  members_at nested fragments place = option_map_or (λ f. members_in nested f.1) (slice_get fragments place) []

  -- the selections in the fragments that are noted and not yet entered, and in those noted on the way; the third argument limits how
  -- many fragments are entered
  abbrev pub left_in_fragments : Bool → Fragments P → ℕ → List ℕ → ℕ → List (Member P)
  left_in_fragments nested fragments zero noted entered = []
  left_in_fragments nested fragments (suc room) noted entered = option_map_or
      (λ place. members_at nested fragments place ++ left_in_fragments nested fragments room (note_all fragments noted (selections_at nested fragments place)) (entered + 1))
      (slice_get noted entered) []

  -- a selection and the selections inside it
  abbrev pub members_from : Bool → Member P → List (Member P)
  members_from nested e = members_of nested e.0 e.1

  -- selections without the types of their sets
  abbrev pub bare_selections : List (Member P) → List (TypedSelection P)
  bare_selections = map (λ e. e.1)

  -- the fields among these selections
  abbrev pub fields_among : List (Member P) → List (TypedSelection P)
  fields_among es = filter is_field (bare_selections es)

  -- the selections directly in a set, each with the type of the set
  abbrev pub own_members : TypedSet P → List (Member P)
  own_members s = map (λ x. (set_type s, x)) (own_selections s)

  -- the pending selections and the selections inside them
  abbrev pub pending_members : WalkState P → List (Member P)
  pending_members w = flat_map (members_from w.nested) w.pending

  -- the selections that a walk has still to lend
  abbrev pub left_members : WalkState P → List (Member P)
  left_members w = pending_members w ++ left_in_fragments w.nested w.fragments (length w.fragments - w.entered) (note_all w.fragments w.noted (bare_selections (pending_members w))) w.entered

  -- the state of a walk with one more pending selection in front, with several, or with the fragment of a name noted
  abbrev pub with_next : Member P → WalkState P → WalkState P
  with_next e w = record w { pending = e ∷ w.pending }

  abbrev pub with_more : List (Member P) → WalkState P → WalkState P
  with_more es w = record w { pending = es ++ w.pending }

  abbrev pub with_name : List ℕ → WalkState P → WalkState P
  with_name n w = record w { noted = note w.fragments w.noted n }

  -- the names, with this one, or with those that the selection spreads: only names of fragments are added
  abbrev pub with_known : Fragments P → List (List ℕ) → List ℕ → List (List ℕ)
  with_known fragments names n = if is_some (fragment_named fragments n) then insert_key bytes_eq names n else names

  abbrev pub with_spread : Fragments P → List (List ℕ) → TypedSelection P → List (List ℕ)
  with_spread fragments names s = fold (with_known fragments) names (spread_names s)

-- a walk at the start of a set
abbrev pub at_start : {P : Type 0} → Bool → Fragments P → TypedSet P → WalkState P
at_start nested fragments start = record {
  nested = nested;
  fragments = fragments;
  pending = own_members start;
  noted = [];
  entered = 0;
}
