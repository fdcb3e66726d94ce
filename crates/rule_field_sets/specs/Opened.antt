-- Private: leads to `AreFound`. How sets are opened, one after the other, to find the sets of their fields.
use Rattle.std.specs.Prelude.{◌≡◌, ◌+◌, ◌++◌, ◌∷◌, ℕ, false, List, [], map, fold, flat_map, take, length, Option, Some, None, Contains, slice_get, if◌then◌else◌}
use Rattle.std.specs.Borrow.{Bor}
use Rattle.graphql_names.specs.NameValue.{NameValue}
use Rattle.graphql_names.specs.Placed.{Place, Text}
use Rattle.graphql_names.specs.declared.node.Node.{Node}
use Rattle.document_typed_selections.specs.TypedTree.{TypedField, TypedSpread, TypedInline, TypedSet, typed_set_tree, holds_none}
use Rattle.document_typed_selections.specs.TypedParts.{typed_field_node}
use Rattle.document_typed_selections.specs.declared.selection.Field.{Field}
use Rattle.document_typed_selections.specs.declared.selection.Selection.{Selection}
use Rattle.document_typed_selections.specs.declared.selection.SelectionSet.{SelectionSet}
use Rattle.document_typed_operations.specs.Reached.{Member, members_in, selections_in, spread_names}
use Rattle.document_typed_operations.specs.Left.{members_from, bare_selections}
use Rattle.document_typed_operations.specs.WalkView.{lent_member}
use Rattle.rule_document_definitions.specs.Selected.{StandingField}
use Rattle.rule_field_sets.specs.Fields.{fields_of}
use Rattle.rule_reach.specs.Lent.{field_lent, fields_lent}
use Rattle.rule_field_sets.specs.declared.found.FoundField.{FoundField}
use Rattle.rule_field_sets.specs.declared.found.FoundSet.{FoundSet}
use Rattle.rule_field_sets.specs.declared.found.Finding.{Finding}
use Rattle.rule_field_sets.specs.Found.{set_of, selections_of, texts_of, set_at, sets_at, IsBelow, AreFound}

-- the state while a set is opened: the sets that were found, the selections that are left, with those in their inline fragments, the
-- next one first, the set itself, the fields that were visited, the set of each with its index, and the names that were spread
pub record OpenState : Type 0 where
  pub sets : List (TypedSet Place)
  pub left : List (Member Place)
  pub set : TypedSet Place
  pub fields : List (StandingField Place)
  pub below : List (TypedSet Place × Option ℕ)
  pub spreads : List (List ℕ)

-- the selections that are left if these wait, the last one first, with those in their inline fragments
abbrev pub left_of : List (Bor NameValue × Bor Selection) → List (Member Place)
left_of waiting = fold (λ left e. members_from false (lent_member e) ++ left) [] waiting

abbrev pub typed_sets : List (Bor SelectionSet) → List (TypedSet Place)
typed_sets sets = map (λ (s : Bor SelectionSet). typed_set_tree s.now) sets

-- the sets of these fields, with their indices
abbrev pub below_of : List FoundField → List (TypedSet Place × Option ℕ)
below_of fields = map (λ f. (set_of f, f.below)) fields

abbrev pub state_of : Finding → FoundSet → OpenState
state_of w v = record {
  sets = typed_sets w.sets.items;
  left = left_of w.left.items;
  set = set_at v;
  fields = fields_of (selections_of v);
  below = below_of v.fields.items;
  spreads = texts_of v.spreads.items;
}

-- the index of a set, if this is the next index; the set itself, in a list; both only if it has selections
abbrev pub place_for : ℕ → TypedSet Place → Option ℕ
place_for n s = if holds_none s then None else Some n

abbrev pub own_set : TypedSet Place → List (TypedSet Place)
own_set s = if holds_none s then [] else s ∷ []

-- the set of a selection, if that is a field and selects something
abbrev pub sets_below : Member Place → List (TypedSet Place)
sets_below (ty, TypedField p d h s) = own_set s
sets_below (ty, TypedSpread p n ds) = []
sets_below (ty, TypedInline p c ds s) = []

-- the set of a selection with its index, if the selection is a field and this is the next index
abbrev pub placed : ℕ → Member Place → List (TypedSet Place × Option ℕ)
placed n (ty, TypedField p d h s) = (s, place_for n s) ∷ []
placed n (ty, TypedSpread p d ds) = []
placed n (ty, TypedInline p c ds s) = []

abbrev pub all_placed : ℕ → List (Member Place) → List (TypedSet Place × Option ℕ)
all_placed n [] = []
all_placed n (e ∷ es) = placed n e ++ all_placed (n + length (sets_below e)) es

-- the selections in a selection, if it is an inline fragment
abbrev pub inside : Member Place → List (Member Place)
inside (ty, TypedField p d h s) = []
inside (ty, TypedSpread p n ds) = []
inside (ty, TypedInline p c ds s) = members_in false s

-- these selections come next
abbrev pub with_more : List (Member Place) → OpenState → OpenState
with_more es w = record w { left = es ++ w.left }

-- the state after the selection is visited
abbrev pub passed : Member Place → OpenState → OpenState
passed e w = record w {
  sets = w.sets ++ sets_below e;
  left = inside e ++ w.left;
  fields = w.fields ++ field_lent e;
  below = w.below ++ placed (length w.sets) e;
  spreads = w.spreads ++ spread_names e.1;
}

abbrev pub with_field : Text Place → Node Field → OpenState → OpenState
with_field ty n w = passed (ty, typed_field_node n) w

-- the state after all that was left is visited
abbrev pub at_end : OpenState → OpenState
at_end w = record w {
  sets = w.sets ++ flat_map sets_below w.left;
  left = [];
  fields = w.fields ++ fields_lent w.left;
  below = w.below ++ all_placed (length w.sets) w.left;
  spreads = w.spreads ++ flat_map spread_names (bare_selections w.left);
}

-- the state after the selections of the set, with those in its inline fragments, and all that was left are visited
abbrev pub with_set : TypedSet Place → OpenState → OpenState
with_set s w = at_end (with_more (members_in false s) w)

-- nothing of the set was visited yet
abbrev pub begun : TypedSet Place → Finding → OpenState
begun s w = record {
  sets = typed_sets w.sets.items;
  left = left_of w.left.items;
  set = s;
  fields = [];
  below = [];
  spreads = [];
}

-- this set is the first of these sets, and the found sets are the first of them; each found set was opened
pub record AreOpened (set : TypedSet Place) (sets : List (TypedSet Place)) (found : List FoundSet) : Type 0 where
  pub first : slice_get sets 0 ≡ Some set
  pub same : sets_at found ≡ take (length found) sets
  pub fields : (v : FoundSet) → Contains found v → fields_of (selections_of v) ≡ fields_lent (members_in false (set_at v))
  pub spreads : (v : FoundSet) → Contains found v → texts_of v.spreads.items ≡ flat_map spread_names (selections_in false (set_at v))
  pub below : (i : ℕ) (v : FoundSet) → slice_get found i ≡ Some v → (f : FoundField) → Contains v.fields.items f → IsBelow i sets (set_of f) f.below

-- if the old ones are the sets opened so far from a set, the new ones are all that are found from that set
abbrev pub GoesOn : Finding → List FoundSet → List FoundSet → Type 0
GoesOn w old new = (set : TypedSet Place) → AreOpened set (typed_sets w.sets.items) old → AreFound set new
