-- What a walk lends at a call, and what it has left.
use Rattle.std.specs.Prelude.{◌≡◌, ℕ, suc, Bool, true, false, List, [], ◌∷◌, length, if◌then◌else◌, Option, Result, MatchOption, MatchResult}
use Rattle.std.specs.Borrow.{Bor}
use Rattle.std.specs.Iterator.{Count, at_most}
use Rattle.std.specs.declared.alloc.AllocError.{AllocError}
use Rattle.graphql_names.specs.Placed.{Place}
use Rattle.graphql_names.specs.NameValue.{NameValue}
use Rattle.graphql_names.specs.declared.node.Node.{Node}
use Rattle.document_typed_selections.specs.TypedTree.{TypedSelection}
use Rattle.document_typed_selections.specs.TypedParts.{typed_field_node}
use Rattle.document_typed_selections.specs.declared.selection.Field.{Field}
use Rattle.document_typed_selections.specs.declared.selection.Selection.{Selection}
use Rattle.document_typed_operations.specs.Reached.{Member}
use Rattle.document_typed_operations.specs.Left.{left_members, fields_among}
use Rattle.document_typed_operations.specs.WalkView.{walk_state, lent_member}
use Rattle.document_typed_operations.specs.declared.selections.ReachedSelections.{ReachedSelections}
use Rattle.document_typed_operations.specs.declared.fields.AllFields.{AllFields}
use Rattle.document_typed_operations.specs.declared.fields.RootFields.{RootFields}

-- the call lent the first of the items that were left; or it ran out of memory, or nothing was left, and in both cases the walk is over;
-- a walk that was over returns `None`
abbrev pub Lends : {A X W : Type 0} → (A → X) → (W → Bool) → (W → List X) → W → Option (Result A AllocError) → W → Type 0
Lends tree is_over left old given new = MatchOption given
    ((left old ≡ []) × (is_over new ≡ true))
    (λ item. (is_over old ≡ false) × MatchResult item
    (λ lent. left old ≡ tree lent ∷ left new)
    (λ refused. is_over new ≡ true))

-- how many more items come at most
abbrev pub items_at_most : {X : Type 0} → Bool → List X → ℕ
items_at_most over left = if over then 0 else suc (length left)

module _ {W : Type 0} (is_over : W → Bool) (left : W → List (TypedSelection Place)) where
  -- the same for fields
  abbrev pub LendsNext : W → Option (Result (Bor (Node Field)) AllocError) → W → Type 0
  LendsNext = Lends (λ field. typed_field_node field.now) is_over left

  -- at most this many items come
  abbrev pub items_to_lend : W → Count
  items_to_lend w = at_most (items_at_most (is_over w) (left w))

-- whether a walk is over, and the selections that are left: none once it is over
abbrev pub selections_are_over : ReachedSelections → Bool
selections_are_over w = w.is_over

abbrev pub selections_left : ReachedSelections → List (Member Place)
selections_left w = if w.is_over then [] else left_members (walk_state w.walk)

-- the same for selections
abbrev pub LendsNextSelection : ReachedSelections → Option (Result (Bor NameValue × Bor Selection) AllocError) → ReachedSelections → Type 0
LendsNextSelection = Lends lent_member selections_are_over selections_left

abbrev pub selections_to_lend : ReachedSelections → Count
selections_to_lend w = at_most (items_at_most (selections_are_over w) (selections_left w))

-- the fields that are left
abbrev pub fields_left : ReachedSelections → List (TypedSelection Place)
fields_left w = fields_among (selections_left w)

abbrev pub all_fields_is_over : AllFields → Bool
all_fields_is_over w = selections_are_over w.selections

abbrev pub all_fields_left : AllFields → List (TypedSelection Place)
all_fields_left w = fields_left w.selections

abbrev pub root_fields_is_over : RootFields → Bool
root_fields_is_over w = selections_are_over w.selections

abbrev pub root_fields_left : RootFields → List (TypedSelection Place)
root_fields_left w = fields_left w.selections
