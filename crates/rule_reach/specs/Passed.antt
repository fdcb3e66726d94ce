-- Private: leads to `AreKeysLone`. A walk over a set: the fields and sets that were visited (passed), and the selections that are left;
-- and a walk level by level over the sets of the selected fields (GraphQL, October 2021, section 5.3.2).
use Rattle.std.specs.Prelude.{◌≡◌, ◌⊎◌, ◌++◌, ℕ, List, [], ◌∷◌, map, Contains}
use Rattle.std.specs.Borrow.{Bor}
use Rattle.graphql_names.specs.NameValue.{NameValue}
use Rattle.graphql_names.specs.Placed.{Place}
use Rattle.graphql_names.specs.declared.node.Node.{Node}
use Rattle.document_typed_selections.specs.TypedTree.{TypedField, TypedSpread, TypedInline, typed_set_tree}
use Rattle.document_typed_selections.specs.declared.selection.Selection.{Selection}
use Rattle.document_typed_selections.specs.declared.selection.SelectionSet.{SelectionSet}
use Rattle.document_typed_operations.specs.declared.operation.Fragment.{Fragment}
use Rattle.spec_document.specs.MeantTree.{meant_of_set}
use Rattle.document_typed_operations.specs.Reached.{Member}
use Rattle.document_typed_operations.specs.WalkView.{lent_member}
use Rattle.indexmap.specs.IndexMap.{IndexMap}
use Rattle.rule_definitions.specs.Words.{Present}
use Rattle.rule_definitions.specs.in_schema_types.Addresses.{under}
use Rattle.tree_type_members.specs.TypeSystemTree.{unplaced_field_definition}
use Rattle.rule_document_definitions.specs.in_spec_document.in_components.Names.{Entries}
use Rattle.rule_document_definitions.specs.ReadFields.{ReadField, read_field, ReadSet, nothing_read, head_of, set_of, head_read, set_read, field_read, ReadSameKey, SelectsRead}
use Rattle.rule_reach.specs.Fields.{field_of, meant_fragments}
use Rattle.rule_reach.specs.declared.field_selection.FieldSelection.{FieldSelection}
use Rattle.rule_reach.specs.LoneKeys.{HasOneOfEachKey, AreKeysLone}
use Rattle.rule_reach.specs.declared.lone_keys.KeyWalk.{KeyWalk}

-- what merging reads of a set, of several sets, of fields, and of the fragments of a document
abbrev pub read_of_set : SelectionSet → ReadSet
read_of_set s = set_read (meant_of_set (typed_set_tree s))

abbrev pub sets_read : List (Bor SelectionSet) → List ReadSet
sets_read sets = map (λ (s : Bor SelectionSet). read_of_set s.now) sets

abbrev pub passed_fields : List FieldSelection → List ReadField
passed_fields fields = map (λ x. field_read (field_of x)) fields

abbrev pub map_read : {S : Type 0} → IndexMap NameValue (Node Fragment) S → Entries ReadSet
map_read m = map (λ e. (e.0, set_read e.1.set)) (meant_fragments m)

-- the selections that are still to be visited
abbrev pub members_left : List (Bor NameValue × Bor Selection) → List (Member Place)
members_left left = map lent_member left

-- none of the fields has this response key
abbrev pub LacksKey : List ReadField → List ℕ → Type 0
LacksKey fields key = (x : ReadField) → Contains fields x → (head_of x).key ≡ key → ⊥

-- the set is in the next level, or has no selections
abbrev pub IsNext : List ReadSet → ReadSet → Type 0
IsNext next s = (s ≡ nothing_read) ⊎ Contains next s

-- `new` contains the sets of `old`, and `s` too unless that has no selections
pub record AddsSet (s : ReadSet) (old new : List ReadSet) : Type 0 where
  pub kept : (t : ReadSet) → Contains old t → Contains new t
  pub added : IsNext new s

-- the state of a walk over a set: the fields that were visited, the selections still to visit, and the sets of the next level
pub record WalkState : Type 0 where
  pub fields : List ReadField
  pub left : List (Member Place)
  pub next : List ReadSet

abbrev pub state_of : KeyWalk → List (Bor SelectionSet) → WalkState
state_of w next = record { fields = passed_fields w.fields.items; left = members_left w.left.items; next = sets_read next }

-- the state with one more selection to visit
abbrev pub with_left : Member Place → WalkState → WalkState
with_left e w = record w { left = w.left ++ e ∷ [] }

module _ (fragments : Entries ReadSet) where
  -- the selection selects the field `x`: it is that field, or the fragment that it spreads or the inline fragment selects it
  abbrev pub Selects : {P : Type 0} → Member P → ReadField → Type 0
  Selects (ty, TypedField p d h s) x = read_field (head_read ty.it (unplaced_field_definition d.it) h) (set_read (meant_of_set s)) ≡ x
  Selects (ty, TypedSpread p n ds) x = Present (under n.it fragments) (λ t. SelectsRead fragments t x)
  Selects (ty, TypedInline p c ds s) x = SelectsRead fragments (set_read (meant_of_set s)) x

  abbrev pub OneSelects : {P : Type 0} → List (Member P) → ReadField → Type 0
  OneSelects {P} es x = (e : Member P) × (Contains es e × Selects e x)

  -- `new` contains the selections of `old`, and for each field that is selected a selection that selects it
  pub record LeavesFor (IsSelected : ReadField → Type 0) (old new : List (Member Place)) : Type 0 where
    pub kept : (e : Member Place) → Contains old e → Contains new e
    pub selected : (x : ReadField) → IsSelected x → OneSelects new x

  -- the same for the fields that the fragment of this name selects
  abbrev pub LeavesFragment : List ℕ → List (Member Place) → List (Member Place) → Type 0
  LeavesFragment n = LeavesFor (λ x. Present (under n fragments) (λ t. SelectsRead fragments t x))

  -- the walk over the set `s` has reached the state `w`: each field of the set was visited or is selected by a selection still to visit,
  -- visited fields with the same response key are equal, and the next level contains their sets and the `given` ones
  pub record IsWalked (s : ReadSet) (given : List ReadSet) (w : WalkState) : Type 0 where
    pub selected : (x : ReadField) → SelectsRead fragments s x → Contains w.fields x ⊎ OneSelects w.left x
    pub keys : (x y : ReadField) → Contains w.fields x → Contains w.fields y → ReadSameKey x y → x ≡ y
    pub below : (x : ReadField) → Contains w.fields x → IsNext w.next (set_of x)
    pub kept : (t : ReadSet) → Contains given t → Contains w.next t

  -- a step from `old` to `new`: if a walk over any set has reached `old`, it has also reached `new`
  abbrev pub GoesOn : WalkState → WalkState → Type 0
  GoesOn old new = (s : ReadSet) (given : List ReadSet) → IsWalked s given old → IsWalked s given new

  -- `sets` were visited: `fields` contains each field that they select, each set has each response key once, and the sets of the fields
  -- are in `next` or have no selections
  pub record ArePassed (sets : List ReadSet) (fields : List ReadField) (next : List ReadSet) : Type 0 where
    pub selected : (s : ReadSet) (x : ReadField) → Contains sets s → SelectsRead fragments s x → Contains fields x
    pub keys : (s : ReadSet) → Contains sets s → HasOneOfEachKey fragments s
    pub below : (x : ReadField) → Contains fields x → IsNext next (set_of x)

  abbrev pub IsPassed : List ReadSet → List ReadSet → Type 0
  IsPassed sets next = (fields : List ReadField) × ArePassed sets fields next

  -- if some sets were visited, with `old` as the next level, then these and `s` were visited, with `new`
  abbrev pub PassesSet : ReadSet → List ReadSet → List ReadSet → Type 0
  PassesSet s old new = (sets : List ReadSet) → IsPassed sets old → IsPassed (sets ++ s ∷ []) new

  -- the set is in this level; or it has each response key once, and `fields` contains the fields that it selects
  abbrev pub IsOpen : List ReadSet → List ReadField → ReadSet → Type 0
  IsOpen level fields s = Contains level s ⊎ (HasOneOfEachKey fragments s × ((x : ReadField) → SelectsRead fragments s x → Contains fields x))

  -- a walk from the set `s` has come to this level: the set `s`, and that of each of `fields`, is in the level or done (`IsOpen`)
  pub record LeadsTo (s : ReadSet) (level : List ReadSet) (fields : List ReadField) : Type 0 where
    pub start : IsOpen level fields s
    pub below : (x : ReadField) → Contains fields x → IsOpen level fields (set_of x)

  abbrev pub IsLed : ReadSet → List ReadSet → Type 0
  IsLed s level = (fields : List ReadField) × LeadsTo s level fields

  -- each set from which a walk has come to this level has each response key once, at any depth
  abbrev pub LeadsToLoneKeys : List ReadSet → Type 0
  LeadsToLoneKeys level = (s : ReadSet) → IsLed s level → AreKeysLone fragments s
