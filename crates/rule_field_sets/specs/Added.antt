-- Private: leads to `AreSets` of `Nodes.antt`. A node that is being added, of whose fields some were added.
use Rattle.std.specs.Prelude.{◌≡◌, ◌↔◌, ◌<◌, ◌≤◌, ◌+◌, ◌-◌, ◌++◌, ◌∷◌, [], ℕ, Bool, IsTrue, false, if◌then◌else◌, List, map, flat_map, length, Option, Some, None, MatchOption, Contains, slice_get}
use Rattle.std.specs.Option.{option_map}
use Rattle.std.specs.List.{AllZip}
use Rattle.graphql_names.specs.Placed.{Place}
use Rattle.document_typed_selections.specs.TypedTree.{TypedSet}
use Rattle.spec_document.specs.MeantTree.{meant_of_set}
use Rattle.document_typed_operations.specs.Reached.{NamedSet, members_in, selections_in, spread_names}
use Rattle.rule_document_definitions.specs.Selected.{HasNone}
use Rattle.rule_field_sets.specs.Fields.{fields_of}
use Rattle.rule_reach.specs.Lent.{fields_lent}
use Rattle.rule_reach.specs.declared.field_selection.FieldSelection.{FieldSelection}
use Rattle.rule_field_sets.specs.Tables.{Grows, Tables, MeansField, TablesGrow}
use Rattle.rule_field_sets.specs.Numbered.{read_of, tables_of, nodes_of, IsMember}
use Rattle.rule_field_sets.specs.Found.{set_of, selections_of, texts_of, set_at, AreFound}
use Rattle.rule_field_sets.specs.Nodes.{own_set, typed_at, IsNodeOf, IsNodeBelow, AreMembers, set_nodes, fragment_nodes, fragments_in}
use Rattle.rule_field_sets.specs.declared.found.FoundField.{FoundField}
use Rattle.rule_field_sets.specs.declared.found.FoundSet.{FoundSet}
use Rattle.rule_field_sets.specs.declared.member.Member.{Member}
use Rattle.rule_field_sets.specs.declared.member.SetNode.{SetNode}
use Rattle.rule_field_sets.specs.declared.field_sets.NodeFields.{NodeFields}
use Rattle.rule_field_sets.specs.declared.field_sets.FieldSets.{FieldSets}

-- ---- sets that were found

-- the node of the found set with this index, if the first found set becomes the node `last`
abbrev pub node_at : ℕ → Option ℕ → Option ℕ
node_at last below = option_map (λ p. last - p) below

-- the set, within one that was found, has no selections and no index; or it has some, and its node is there
abbrev pub IsFoundBelow : List SetNode → ℕ → TypedSet Place → Option ℕ → Type 0
IsFoundBelow nodes last s below = MatchOption below (HasNone (meant_of_set s)) (λ p. (HasNone (meant_of_set s) → ⊥) × ((p ≤ last) × IsNodeOf nodes (last - p) s))

abbrev pub AreReadyBelow : List SetNode → ℕ → List FoundField → Type 0
AreReadyBelow nodes last fields = (f : FoundField) → Contains fields f → IsFoundBelow nodes last (set_of f) f.below

-- the found set has all fields and spreads of its set, and the nodes of the sets of its fields are there
pub record IsReady (nodes : List SetNode) (last : ℕ) (v : FoundSet) : Type 0 where
  pub fields : fields_of (selections_of v) ≡ fields_lent (members_in false (set_at v))
  pub spreads : texts_of v.spreads.items ≡ flat_map spread_names (selections_in false (set_at v))
  pub below : AreReadyBelow nodes last v.fields.items

-- these are some set and all sets that are found within it
abbrev pub AreAllFound : List FoundSet → Type 0
AreAllFound found = (s : TypedSet Place) × AreFound s found

-- the number of the set of a node, if there is a node
abbrev pub IsSetBelow : List SetNode → Option ℕ → Option ℕ → Type 0
IsSetBelow nodes None number = number ≡ None
IsSetBelow nodes (Some n) number = (v : SetNode) × ((slice_get nodes n ≡ Some v) × (number ≡ Some v.number))

-- ---- fields that were added

-- the members, and after them this one, unless it is repeated
abbrev pub with_new : Bool → Member → List Member → List Member
with_new is_repeated m ms = if is_repeated then ms else ms ++ m ∷ []

-- of the node that was begun these fields were added
pub record AreAdded (t : Tables) (ms : List ℕ) (begun : ℕ) (vs : List SetNode) (xs : List FieldSelection) (ns : List ℕ) (us : List Member) : Type 0 where
  pub numbers : AllZip (λ n x. MeansField t n (read_of x)) ns xs
  pub members : AreMembers (fields_of xs) us
  pub each : (m : Member) → Contains us m → IsMember t m.selection m.below m
  pub below : (m : Member) → Contains us m → IsNodeBelow vs (length vs) (own_set m.selection) m.below
  pub met : (n : ℕ) → (slice_get ms n ≡ Some begun) ↔ Contains (map (λ (m : Member). m.number) us) n

abbrev pub HasAdded : FieldSets → List FieldSelection → NodeFields → Type 0
HasAdded w passed v = AreAdded (tables_of w.numbers) (nodes_of w.numbers) w.begun (set_nodes w) passed v.numbers.items v.members.items

-- this field is added to those of the node that were added
abbrev pub PassesField : FieldSets → NodeFields → FieldSelection → FieldSets → NodeFields → Type 0
PassesField w v x w' v' = (xs : List FieldSelection) → HasAdded w xs v → HasAdded w' (xs ++ x ∷ []) v'

abbrev pub selections_in_order : List FoundField → List FieldSelection
selections_in_order fields = map (λ (f : FoundField). f.selection) fields

-- these fields are added to them
abbrev pub PassesFields : FieldSets → NodeFields → List FoundField → FieldSets → NodeFields → Type 0
PassesFields w v fs w' v' = (xs : List FieldSelection) → HasAdded w xs v → HasAdded w' (xs ++ selections_in_order fs) v'

-- no field was met yet in the node that was begun
abbrev pub IsFresh : FieldSets → Type 0
IsFresh w = (n : ℕ) → slice_get (nodes_of w.numbers) n ≡ Some w.begun → ⊥

-- ---- what changes

-- numbers may be added, and nothing else changes
pub record OnlyNumbers (old new : FieldSets) : Type 0 where
  pub schema : new.schema ≡ old.schema
  pub fragments : new.fragments ≡ old.fragments
  pub tables : TablesGrow (tables_of old.numbers) (tables_of new.numbers)
  pub nodes : set_nodes new ≡ set_nodes old
  pub starts : fragment_nodes new ≡ fragment_nodes old
  pub begun : new.begun ≡ old.begun

-- numbers and nodes may be added; the schema, the fragments and the nodes of these do not change
pub record NodesGrow (old new : FieldSets) : Type 0 where
  pub schema : new.schema ≡ old.schema
  pub fragments : new.fragments ≡ old.fragments
  pub tables : TablesGrow (tables_of old.numbers) (tables_of new.numbers)
  pub nodes : Grows (set_nodes old) (set_nodes new)
  pub starts : fragment_nodes new ≡ fragment_nodes old

-- a node of this set is appended
abbrev pub AddsNode : FieldSets → TypedSet Place → FieldSets → Type 0
AddsNode old s new = (v : SetNode) × ((set_nodes new ≡ set_nodes old ++ v ∷ []) × (typed_at v ≡ s))

-- it is the set of the first fragment that has no node
abbrev pub IsNextFragment : FieldSets → TypedSet Place → Type 0
IsNextFragment w s = (f : NamedSet Place) × ((slice_get (fragments_in w) (length (fragment_nodes w)) ≡ Some f) × (f.1 ≡ s))
