-- The selection sets of a document as nodes (GraphQL, October 2021, section 5.3.2): what a node has of its set, and what does not
-- change when nodes are added.
use Rattle.std.specs.Prelude.{◌≡◌, ◌<◌, ◌≤◌, ℕ, false, List, map, flat_map, length, Option, Some, MatchOption, Contains, slice_get}
use Rattle.graphql_names.specs.Node.{content}
use Rattle.graphql_names.specs.Placed.{Place}
use Rattle.document_typed_selections.specs.TypedTree.{TypedSet, typed_set_tree}
use Rattle.document_typed_selections.specs.declared.selection.SelectionSet.{SelectionSet}
use Rattle.spec_document.specs.MeantTree.{meant_of_set}
use Rattle.document_typed_operations.specs.Reached.{NamedSet, Fragments, members_in, selections_in, spread_names}
use Rattle.document_typed_operations.specs.WalkView.{fragments_tree}
use Rattle.rule_cycle_search.specs.Paths.{HasNoRepeat}
use Rattle.rule_definitions.specs.Judged.{Judged, judged}
use Rattle.rule_document_definitions.specs.Selected.{HasNone, StandingField}
use Rattle.rule_document_definitions.specs.ReadFields.{field_read}
use Rattle.graphql_schema.specs.SchemaOf.{schema_tree}
use Rattle.rule_reach.specs.Fields.{field_of}
use Rattle.rule_reach.specs.Lent.{fields_lent}
use Rattle.rule_reach.specs.declared.field_selection.FieldSelection.{FieldSelection}
use Rattle.rule_field_sets.specs.Tables.{Grows, Tables, MeansSet, AreRight, AreJudged, TablesGrow}
use Rattle.rule_field_sets.specs.Numbered.{read_of, read_list, tables_of, nodes_of, IsMember}
use Rattle.rule_field_sets.specs.Found.{ArePlaces}
use Rattle.rule_field_sets.specs.declared.member.Member.{Member}
use Rattle.rule_field_sets.specs.declared.member.SetNode.{SetNode}
use Rattle.rule_field_sets.specs.declared.field_sets.FieldSets.{FieldSets}

-- ---- a node

-- the set of a field
abbrev pub own_set : FieldSelection → TypedSet Place
own_set x = typed_set_tree (content x.field.now).selection_set

-- the set of a node
abbrev pub typed_at : SetNode → TypedSet Place
typed_at v = typed_set_tree v.set.now

-- the node with this index is one of this set
abbrev pub IsNodeOf : List SetNode → ℕ → TypedSet Place → Type 0
IsNodeOf nodes n s = (v : SetNode) × ((slice_get nodes n ≡ Some v) × (typed_at v ≡ s))

-- a set without selections has no node, any other one a node with a smaller index
abbrev pub IsNodeBelow : List SetNode → ℕ → TypedSet Place → Option ℕ → Type 0
IsNodeBelow nodes i s below = MatchOption below (HasNone (meant_of_set s)) (λ j. (HasNone (meant_of_set s) → ⊥) × ((j < i) × IsNodeOf nodes j s))

-- the fields of a set and of its inline fragments
abbrev pub fields_at : SelectionSet → List (StandingField Place)
fields_at s = fields_lent (members_in false (typed_set_tree s))

-- the names of the fragments that a set and its inline fragments spread
abbrev pub names_at : SelectionSet → List (List ℕ)
names_at s = flat_map spread_names (selections_in false (typed_set_tree s))

-- each member is one of the fields, each field is read as one of the members, and no two members have the same number
pub record AreMembers (fields : List (StandingField Place)) (members : List Member) : Type 0 where
  pub within : (m : Member) → Contains members m → Contains fields (field_of m.selection)
  pub covers : (f : StandingField Place) → Contains fields f → (m : Member) × (Contains members m × (read_of m.selection ≡ field_read f))
  pub apart : HasNoRepeat (map (λ (m : Member). m.number) members)

-- the node with the index `i` has the number, the fields and the indices of the fragments of its set
pub record IsNode (t : Tables) (fragments : Fragments Place) (nodes : List SetNode) (i : ℕ) (v : SetNode) : Type 0 where
  pub number : MeansSet t v.number (read_list v.set.now)
  pub members : AreMembers (fields_at v.set.now) v.members.items
  pub numbers : (m : Member) → Contains v.members.items m → IsMember t m.selection m.below m
  pub below : (m : Member) → Contains v.members.items m → IsNodeBelow nodes i (own_set m.selection) m.below
  pub spreads : ArePlaces fragments (names_at v.set.now) v.spreads.items

-- ---- all nodes

abbrev pub set_nodes : FieldSets → List SetNode
set_nodes w = w.nodes.items

-- the indices of the nodes of the document's fragments, in its order
abbrev pub fragment_nodes : FieldSets → List ℕ
fragment_nodes w = w.starts.items

abbrev pub fragments_in : FieldSets → Fragments Place
fragments_in w = fragments_tree w.fragments.now

abbrev pub schema_in : FieldSets → Judged
schema_in w = judged (schema_tree w.schema.now)

-- the first fragments have these nodes, in order
pub record AreStarts (fragments : Fragments Place) (nodes : List SetNode) (starts : List ℕ) : Type 0 where
  pub within : length starts ≤ length fragments
  pub each : (i n : ℕ) → slice_get starts i ≡ Some n → (f : NamedSet Place) × ((slice_get fragments i ≡ Some f) × IsNodeOf nodes n f.1)

-- tables and nodes are right, and no field was met in a node that was not begun
pub record AreNodes (s : Judged) (fragments : Fragments Place) (t : Tables) (ms : List ℕ) (begun : ℕ) (vs : List SetNode) (ns : List ℕ) : Type 0 where
  pub right : AreRight t
  pub judged : AreJudged s t.parts.parents
  pub nodes : (i : ℕ) (v : SetNode) → slice_get vs i ≡ Some v → IsNode t fragments vs i v
  pub starts : AreStarts fragments vs ns
  pub met : (n m : ℕ) → slice_get ms n ≡ Some m → m ≤ begun

abbrev pub AreSets : FieldSets → Type 0
AreSets w = AreNodes (schema_in w) (fragments_in w) (tables_of w.numbers) (nodes_of w.numbers) w.begun (set_nodes w) (fragment_nodes w)

-- it is a member of some node
abbrev pub HasMember : FieldSets → Member → Type 0
HasMember w m = (i : ℕ) × ((v : SetNode) × ((slice_get (set_nodes w) i ≡ Some v) × Contains v.members.items m))

-- each fragment of the document has a node
abbrev pub HasAllStarts : FieldSets → Type 0
HasAllStarts w = length (fragment_nodes w) ≡ length (fragments_in w)

-- ---- nodes that are added

-- numbers and nodes may be added: each number means what it meant, and each node is unchanged
pub record SetsGrow (old new : FieldSets) : Type 0 where
  pub schema : new.schema ≡ old.schema
  pub fragments : new.fragments ≡ old.fragments
  pub tables : TablesGrow (tables_of old.numbers) (tables_of new.numbers)
  pub nodes : Grows (set_nodes old) (set_nodes new)
  pub starts : Grows (fragment_nodes old) (fragment_nodes new)
