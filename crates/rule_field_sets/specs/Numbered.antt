-- What contracts see of numbers: the tables, in which each number means what is read of the first field or set that got it.
use Rattle.std.specs.Prelude.{◌≡◌, ◌↔◌, ℕ, Bool, IsTrue, false, ◌&&◌, List, map, Option, Some, unwrap_or, option_map, slice_get, nat_eq}
use Rattle.std.specs.Cmp.Lexicographic.{pointwise}
use Rattle.std.specs.Borrow.{Bor}
use Rattle.std.specs.Map.{lookup}
use Rattle.std.specs.Option.{option_map_or, option_eq}
use Rattle.graphql_names.specs.NameValue.{NameValue}
use Rattle.graphql_names.specs.Placed.{Place, node_tree}
use Rattle.tree_literals.specs.TypeTree.{TypeTree, type_tree, unplaced_type}
use Rattle.tree_literals.specs.declared.ty.«Type».{«Type»}
use Rattle.tree_directives.specs.DirectiveTree.{argument_tree, unplaced_arguments}
use Rattle.document_typed_selections.specs.TypedTree.{typed_set_tree}
use Rattle.document_typed_selections.specs.declared.selection.Field.{Field}
use Rattle.document_typed_selections.specs.declared.selection.SelectionSet.{SelectionSet}
use Rattle.rule_document_definitions.specs.in_spec_document.MeantTree.{MeantSet, meant_of_set}
use Rattle.rule_definitions.specs.Judged.{Judged}
use Rattle.rule_document_definitions.specs.ReadFields.{ReadHead, ReadField, ReadSet, head_of, field_read, list_read}
use Rattle.rule_reach.specs.Fields.{field_of}
use Rattle.rule_reach.specs.declared.field_selection.FieldSelection.{FieldSelection}
use Rattle.rule_field_sets.specs.Kinds.{is_abstract}
use Rattle.rule_field_sets.specs.Tables.{ReadCall, PartTables, SetParts, Tables, MeansField}
use Rattle.rule_field_sets.specs.declared.member.Member.{Member}
use Rattle.rule_field_sets.specs.declared.numbers.Call.{Call}
use Rattle.rule_field_sets.specs.declared.numbers.FieldKey.{FieldKey}
use Rattle.rule_field_sets.specs.declared.numbers.SetKey.{SetKey}
use Rattle.rule_field_sets.specs.declared.numbers.KnownField.{KnownField}
use Rattle.rule_field_sets.specs.declared.numbers.PartNumbers.{PartNumbers}
use Rattle.rule_field_sets.specs.declared.numbers.Parts.{Parts}
use Rattle.rule_field_sets.specs.declared.numbers.Numbers.{Numbers}

-- ---- what is read of a field, a call, a type, a set

abbrev pub read_of : FieldSelection → ReadField
read_of x = field_read (field_of x)

abbrev pub meant_of : SelectionSet → MeantSet Place
meant_of s = meant_of_set (typed_set_tree s)

abbrev pub read_list : SelectionSet → ReadSet
read_list s = list_read (meant_of s)

abbrev pub type_read : «Type» → TypeTree (Unit {0})
type_read t = unplaced_type (type_tree t)

abbrev pub field_call : Field → ReadCall
field_call f = (f.name.text, unplaced_arguments (map (node_tree argument_tree) f.arguments.items))

abbrev pub call_read : Call → ReadCall
call_read c = (c.name.now.text, unplaced_arguments (map (node_tree argument_tree) c.arguments.now.items))

-- ---- tables

abbrev pub texts_of : List (Bor NameValue) → List (List ℕ)
texts_of names = map (λ n. n.now.text) names

abbrev pub parents_of : List (Bor NameValue × Bool) → List (List ℕ × Bool)
parents_of es = map (λ e. (e.0.now.text, e.1)) es

abbrev pub calls_of : List Call → List ReadCall
calls_of cs = map call_read cs

abbrev pub types_of : List (Bor «Type») → List (TypeTree (Unit {0}))
types_of ts = map (λ t. type_read t.now) ts

abbrev pub set_parts : SetKey → SetParts
set_parts k = (k.fields.items, texts_of k.spreads.items)

abbrev pub firsts_of : List (FieldKey × KnownField) → List (FieldKey × ReadField)
firsts_of es = map (λ e. (e.0, read_of e.1.first)) es

abbrev pub first_sets_of : List (SetKey × Bor SelectionSet) → List (SetParts × ReadSet)
first_sets_of es = map (λ e. (set_parts e.0, read_list e.1.now)) es

-- for each number, the newest node that has a field of that number
abbrev pub nodes_in : List (FieldKey × KnownField) → List ℕ
nodes_in es = map (λ e. e.1.node) es

abbrev pub parts_of : Parts → PartTables
parts_of p = record { keys = texts_of p.keys.keys; parents = parents_of p.parents.entries; calls = calls_of p.calls.keys; types = types_of p.types.keys }

abbrev pub tables_of : Numbers → Tables
tables_of t = record { parts = parts_of t.parts; fields = firsts_of t.fields.entries; sets = first_sets_of t.sets.entries }

abbrev pub nodes_of : Numbers → List ℕ
nodes_of t = nodes_in t.fields.entries

-- ---- private: what is looked up before it is put into a table

-- `==` of keys
abbrev pub same_field_key : FieldKey → FieldKey → Bool
same_field_key a b = nat_eq a.key b.key && (nat_eq a.parent b.parent && (nat_eq a.call b.call && (nat_eq a.ty b.ty && option_eq nat_eq a.set b.set)))

abbrev pub same_set_key : SetKey → SetKey → Bool
same_set_key a b = pointwise nat_eq a.fields.items b.fields.items && pointwise (λ m n. pointwise nat_eq m.now.text n.now.text) a.spreads.items b.spreads.items

-- whether the type of this name is abstract: what the table has of it, or else what the schema says
abbrev pub kind_known : Judged → List (Bor NameValue × Bool) → List ℕ → Bool
kind_known s es n = unwrap_or (lookup (λ k. pointwise nat_eq n k.now.text) es) (is_abstract s n)

-- the first field with this key, or else this one
abbrev pub first_known : List (FieldKey × KnownField) → FieldKey → FieldSelection → FieldSelection
first_known es k x = unwrap_or (option_map (λ v. v.first) (lookup (same_field_key k) es)) x

-- the first set with this key, or else this one
abbrev pub first_listed : List (SetKey × Bor SelectionSet) → SetKey → SelectionSet → SelectionSet
first_listed es k s = unwrap_or (option_map (λ v. v.now) (lookup (same_set_key k) es)) s

-- there is a known field, and this is its newest node
abbrev pub node_is : Option KnownField → ℕ → Bool
node_is known node = option_map_or (λ v. nat_eq v.node node) known false

-- ---- what is told of a field

-- these are the numbers of the field's parts
pub record ArePartNumbers (t : PartTables) (n : PartNumbers) (h : ReadHead) : Type 0 where
  pub key : slice_get t.keys n.key ≡ Some h.key
  pub parent : slice_get t.parents n.parent ≡ Some (h.parent, n.is_shared)
  pub call : slice_get t.calls n.call ≡ Some (h.name, h.arguments)
  pub ty : slice_get t.types n.ty ≡ Some h.ty

-- the member is this field, with its number and those of its parts, and this node of its own set
pub record IsMember (t : Tables) (x : FieldSelection) (node : Option ℕ) (m : Member) : Type 0 where
  pub selection : m.selection ≡ x
  pub number : MeansField t m.number (read_of m.selection)
  pub parts : ArePartNumbers t.parts (record { key = m.key; parent = m.parent; is_shared = m.is_shared; call = m.call; ty = m.ty }) (head_of (read_of m.selection))
  pub below : m.below ≡ node

-- the node is noted at this number, and nothing else changes; `was_there` tells whether it was noted there before
pub record NotesNode (old : List ℕ) (n node : ℕ) (was_there : Bool) (new : List ℕ) : Type 0 where
  pub noted : slice_get new n ≡ Some node
  pub others : (m : ℕ) → (m ≡ n → ⊥) → slice_get new m ≡ slice_get old m
  pub told : IsTrue was_there ↔ (slice_get old n ≡ Some node)
