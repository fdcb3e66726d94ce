-- Private: leads to `Reached` of `rule_document_definitions`. What a selection set reaches in a document, as lists of meanings (GraphQL, October 2021, sections 2.8 and 5.5.2).
use Rattle.std.specs.Prelude.{◌≡◌, ◌↔◌, ℕ, List, map, Contains, Option, None, Some}
use Rattle.std.specs.Borrow.{Bor}
use Rattle.graphql_names.specs.Placed.{Place, node_tree}
use Rattle.schema_components.specs.Names.{Entries, entries_of}
use Rattle.schema_types.specs.TypeView.{name_text}
use Rattle.document_typed_selections.specs.TypedTree.{typed_selection_tree}
use Rattle.document_typed_selections.specs.declared.selection.Selection.{Selection}
use Rattle.document_typed_operations.specs.TypedDocument.{typed_fragment_tree}
use Rattle.document_typed_operations.specs.declared.operation.Fragment.{Fragment}
use Rattle.graphql_names.specs.NameValue.{NameValue}
use Rattle.graphql_names.specs.declared.node.Node.{Node}
use Rattle.rule_document_definitions.specs.in_spec_document.MeantTree.{MeantSelection, MeantOperation, MeantFragment, MeantDocument, meant}
use Rattle.document_typed_operations.specs.DocumentView.{meant_by_fragment}
use Rattle.rule_definitions.specs.Words.{Present}
use Rattle.rule_document_definitions.specs.Selected.{InOperation, Standing, StandingField, field_there, spread_name, fragment_named, own}
use Rattle.rule_document_definitions.specs.Reached.{Closed, LeadsInto}
use Rattle.rule_reach.specs.declared.lists.Reach.{Reach}
use Rattle.indexmap.specs.IndexMap.{IndexMap}

-- a selection, with the name of the type of its set before it
abbrev pub Member : Type 0 → Type 0
Member P = List ℕ × MeantSelection P

-- the meaning of a selection with the name of its set's type; the meaning of a fragment
abbrev pub member_of : Bor NameValue × Bor Selection → Member Place
member_of e = (e.0.now.text, meant (typed_selection_tree e.1.now))

abbrev pub fragment_of : Bor (Node Fragment) → MeantFragment Place
fragment_of f = meant_by_fragment (node_tree typed_fragment_tree f.now)

-- the selections of a reach; its fragments
abbrev pub reached_members : Reach → List (Member Place)
reached_members r = map member_of r.selections.items

abbrev pub reached_fragments_of : Reach → List (MeantFragment Place)
reached_fragments_of r = map fragment_of r.fragments.items

-- the meanings of the fragments of a document, each under its name
abbrev pub meant_fragments : {S : Type 0} → IndexMap NameValue (Node Fragment) S → Entries (MeantFragment Place)
meant_fragments m = map (λ e. (e.0, meant_by_fragment e.1)) (entries_of name_text (node_tree typed_fragment_tree) m)

-- `reached` has exactly the selections reachable from `start` in the document, and `spread` exactly the fragments that these selections spread
pub record IsReach {P : Type 0} (d : MeantDocument P) (start : List (Standing P)) (reached : List (Member P)) (spread : List (MeantFragment P)) : Type 0 where
  pub selections : (e : Member P) → Contains reached e ↔ ((x : Standing P) × (Closed (Contains start) (LeadsInto d) x × ((x.parent, x.it) ≡ e)))
  pub fragments : (f : MeantFragment P) → Contains spread f ↔ ((x : Standing P) × (Closed (Contains start) (LeadsInto d) x × Present (spread_name x.it) (λ n. fragment_named d n ≡ Some f)))

-- what an operation reaches in a document
abbrev pub IsReachOf : MeantDocument Place → MeantOperation Place → Reach → Type 0
IsReachOf d o r = IsReach d (own o) (reached_members r) (reached_fragments_of r)

-- the selection as a field, if it is one, without its position: that is always `InOperation None`
abbrev pub field_of : {P : Type 0} → Member P → Option (StandingField P)
field_of e = field_there (InOperation None) e.0 e.1
