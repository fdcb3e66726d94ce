-- Private: leads to `FragmentCycles`. What contracts see of fragments, and of references by spreads.
use Rattle.std.specs.Prelude.{◌≡◌, ◌++◌, ℕ, map, Vec, Option}
use Rattle.std.specs.Global.{Global}
use Rattle.std.specs.Borrow.{Bor}
use Rattle.std.specs.Option.{option_map}
use Rattle.graphql_names.specs.NameValue.{NameValue}
use Rattle.graphql_names.specs.Placed.{Place, node_tree}
use Rattle.graphql_names.specs.declared.node.Node.{Node}
use Rattle.schema_components.specs.Names.{Entries, entries_of}
use Rattle.schema_types.specs.TypeView.{name_text}
use Rattle.document_typed_selections.specs.declared.selection.FragmentSpread.{FragmentSpread}
use Rattle.document_typed_operations.specs.TypedDocument.{typed_fragment_tree}
use Rattle.document_typed_operations.specs.declared.operation.Fragment.{Fragment}
use Rattle.spec_document.specs.MeantTree.{MeantFragment}
use Rattle.rule_reach.specs.in_typed_operations.DocumentView.{meant_by_fragment}
use Rattle.fault_data.specs.DiagnosticView.{plain_spread}
use Rattle.indexmap.specs.IndexMap.{IndexMap}
use Rattle.rule_cycles.specs.Labels.{Labelled}
use Rattle.rule_cycles.specs.References.{between}
use Rattle.rule_fragments.specs.SpreadNumbers.{Spread}
use Rattle.rule_cycles.specs.declared.references.Reference.{Reference}
use Rattle.rule_cycles.specs.declared.references.References.{References}

-- the meaning of a fragment; the meanings of the fragments of a document, each under its name
abbrev pub fragment_meant : Node Fragment → MeantFragment Place
fragment_meant n = meant_by_fragment (node_tree typed_fragment_tree n)

abbrev pub fragment_entries : {S : Type 0} → IndexMap NameValue (Node Fragment) S → Entries (MeantFragment Place)
fragment_entries m = entries_of name_text fragment_meant m

-- the meaning of a borrowed fragment, if there is one, whatever its number
abbrev pub lent_at : Option (Bor (Node Fragment)) → ℕ → Option (MeantFragment Place)
lent_at f number = option_map (λ b. fragment_meant b.now) f

abbrev pub spread_tree : Node FragmentSpread → Spread
spread_tree n = node_tree plain_spread n

abbrev pub spread_view : Reference (Node FragmentSpread) → ℕ × Spread
spread_view r = (r.to, spread_tree r.by)

-- the old references, and after them these
abbrev pub AddsSpreads : Vec (Reference (Node FragmentSpread)) Global → Vec (Reference (Node FragmentSpread)) Global → Labelled Spread → Type 0
AddsSpreads old new references = map spread_view new.items ≡ map spread_view old.items ++ references

-- the spread by which a fragment first refers to another
abbrev pub spread_between : References (Node FragmentSpread) → ℕ → ℕ → Option Spread
spread_between r from to = option_map spread_tree (between r from to)
