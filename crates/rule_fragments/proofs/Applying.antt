-- The fragment that a spread applies, as it is found in a map.
use Rattle.std.proofs.Common.{◌≡◌, ℕ, List, ap, ◌∙◌, Option, None, Some}
use Rattle.std.specs.Map.{lookup}
use Rattle.std.specs.Option.{option_map}
use Rattle.std.specs.Str.{bytes_eq}
use Rattle.indexmap.specs.IndexMap.{IndexMap}
use Rattle.graphql_names.specs.Node.{content, place}
use Rattle.graphql_names.specs.NameValue.{NameValue}
use Rattle.graphql_names.specs.Placed.{Place, Text}
use Rattle.graphql_names.specs.declared.node.Node.{Node}
use Rattle.schema_types.specs.Addresses.{under}
use Rattle.document_typed_selections.specs.TypedTree.{set_type}
use Rattle.document_typed_selections.specs.TypedParts.{typed_spread_node}
use Rattle.document_typed_selections.specs.declared.selection.FragmentSpread.{FragmentSpread}
use Rattle.document_typed_operations.specs.TypedDocument.{typed_fragment_tree}
use Rattle.document_typed_operations.specs.declared.operation.Fragment.{Fragment}
use Rattle.spec_document.specs.MeantTree.{MeantFragment, meant}
use Rattle.rule_reach.specs.Reach.{meant_fragments}
use Rattle.rule_reach.proofs.Found.{meant_node, found_under}
use Rattle.rule_fragments.specs.Applied.{ApplicationTree, application_in}

-- a spread of this name and of a fragment on this condition
abbrev pub spread_of : List ℕ → List ℕ → Place → Place → ApplicationTree
spread_of name condition at there = record { name = Some name; condition = condition; place = at; fragment_place = there }

module _ {S : Type 0} (fragments : IndexMap NameValue (Node Fragment) S) (n : Node FragmentSpread) (spread : FragmentSpread) (same : spread ≡ content n) where
  abbrev pub Finds : Option (Node Fragment) → Type 0
  Finds o = o ≡ lookup (λ (a : NameValue). bytes_eq spread.fragment_name.text a.text) fragments.entries

  abbrev made : MeantFragment Place → ApplicationTree
  made f = spread_of (content n).fragment_name.text f.type_condition.it (place n) f.place

  found : (o : Option (Node Fragment)) → Finds o → option_map meant_node o ≡ under (content n).fragment_name.text (meant_fragments fragments)
  found o is = ap (option_map meant_node) is ∙ found_under fragments spread.fragment_name ∙ ap (λ (f : FragmentSpread). under f.fragment_name.text (meant_fragments fragments)) same

  pub applies_none : Finds None → None ≡ application_in (meant_fragments fragments) (meant (typed_spread_node n))
  applies_none is = ap (option_map made) (found None is)

  pub applies_found : (f : Node Fragment) → Finds (Some f) → (g : Fragment) → g ≡ content f → (condition : Text Place) → condition ≡ set_type (typed_fragment_tree g).set
      → (at : Place) → at ≡ place n → (there : Place) → there ≡ place f
      → Some (spread_of spread.fragment_name.text condition.it at there) ≡ application_in (meant_fragments fragments) (meant (typed_spread_node n))
  applies_found f is g whole condition on at stands there defined =
      let conditions = on ∙ ap (λ (g : Fragment). set_type (typed_fragment_tree g).set) whole in
      (λ i. Some (spread_of (same i).fragment_name.text (conditions i).it (stands i) (defined i))) ∙ ap (option_map made) (found (Some f) is)
