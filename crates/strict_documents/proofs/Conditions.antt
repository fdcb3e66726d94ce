-- The type that a fragment is on, as it is found in a map.
use Rattle.std.proofs.Common.{◌≡◌, refl, ap, ◌∙◌, Option, None, Some}
use Rattle.std.specs.Map.{lookup}
use Rattle.std.specs.Option.{option_map}
use Rattle.std.specs.Str.{bytes_eq}
use Rattle.indexmap.specs.IndexMap.{IndexMap}
use Rattle.graphql_names.specs.Node.{content}
use Rattle.graphql_names.specs.NameValue.{NameValue}
use Rattle.graphql_names.specs.Placed.{Place, Text}
use Rattle.graphql_names.specs.declared.node.Node.{Node}
use Rattle.schema_types.specs.Addresses.{under}
use Rattle.document_typed_selections.specs.TypedTree.{TypedSelection, TypedField, TypedSpread, TypedInline, set_type}
use Rattle.document_typed_selections.specs.TypedParts.{typed_place, typed_spread_node}
use Rattle.document_typed_selections.specs.declared.selection.FragmentSpread.{FragmentSpread}
use Rattle.document_typed_operations.specs.TypedDocument.{typed_fragment_tree}
use Rattle.document_typed_operations.specs.declared.operation.Fragment.{Fragment}
use Rattle.spec_document.specs.MeantTree.{MeantFragment, meant}
use Rattle.rule_document_definitions.specs.Selected.{selection_place}
use Rattle.rule_reach.specs.Reach.{meant_fragments}
use Rattle.rule_reach.proofs.Found.{meant_node, found_under}
use Rattle.strict_documents.specs.Applying.{condition_of}

pub place_meant : {P : Type 0} (x : TypedSelection P) → typed_place x ≡ selection_place (meant x)
place_meant (TypedField p d h v) = refl
place_meant (TypedSpread p n ds) = refl
place_meant (TypedInline p c ds v) = refl

module _ {S : Type 0} (fragments : IndexMap NameValue (Node Fragment) S) (n : Node FragmentSpread) (spread : FragmentSpread) (same : spread ≡ content n) where
  abbrev pub Finds : Option (Node Fragment) → Type 0
  Finds o = o ≡ lookup (λ (a : NameValue). bytes_eq spread.fragment_name.text a.text) fragments.entries

  found : (o : Option (Node Fragment)) → Finds o → option_map meant_node o ≡ under (content n).fragment_name.text (meant_fragments fragments)
  found o is = ap (option_map meant_node) is ∙ found_under fragments spread.fragment_name ∙ ap (λ (f : FragmentSpread). under f.fragment_name.text (meant_fragments fragments)) same

  pub no_condition : Finds None → None ≡ condition_of (meant_fragments fragments) (meant (typed_spread_node n))
  no_condition is = ap (option_map (λ (f : MeantFragment Place). f.type_condition.it)) (found None is)

  pub a_condition : (f : Node Fragment) → Finds (Some f) → (g : Fragment) → g ≡ content f → (condition : Text Place) → condition ≡ set_type (typed_fragment_tree g).set
      → Some condition.it ≡ condition_of (meant_fragments fragments) (meant (typed_spread_node n))
  a_condition f is g whole condition on =
      let conditions = on ∙ ap (λ (g : Fragment). set_type (typed_fragment_tree g).set) whole in
      (λ i. Some (conditions i).it) ∙ ap (option_map (λ (f : MeantFragment Place). f.type_condition.it)) (found (Some f) is)
