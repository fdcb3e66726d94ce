-- Spreads and inline fragments among typed selections, and what is under a name among fragments.
use Rattle.std.proofs.Common.{◌≡◌, ◌∙◌, refl, ap, sym, Option, None, Some, true≢false, is_some}
use Rattle.std.specs.Option.{option_map}
use Rattle.std.specs.Map.{lookup}
use Rattle.std.specs.Str.{bytes_eq}
use Rattle.indexmap.specs.IndexMap.{IndexMap}
use Rattle.graphql_names.specs.NameValue.{NameValue}
use Rattle.graphql_names.specs.declared.node.Node.{Node}
use Rattle.document_typed_selections.specs.TypedTree.{TypedSelection, TypedField, TypedSpread, TypedInline}
use Rattle.document_typed_selections.specs.TypedParts.{as_typed_spread, as_typed_inline}
use Rattle.document_typed_operations.specs.declared.operation.Fragment.{Fragment}
use Rattle.spec_document.specs.MeantTree.{meant}
use Rattle.schema_types.specs.Addresses.{under}
use Rattle.rule_document_definitions.specs.Selected.{spread_name, inline_condition}
use Rattle.rule_reach.specs.Reach.{meant_fragments}
use Rattle.rule_reach.proofs.Found.{meant_node, found_under}

module _ {P : Type 0} where
  pub no_spread : (t : TypedSelection P) → None ≡ as_typed_spread t → spread_name (meant t) ≡ None
  no_spread (TypedField p d h s) is = refl
  no_spread (TypedSpread p n ds) is = absurd (true≢false (sym (ap is_some is)))
  no_spread (TypedInline p c ds s) is = refl

  pub the_spread : (t x : TypedSelection P) → Some x ≡ as_typed_spread t → x ≡ t
  the_spread (TypedField p d h s) x is = absurd (true≢false (ap is_some is))
  the_spread (TypedSpread p n ds) x is = cc
  the_spread (TypedInline p c ds s) x is = absurd (true≢false (ap is_some is))

  pub no_inline : (t : TypedSelection P) → None ≡ as_typed_inline t → inline_condition (meant t) ≡ None
  no_inline (TypedField p d h s) is = refl
  no_inline (TypedSpread p n ds) is = refl
  no_inline (TypedInline p c ds s) is = absurd (true≢false (sym (ap is_some is)))

  pub the_inline : (t x : TypedSelection P) → Some x ≡ as_typed_inline t → x ≡ t
  the_inline (TypedField p d h s) x is = absurd (true≢false (ap is_some is))
  the_inline (TypedSpread p n ds) x is = absurd (true≢false (ap is_some is))
  the_inline (TypedInline p c ds s) x is = cc

mapped_some : {A B : Type 0} (f : A → B) (o : Option A) → is_some (option_map f o) ≡ is_some o
mapped_some f None = refl
mapped_some f (Some x) = refl

-- a map has a fragment under a name where one stands under it
pub known_under : {S : Type 0} (fragments : IndexMap NameValue (Node Fragment) S) (k : NameValue) → is_some (lookup (λ (a : NameValue). bytes_eq k.text a.text) fragments.entries) ≡ is_some (under k.text (meant_fragments fragments))
known_under fragments k = sym (mapped_some meant_node (lookup (λ (a : NameValue). bytes_eq k.text a.text) fragments.entries)) ∙ ap is_some (found_under fragments k)
