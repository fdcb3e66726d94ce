-- A document that is made of what was typed means what was kept.
use Rattle.std.proofs.Common.{◌≡◌, ℕ, List, [], ◌∷◌, map, Option, None, Some, refl, ap}
use Rattle.std.specs.Option.{option_map}
use Rattle.graphql_names.specs.Placed.{node_tree}
use Rattle.schema_types.specs.TypeView.{name_text}
use Rattle.document_typed_operations.specs.TypedDocument.{typed_operation_tree, typed_fragment_tree, typed_document_tree}
use Rattle.document_typed_operations.specs.declared.document.ExecutableDocument.{ExecutableDocument}
use Rattle.document_typing.specs.DocumentView.{meant_by_operation, meant_by_fragment, meant_document, operation_meant}
use Rattle.document_typing.specs.StepsView.{named_meanings, fragment_meanings}

module _ {V W X : Type 0} (meant : W → X) (view : V → W) where
  pub optional : (o : Option V) → option_map meant (option_map view o) ≡ option_map (λ v. meant (view v)) o
  optional None = refl
  optional (Some v) = refl

  pub entries : {K : Type 0} (key : K → List ℕ) (es : List (K × V))
      → map {B = List ℕ × X} (λ (e : List ℕ × W). (e.0, meant e.1)) (map {B = List ℕ × W} (λ (e : K × V). (key e.0, view e.1)) es)
      ≡ map {B = List ℕ × X} (λ (e : K × V). (key e.0, meant (view e.1))) es
  entries key [] = refl
  entries key (e ∷ es) = let first : List ℕ × X = (key e.0, meant (view e.1)) in ap (λ l. first ∷ l) (entries key es)

pub document-meant : (d : ExecutableDocument) → meant_document (typed_document_tree d) ≡ record {
  anonymous = option_map operation_meant d.operations.anonymous;
  named = named_meanings d.operations.named;
  fragments = fragment_meanings d.fragments;
}
document-meant d = λ i. record {
  anonymous = optional meant_by_operation (node_tree typed_operation_tree) d.operations.anonymous i;
  named = entries meant_by_operation (node_tree typed_operation_tree) name_text d.operations.named.entries i;
  fragments = entries meant_by_fragment (node_tree typed_fragment_tree) name_text d.fragments.entries i;
}
