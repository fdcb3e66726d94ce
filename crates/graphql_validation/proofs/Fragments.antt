-- The names of a document's fragments.
use Rattle.std.proofs.Common.{◌≡◌, [], ◌∷◌, map, refl, ap, sym, subst}
use Rattle.std.specs.List.{IsDistinct}
use Rattle.std.specs.Map.{keys_of}
use Rattle.std.specs.Str.{bytes_eq}
use Rattle.graphql_names.specs.Placed.{Place, Placed, node_tree}
use Rattle.schema_components.specs.Names.{Entries, same_text}
use Rattle.schema_types.specs.TypeView.{name_text}
use Rattle.rule_fragments.proofs.in_schema.DistinctFacts.{distinct_entries}
use Rattle.document_typed_operations.specs.TypedDocument.{TypedFragment, typed_fragment_tree, typed_document_tree}
use Rattle.document_typed_operations.specs.declared.document.ExecutableDocument.{ExecutableDocument}
use Rattle.rule_fragments.specs.in_typed_operations.DocumentView.{meant_by_fragment, document_meant}

meant_keys : (es : Entries (Placed Place (TypedFragment Place))) → keys_of (map (λ e. (e.0, meant_by_fragment e.1)) es) ≡ keys_of es
meant_keys [] = refl
meant_keys (e ∷ es) = ap (λ l. e.0 ∷ l) (meant_keys es)

pub names_distinct : (d : ExecutableDocument) → IsDistinct (same_text name_text) (keys_of d.fragments.entries) → IsDistinct bytes_eq (keys_of (document_meant d).fragments)
names_distinct d h = subst (IsDistinct bytes_eq) (sym (meant_keys (typed_document_tree d).fragments)) (distinct_entries (node_tree typed_fragment_tree) d.fragments.entries h)
