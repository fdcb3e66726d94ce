-- Private: leads to `Merging.antt` of the rules' definitions. Which types are abstract, which are composite, as tests.
use Rattle.std.specs.Prelude.{ℕ, Bool, true, false, ◌&&◌, not, List}
use Rattle.std.specs.Option.{option_map_or}
use Rattle.schema_types.specs.SchemaTree.{is_leaf_kind, is_output_kind}
use Rattle.schema_types.specs.declared.type_kind.TypeKind.{TypeKind}
use Rattle.schema_types.specs.declared.type_kind.TypeKind.TheVariants as kind
use Rattle.rule_selection_queries.specs.in_definitions.Judged.{Judged}

abbrev pub is_abstract_kind : TypeKind → Bool
is_abstract_kind kind.Interface = true
is_abstract_kind kind.Union = true
is_abstract_kind _ = false

abbrev pub is_abstract : Judged → List ℕ → Bool
is_abstract s n = option_map_or (λ t. is_abstract_kind t.kind) (s.type_named n) false

abbrev pub is_composite : Judged → List ℕ → Bool
is_composite s n = option_map_or (λ t. is_output_kind t.kind && not (is_leaf_kind t.kind)) (s.type_named n) false
