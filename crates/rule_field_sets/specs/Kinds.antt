-- Private: leads to `IsAbstract` of `Merging.antt` of the rules' definitions. Which types are abstract, as a test.
use Rattle.std.specs.Prelude.{ℕ, Bool, true, false, List}
use Rattle.std.specs.Option.{option_map_or}
use Rattle.schema_types.specs.declared.type_kind.TypeKind.{TypeKind}
use Rattle.schema_types.specs.declared.type_kind.TypeKind.TheVariants as kind
use Rattle.rule_definitions.specs.Judged.{Judged}

abbrev pub is_abstract_kind : TypeKind → Bool
is_abstract_kind kind.Interface = true
is_abstract_kind kind.Union = true
is_abstract_kind _ = false

abbrev pub is_abstract : Judged → List ℕ → Bool
is_abstract s n = option_map_or (λ t. is_abstract_kind t.kind) (s.type_named n) false
