-- Private: leads to `is_object_in`. The kind of the first type of a name.
use Rattle.std.specs.Prelude.{ℕ, List, Option, None, Some, if◌then◌else◌}
use Rattle.std.specs.Option.{option_map, option_map_or}
use Rattle.std.specs.Str.{bytes_eq}
use Rattle.graphql_names.specs.Placed.{Place}
use Rattle.schema_fold.specs.in_definitions.DefinitionTree.{DefinitionTree}
use Rattle.schema_fold.specs.in_schema_types.TypeParts.{type_here}
use Rattle.schema_fold.specs.in_schema_types.declared.type_kind.TypeKind.{TypeKind}
use Rattle.schema_fold.specs.NumberedDefinition.{Definitions, type_name, type_named}

abbrev pub kind_named : List ℕ → Definitions → Option TypeKind
kind_named n ds = option_map (λ t. t.parts.kind) (type_named n ds)

-- the kind of the type that is defined here, if one is and it has the name
abbrev pub kind_here : List ℕ → DefinitionTree Place → Option TypeKind
kind_here n d = option_map_or (λ t. if bytes_eq n (type_name t) then Some t.parts.kind else None) (type_here d) None
