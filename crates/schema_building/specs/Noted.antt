-- Private: leads to `specs/Building.antt`. The types that are extended and those that are defined, by name.
use Rattle.std.specs.Prelude.{ℕ, List, map, option_to_list}
use Rattle.std.specs.List.{flat_map}
use Rattle.graphql_names.specs.Placed.{Place}
use Rattle.schema_components.specs.Lists.{firsts}
use Rattle.schema_built_in.specs.in_schema_types.TypeParts.{TypeParts, type_extension_here}
use Rattle.schema_built_in.specs.in_fold.NumberedDefinition.{Definitions, types_in}
use Rattle.schema_fold_index.specs.Index.{NamedKind}

abbrev pub named_kind : TypeParts Place → NamedKind
named_kind p = (p.name, p.kind)

abbrev pub parts_key : TypeParts Place → List ℕ
parts_key p = p.name.it

-- the name and kind of the first type of each name
abbrev pub first_kinds : List (TypeParts Place) → List NamedKind
first_kinds ps = map named_kind (firsts parts_key ps)

abbrev pub extended_in : Definitions → List (TypeParts Place)
extended_in ds = flat_map (λ d. option_to_list (type_extension_here d)) ds

abbrev pub defined_in : Definitions → List (TypeParts Place)
defined_in ds = map (λ t. t.parts) (types_in ds)
