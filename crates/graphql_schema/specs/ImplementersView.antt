-- What contracts see of implementers.
use Rattle.std.specs.Prelude.{List, map, Option, ◌++◌}
use Rattle.std.specs.Option.{option_map}
use Rattle.std.specs.Slice.Iter.{iter_rest}
use Rattle.indexmap.specs.IndexMap.{IndexMap, get}
use Rattle.graphql_names.specs.NameValue.{NameValue}
use Rattle.schema_components.specs.Names.{same_text}
use Rattle.schema_building.specs.in_schema_types.TypeView.{name_text}
use Rattle.graphql_schema.specs.Implementers.{ImplementersTree}
use Rattle.graphql_schema.specs.declared.implementers.Implementers.{Implementers}
use Rattle.graphql_schema.specs.declared.implementers.ImplementersNames.{ImplementersNames}

abbrev pub implementers_tree : Implementers → ImplementersTree
implementers_tree t = record { objects = map name_text t.objects.keys; interfaces = map name_text t.interfaces.keys }

-- the implementers that a map has under the name
abbrev pub implementers_at : {S : Type 0} → IndexMap NameValue Implementers S → NameValue → Option ImplementersTree
implementers_at m i = option_map implementers_tree (get (same_text name_text) m i)

-- the names that an iterator has still to yield: those of objects, then those of interfaces
abbrev pub left_implementers : ImplementersNames → List NameValue
left_implementers s = iter_rest s.objects ++ iter_rest s.interfaces
