-- Departures that are told alike, and each once.
use Rattle.std.specs.Prelude.{Bool, true, false, ◌&&◌, ◌==◌, List, [], ◌∷◌, bytes_eq, Option, None, Some, if◌then◌else◌}
use Rattle.std.specs.List.{list_any}
use Rattle.graphql_names.specs.Placed.{Place}
use Rattle.schema_types.specs.in_components.Lists.{each_place}
use Rattle.strict_documents.specs.Departure.{Departure}
use Rattle.strict_documents.specs.DepartureViews.{departure_name}

-- whether both are one place, or there is none
abbrev pub is_at_one_place : Place → Place → Bool
is_at_one_place None None = true
is_at_one_place None (Some q) = false
is_at_one_place (Some p) None = false
is_at_one_place (Some p) (Some q) = p.file_id.0 == q.file_id.0 && (p.offset == q.offset && p.length == q.length)

-- whether both are told alike: at one place, under one name, with one text
abbrev pub is_alike : Departure Place → Departure Place → Bool
is_alike d e = is_at_one_place d.place e.place && (bytes_eq (departure_name d.kind) (departure_name e.kind) && bytes_eq d.name e.name)

-- those that no earlier one is told as
abbrev pub each_once : List (Departure Place) → List (Departure Place)
each_once = each_place (λ before d. if list_any (is_alike d) before then [] else d ∷ [])
