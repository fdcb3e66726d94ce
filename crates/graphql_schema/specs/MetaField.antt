-- A meta-field as a component of a type: its origin is the type's definition, not an extension.
use Rattle.std.specs.Prelude.{None}
use Rattle.graphql_names.specs.Placed.{Place}
use Rattle.schema_components.specs.Given.{Given}

abbrev pub by_definition : {A : Type 0} → A → Given Place A
by_definition x = record { extension = None; it = x }
