-- What contracts see of the departures of a document.
use Rattle.std.specs.Prelude.{◌≡◌, ◌↔◌, List, Vec, take, Contains}
use Rattle.std.specs.declared.alloc.Global.{Global}
use Rattle.graphql_names.specs.Placed.{Place}
use Rattle.schema_types.specs.SchemaTree.{SchemaTree}
use Rattle.spec_document.specs.MeantTree.{MeantDocument}
use Rattle.rule_definitions.specs.Room.{most_told}
use Rattle.strict_documents.specs.Departure.{Departure}
use Rattle.strict_documents.specs.DepartureViews.{departures_of}
use Rattle.strict_documents.specs.declared.departure.Departure.{Departure as Rust}
use Rattle.strict_documents.specs.DepartsIn.{DepartsIn}

-- the first 1,000 of all departures of the document under the schema; one in a fragment is told for each operation that reaches it
abbrev pub TellsDepartures : SchemaTree Place → MeantDocument Place → Vec Rust Global → Type 0
TellsDepartures t d told = (all : List (Departure Place)) × ((departures_of told ≡ take most_told all) × ((u : Departure Place) → Contains all u ↔ DepartsIn t d u))
