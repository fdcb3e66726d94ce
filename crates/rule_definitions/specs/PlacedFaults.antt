-- A rule on schemas is broken, with its fault at a place.
use Rattle.std.specs.Prelude.{List}
use Rattle.graphql_names.specs.Placed.{Place}
use Rattle.schema_types.specs.SchemaTree.{SchemaTree}
use Rattle.rule_definitions.specs.Faults.{FaultAt, SchemaFault}
use Rattle.rule_definitions.specs.Judged.{Judged, judged}
use Rattle.rule_definitions.specs.Rules.{IsToldAs}

-- a fault with its place and the places of its data
abbrev pub PlacedFault : Type 0
PlacedFault = FaultAt Place (List Place)

-- one of these rules is broken by the schema, with this fault
abbrev pub Told : SchemaTree Place → (Judged → SchemaFault → Type 0) → PlacedFault → Type 0
Told s Fails fault = (broken : SchemaFault) × (Fails (judged s) broken × IsToldAs s broken fault)
