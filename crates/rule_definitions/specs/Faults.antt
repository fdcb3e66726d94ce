-- A broken rule with its data, and its place.
use Rattle.schema_types.specs.Addresses.{Address}
use Rattle.rule_definitions.specs.Diagnostics.{Diagnostic, map_places}
use Rattle.rule_definitions.specs.Spots.{Spot, At}

-- P is the type of places, E that of the places of a type's extensions
pub record FaultAt (P E : Type 0) : Type 0 where
  pub place : P
  pub breach : Diagnostic P E

abbrev pub wrong : {P E : Type 0} → P → Diagnostic P E → FaultAt P E
wrong place breach = record { place = place; breach = breach }

-- a fault of a schema, with a type's address for its extensions
abbrev pub SchemaFault : Type 0
SchemaFault = FaultAt Spot Address

-- a fault whose places are all addresses
abbrev pub told : Address → Diagnostic Address Address → SchemaFault
told at breach = wrong (At at) (map_places At (λ a. a) breach)
