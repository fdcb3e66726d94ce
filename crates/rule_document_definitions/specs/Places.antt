-- The places of a document and of a schema, as values of a type P.
use Rattle.rule_definitions.specs.in_schema_types.Addresses.{Address}

pub record Places (P : Type 0) : Type 1 where
  -- the place of an address of the schema
  pub at : Address → P
  -- the third reaches from where the first begins to where the second ends
  pub Spans : P → P → P → Type 0
  -- no place
  pub nowhere : P
