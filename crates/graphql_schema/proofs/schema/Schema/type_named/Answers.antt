use Rattle.schema_building.specs.in_schema_types.TypeView.{extended_type}
use Rattle.graphql_schema.proofs.Lookups.{got}
use Rattle.graphql_schema.proofs.schema.Schema.type_named.Goals as goal

pub returns : goal.returns
returns c = got extended_type c.args.name.now c.args.self.now.types c.get.result c.get.ensures.value
