use Rattle.graphql_schema.specs.SchemaOf.{schema_tree}
use Rattle.graphql_schema.proofs.FieldLooks.{fields_plain}
use Rattle.graphql_schema.proofs.laws.fields_are_plain.Goals as goal

pub returns : goal.returns
returns c = fields_plain (schema_tree c.args.schema.now)
