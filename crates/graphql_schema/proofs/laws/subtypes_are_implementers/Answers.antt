use Rattle.graphql_schema.proofs.Subtyping.{schema_subtypes}
use Rattle.graphql_schema.proofs.laws.subtypes_are_implementers.Goals as goal

pub returns : goal.returns
returns c = schema_subtypes c.args.schema.now c.len-count.ensures.unique
