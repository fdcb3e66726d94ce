use Rattle.std.proofs.Common.{refl}
use Rattle.graphql_schema.specs.SchemaOf.{schema_tree}
use Rattle.graphql_schema.proofs.DistinctFacts.{all_distinct}
use Rattle.graphql_schema.proofs.distinct.names_differ.Goals as goal

pub returns : goal.returns
returns c =
    let s = c.args.schema.now in
    all_distinct (schema_tree s) s.types.entries s.directive_definitions.entries refl refl c.len.ensures.unique c.len-2.ensures.unique c.each_differ.ensures
