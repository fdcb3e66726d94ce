use Rattle.graphql_schema.proofs.schema.Schema.to_ast.Goals as goal

pub returns-clause-definitions : goal.returns-clause-definitions
returns-clause-definitions c = c.in_ok-definitions.ensures

pub returns-clause-sources : goal.returns-clause-sources
returns-clause-sources c = c.new.ensures.empty
