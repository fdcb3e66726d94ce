use Rattle.std.proofs.Common.{ap, ◌∙◌}
use Rattle.schema_building.specs.Building.{folded}
use Rattle.schema_building.specs.BuilderValue.{BuilderValue}
use Rattle.schema_fold_lists.proofs.BuiltIn.{built_in_rules}
use Rattle.graphql_schema.proofs.schema.Schema.new.Goals as goal

pub returns-in-Ok-clause-schema : goal.returns-in-Ok-clause-schema
returns-in-Ok-clause-schema c = c.in-Ok.ensures.schema ∙ ap folded c.builder.ensures

pub returns-in-Ok-clause-own_names : goal.returns-in-Ok-clause-own_names
returns-in-Ok-clause-own_names c = c.in-Ok.ensures.own_names

pub returns-in-Ok-clause-sources : goal.returns-in-Ok-clause-sources
returns-in-Ok-clause-sources c = c.in-Ok.ensures.sources ∙ ap (λ (b : BuilderValue). b.sources) c.builder.ensures

pub returns-in-Ok-clause-rules : goal.returns-in-Ok-clause-rules
returns-in-Ok-clause-rules c = built_in_rules 1
