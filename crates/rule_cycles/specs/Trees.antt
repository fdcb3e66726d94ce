-- Private: leads to `CyclesTold`. What the rules are given, as contracts see it.
use Rattle.graphql_names.specs.Placed.{Place}
use Rattle.schema_types.specs.SchemaTree.{SchemaTree}
use Rattle.graphql_schema.specs.SchemaOf.{schema_tree}
use Rattle.rule_cycles.specs.declared.rule_context.RuleContext.{RuleContext}

-- the schema that is judged
abbrev pub schema_of : RuleContext → SchemaTree Place
schema_of judging = schema_tree judging.schema.now
