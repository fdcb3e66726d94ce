use Rattle.std.proofs.Common.{ap, ◌∙◌}
use Rattle.std.specs.Prelude.{unwrap_or}
use Rattle.rule_definitions.specs.Judged.{judged}
use Rattle.graphql_schema.specs.SchemaOf.{schema_tree}
use Rattle.rule_field_sets.specs.Kinds.{is_abstract}
use Rattle.rule_field_sets.proofs.numbers.known_kind.Goals as goal

pub returns-in-Some : goal.returns-in-Some
returns-in-Some c = ap (λ o. unwrap_or o (is_abstract (judged (schema_tree c.args.schema.now)) c.args.ty.now.text)) c.in-Some.ensures.value

pub returns-in-None : goal.returns-in-None
returns-in-None c = c.is_abstract.ensures ∙ ap (λ o. unwrap_or o (is_abstract (judged (schema_tree c.args.schema.now)) c.args.ty.now.text)) c.in-None.ensures.value
