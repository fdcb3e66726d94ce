use Rattle.std.proofs.Common.{subst}
use Rattle.document_typed_operations.specs.DocumentView.{document_meant}
use Rattle.graphql_schema.specs.SchemaOf.{schema_tree}
use Rattle.graphql_schema.specs.declared.schema.Schema.{Schema}
use Rattle.rule_warnings.specs.Views.{TellsDeprecatedUses}
use Rattle.graphql_report.proofs.warnings.found_in_document.Goals as goal

pub returns : goal.returns
returns c = record {
  used = subst (λ (s : Schema). TellsDeprecatedUses (schema_tree s) (document_meant c.args.document.now) c.in_ok-uses.uses) c.indexed.ensures c.in_ok-uses.ensures;
  departing = c.in_ok-departures.ensures;
  spelled = c.in_ok-characters.ensures;
  faultless = c.new.ensures;
}
