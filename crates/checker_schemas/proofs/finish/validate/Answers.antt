use Rattle.std.proofs.Common.{refl, sym, ap, ◌∙◌}
use Rattle.checker_calls.specs.in_schema.SchemaOf.{schema_tree}
use Rattle.checker_calls.specs.in_schema.declared.schema.Schema.{Schema}
use Rattle.graphql_rules.specs.in_faults.DetailsView.{diagnostics_of}
use Rattle.checker_schemas.proofs.Validating.{rules_told}
use Rattle.checker_schemas.proofs.finish.validate.Goals as goal

pub returns-then-not-is_empty-clause-refused : goal.returns-then-not-is_empty-clause-refused
returns-then-not-is_empty-clause-refused c =
    rules_told (schema_tree c.args.schema.now) (diagnostics_of c.new-faults.result) (diagnostics_of c.validate_schema.new.list) c.new-faults.ensures c.in_ok-validate_schema.ensures.told
    (λ e. let h = c.if-not-is_empty.ensures.1 e in absurd cc)

pub returns-clause-valid : goal.returns-clause-valid
returns-clause-valid c = c.in_ok-validate_schema.ensures.silent (c.if-not-is_empty.ensures.0 refl ∙ sym c.new-faults.ensures)

pub returns-clause-sources : goal.returns-clause-sources
returns-clause-sources c = ap (λ (s : Schema). s.sources) c.in_ok-validate_schema.ensures.rest
