use Rattle.rule_field_groups.specs.in_definitions.Judged.{judged}
use Rattle.rule_field_groups.specs.in_document_definitions.Selected.{operations}
use Rattle.rule_field_groups.specs.in_sets.in_schema.SchemaOf.{schema_tree}
use Rattle.rule_field_groups.specs.in_sets.in_reach.in_typed_operations.DocumentView.{document_meant}
use Rattle.rule_merging.proofs.merging.FieldsInSetCanMerge.new.Goals as goal

pub invariant_of-result : goal.invariant_of-result
invariant_of-result c = record { settled = ∣ (λ is. c.new.ensures.settled (judged (schema_tree c.args.schema.now)) (document_meant c.args.document.now)) ∣₁ }

pub returns-clause-counted : goal.returns-clause-counted
returns-clause-counted c = c.new.ensures.counted (document_meant c.args.document.now) (operations (document_meant c.args.document.now))

pub returns-clause-none : goal.returns-clause-none
returns-clause-none c = c.new.ensures.lists
