use Rattle.std.proofs.Common.{◌≡◌, not, filter, take}
use Rattle.rule_field_sets.specs.in_schema.SchemaOf.{schema_tree}
use Rattle.rule_selection_queries.specs.in_definitions.Judged.{judged}
use Rattle.rule_field_groups.specs.KeyGroups.{is_shared}
use Rattle.rule_field_groups.proofs.groups.object_fields.Given as goal

abbrev pub invariant-loop-field : goal.invariant-loop-field
invariant-loop-field l = l.found.items ≡ filter (λ x. not (is_shared (judged (schema_tree l.schema)) x)) (take l.field-index l.list)
