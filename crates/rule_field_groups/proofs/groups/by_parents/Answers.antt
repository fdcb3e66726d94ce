use Rattle.std.proofs.Common.{◌∙◌, length, ap, subst}
use Rattle.rule_field_sets.specs.in_schema.SchemaOf.{schema_tree}
use Rattle.rule_selection_queries.specs.in_definitions.Judged.{judged}
use Rattle.rule_field_groups.specs.Grouped.{lists_of, parent_of, AreFiled}
use Rattle.rule_field_groups.proofs.Sharing.{parents_once}
use Rattle.rule_field_groups.proofs.groups.by_parents.Goals as goal

pub returns-clause-parents : goal.returns-clause-parents
returns-clause-parents c = record {
  shared = c.in_ok-shared.ensures;
  own = subst (λ l. AreFiled parent_of l (lists_of c.in_ok-own.own)) (c.deref.ensures.value ∙ c.in_ok-objects.ensures) c.in_ok-own.ensures.filed;
}

pub returns-clause-once : goal.returns-clause-once
returns-clause-once c =
    parents_once (judged (schema_tree c.args.schema.now)) c.args.list.now c.in_ok-shared.shared.items (lists_of c.in_ok-own.own) c.in_ok-shared.ensures
    (c.in_ok-own.ensures.counted ∙ ap length (c.deref.ensures.value ∙ c.in_ok-objects.ensures))
