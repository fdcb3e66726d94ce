use Rattle.std.proofs.Common.{◌∙◌, Contains, refl, sym, ap}
use Rattle.rule_field_sets.specs.in_schema.SchemaOf.{schema_tree}
use Rattle.rule_selection_queries.specs.in_definitions.Judged.{judged}
use Rattle.rule_field_sets.specs.declared.member.Member.{Member}
use Rattle.rule_field_groups.specs.Kinds.{is_abstract}
use Rattle.rule_field_groups.specs.Grouped.{lists_of, parent_of}
use Rattle.rule_field_groups.proofs.OneGroup.{group_on_abstract, group_on_object}
use Rattle.rule_field_groups.proofs.Sharing.{own_once}
use Rattle.rule_field_groups.proofs.groups.on_one_parent.Goals as goal

pub returns-then-is_abstract-clause-parents : goal.returns-then-is_abstract-clause-parents
returns-then-is_abstract-clause-parents c =
    let s = judged (schema_tree c.args.schema.now) in
    let first : Contains c.args.list.now c.index-list-0.result = (0, c.requires.1.0, sym c.index-list-0.is) in
    group_on_abstract s c.args.list.now c.requires (parent_of c.index-list-0.result) (c.index-list-0.result, (first, refl)) c.all_shared.result
    (ap (λ (x : Member). is_abstract s (parent_of x)) c.index-list-0.is ∙ sym c.is_abstract.ensures ∙ c.if-is_abstract.true) (c.all_shared.ensures.shared ∙ c.in_ok-fields.ensures.items) c.all_shared.ensures.own

pub returns-clause-parents : goal.returns-clause-parents
returns-clause-parents c =
    let s = judged (schema_tree c.args.schema.now) in
    let first : Contains c.args.list.now c.index-list-0.result = (0, c.requires.1.0, sym c.index-list-0.is) in
    group_on_object s c.args.list.now c.requires (parent_of c.index-list-0.result) (c.index-list-0.result, (first, refl)) (record { shared = c.new-none.result; own = c.in_ok-own.own })
    (ap (λ (x : Member). is_abstract s (parent_of x)) c.index-list-0.is ∙ sym c.is_abstract.ensures ∙ c.if-is_abstract.false) c.new-none.ensures.items c.in_ok-own.ensures

pub returns-clause-once : goal.returns-clause-once
returns-clause-once c = own_once c.args.list.now c.new-none.result.items (lists_of c.in_ok-own.own) c.new-none.ensures.items c.in_ok-own.ensures
