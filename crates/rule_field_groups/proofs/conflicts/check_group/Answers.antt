use Rattle.std.proofs.Common.{sym, subst}
use Rattle.std.proofs.lemmas.Result.{on_ok_weaker}
use Rattle.rule_field_sets.specs.in_schema.SchemaOf.{schema_tree}
use Rattle.rule_selection_queries.specs.in_definitions.Judged.{judged}
use Rattle.rule_field_groups.specs.Members.{fields_of}
use Rattle.rule_field_sets.specs.declared.member.Member.{Member}
use Rattle.std.specs.Prelude.{List}
use Rattle.rule_field_groups.specs.Passes.{AddsGroup}
use Rattle.rule_field_groups.proofs.Telling.{no_group, count_none, count_group, exact_group}
use Rattle.rule_field_groups.proofs.conflicts.check_group.Goals as goal

pub returns-in-None-clause-told : goal.returns-in-None-clause-told
returns-in-None-clause-told c =
    no_group c.args.pass (judged (schema_tree c.args.schema.now)) c.args.group.now c.in-None.ensures.cases c.args.breaches.now

pub returns-in-None-clause-exact : goal.returns-in-None-clause-exact
returns-in-None-clause-exact c = count_none c.args.pass c.args.group.now c.in-None.ensures.cases c.args.comparisons.now

pub returns-in-Some-clause-told : goal.returns-in-Some-clause-told
returns-in-Some-clause-told c =
    let s = judged (schema_tree c.args.schema.now) in
    on_ok_weaker c.check_others.result
    (λ h. subst (λ (l : List Member). AddsGroup c.args.pass s (fields_of l) c.args.breaches.now c.check_others.new.breaches) (sym c.in-Some.ensures.cases.0) h) c.check_others.ensures.told

pub returns-in-Some-clause-counted : goal.returns-in-Some-clause-counted
returns-in-Some-clause-counted c =
    count_group c.args.pass c.in-Some.first.now c.in-Some.others.now c.args.group.now c.args.comparisons.now c.check_others.new.comparisons c.in-Some.ensures.cases.0 c.check_others.ensures.counted

pub returns-in-Some-clause-exact : goal.returns-in-Some-clause-exact
returns-in-Some-clause-exact c =
    on_ok_weaker c.check_others.result
    (λ h. exact_group c.args.pass c.in-Some.first.now c.in-Some.others.now c.args.group.now c.args.comparisons.now c.check_others.new.comparisons c.in-Some.ensures.cases.0 h) c.check_others.ensures.exact
