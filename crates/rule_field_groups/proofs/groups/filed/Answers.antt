use Rattle.rule_field_groups.specs.Grouped.{lists_of}
use Rattle.rule_field_groups.specs.KeyGroups.{filed_name}
use Rattle.std.proofs.Common.{◌∷◌, [], List, sym, subst}
use Rattle.std.proofs.lemmas.Result.{IfOk-weaker}
use Rattle.rule_field_sets.specs.declared.member.Member.{Member}
use Rattle.rule_field_groups.specs.Grouped.{AreFiled}
use Rattle.rule_field_groups.proofs.OneGroup.{one_filed}
use Rattle.rule_field_groups.proofs.Filing.{filed, from_both}
use Rattle.rule_field_groups.proofs.groups.filed.Goals as goal

pub returns-clause-filed : goal.returns-clause-filed
returns-clause-filed c =
    let index = c.in_ok-index.index in
    from_both (λ groups all once. filed (filed_name c.args.filing) c.args.list.now index.entries c.in_ok-index.ensures.under once (lists_of groups) all) c.groups_in.result c.groups_in.ensures.all c.groups_in.ensures.unique

pub returns-then-is_one_group-clause-filed : goal.returns-then-is_one_group-clause-filed
returns-then-is_one_group-clause-filed c =
    let name = filed_name c.args.filing in
    IfOk-weaker c.one_group.result _ _ (λ groups is. subst (AreFiled name c.args.list.now) (sym is) (one_filed name c.args.list.now (c.is_one_group.ensures c.if-is_one_group.true))) c.one_group.ensures
