use Rattle.std.proofs.Common.{◌≡◌, ◌≤◌, ◌∙◌, List, Contains, length, take, sym, ap, subst, arith}
use Rattle.std.proofs.lemmas.List.{take_all}
use Rattle.rule_field_sets.specs.declared.member.Member.{Member}
use Rattle.rule_field_groups.specs.Grouped.{HaveOneName}
use Rattle.rule_field_groups.specs.KeyGroups.{filed_name}
use Rattle.rule_field_groups.proofs.OneGroup.{all_named}
use Rattle.rule_field_groups.proofs.groups.is_one_group.Goals as goal

pub returns : goal.returns
returns c =
    let name = filed_name c.args.filing in
    let others : List Member = c.in-Some.others.now in
    let end : length others ≤ c.loop-other.other-index = c.loop-other-test.false in
    let whole : take c.loop-other.other-index others ≡ others = take_all c.loop-other.other-index others end in
    λ _. subst (HaveOneName name) (sym c.in-Some.ensures.cases.0)
    (all_named name c.in-Some.first.now others (λ y k. c.loop-other.invariant y (subst (λ (l : List Member). Contains l y) (sym whole) k) ∙ c.filed_name-name.ensures))
