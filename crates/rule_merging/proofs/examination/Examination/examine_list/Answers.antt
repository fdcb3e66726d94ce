use Rattle.std.proofs.Common.{◌<◌, ◌≤◌, List, [], map, take, length, sym, ap, subst, ◌∙◌, append-nil, arith}
use Rattle.std.specs.List.{sum, flat_map}
use Rattle.std.proofs.lemmas.List.{take_all}
use Rattle.graphql_names.specs.Placed.{Place}
use Rattle.rule_field_groups.specs.in_document_definitions.Selected.{StandingField}
use Rattle.rule_field_groups.specs.in_sets.in_reach.Broken.{brokens_of}
use Rattle.rule_field_groups.specs.Members.{fields_of}
use Rattle.rule_field_groups.specs.Compared.{compared}
use Rattle.rule_field_groups.specs.Grouped.{ArePartsOf}
use Rattle.rule_field_groups.specs.KeyGroups.{parts_of, parts_in, lists_in_group, compared_in}
use Rattle.rule_field_groups.specs.Under.{sets_in}
use Rattle.rule_merging.specs.Examined.{GroupsExamined, schema_of, document_of, sets_of}
use Rattle.rule_merging.proofs.Examining.{parts_more, group_members, no_groups, GroupsTold, groups_step}
use Rattle.rule_field_groups.proofs.Counts.{left_of}
use Rattle.rule_merging.proofs.examination.Examination.examine_list.Goals as goal

pub loop-group-init : goal.loop-group-init
loop-group-init c =
    let e = c.args.self.now in
    let all : sum (map (compared_in e.pass) c.deref-group-items.result.now) ≤ compared e.pass c.args.list.now =
    subst (λ l. sum (map (compared_in e.pass) l) ≤ compared e.pass c.args.list.now) (sym c.deref-group-items.ensures.value) c.in_ok-groups.ensures.counted in
    record {
      examined = ([], ([], (sym (append-nil (brokens_of c.args.breaches.now)), (sym (append-nil (sets_in (sets_of e) c.args.next.now)), no_groups e.pass (schema_of e) (document_of e)))));
      more = omega arith;
      counted = omega (arith, all);
    }

pub examine_group-requires-clause-members : goal.examine_group-requires-clause-members
examine_group-requires-clause-members c =
    let xs = c.deref-group-items.result.now in
    let i = c.loop-group.group-index in
    let x = c.group-item.result in
    let h : i < length xs = omega arith in
    group_members (sets_of c.args.self.now) c.args.list.now xs x c.requires.members
    (subst (λ gs. ArePartsOf c.args.list.now (flat_map lists_in_group gs)) (sym c.deref-group-items.ensures.value) c.in_ok-groups.ensures.ordered) (i, h, sym c.group-item.is)

pub loop-group-preserved : goal.loop-group-preserved
loop-group-preserved c =
    let e = c.args.self.now in
    let xs = c.deref-group-items.result.now in
    let i = c.loop-group.group-index in
    let x = c.group-item.result in
    let h : i < length xs = omega arith in
    let inv = c.loop-group.invariant in
    let here = c.in_ok-examine_group.ensures in
    let groups : List (List (StandingField Place)) = map fields_of (parts_in (take i xs)) in
    record {
      examined = subst
          (GroupsTold e.pass (schema_of e) (document_of e) (brokens_of c.args.breaches.now) (brokens_of c.examine_group.new.breaches) (sets_in (sets_of e) c.args.next.now) (sets_in (sets_of e) c.examine_group.new.next)) (sym (parts_more xs i x h c.group-item.is))
          (groups_step e.pass (schema_of e) (document_of e) (brokens_of c.args.breaches.now) (brokens_of c.loop-group.breaches) (brokens_of c.examine_group.new.breaches)
          (sets_in (sets_of e) c.args.next.now) (sets_in (sets_of e) c.loop-group.next) (sets_in (sets_of e) c.examine_group.new.next) groups (map fields_of (parts_of x)) inv.examined here.examined);
      more = omega (arith, inv.more, here.more);
      counted = omega (arith, inv.counted, here.counted, left_of (compared_in e.pass) xs i x h c.group-item.is);
    }

pub returns-in_err-examine_group-clause-more : goal.returns-in_err-examine_group-clause-more
returns-in_err-examine_group-clause-more c = omega (arith, c.loop-group.invariant.more, c.in_err-examine_group.ensures.more)

pub returns-in_err-examine_group-clause-counted : goal.returns-in_err-examine_group-clause-counted
returns-in_err-examine_group-clause-counted c =
    let e = c.args.self.now in
    let xs = c.deref-group-items.result.now in
    let i = c.loop-group.group-index in
    let x = c.group-item.result in
    let h : i < length xs = omega arith in
    omega (arith, c.loop-group.invariant.counted, c.in_err-examine_group.ensures.counted, left_of (compared_in e.pass) xs i x h c.group-item.is)

pub returns-clause-examined : goal.returns-clause-examined
returns-clause-examined c =
    let e = c.args.self.now in
    let t = c.loop-group.invariant.examined in
    let all = ap (λ l. map fields_of (parts_in l)) (take_all c.loop-group.group-index c.deref-group-items.result.now c.loop-group-test.false ∙ c.deref-group-items.ensures.value) in (
      t.0,
      (
        t.1.0,
        (
          t.1.1.0,
          (
            t.1.1.1.0,
            record {
              groups = map fields_of (parts_in c.in_ok-groups.groups.items);
              are = c.in_ok-groups.ensures.groups;
              examined = subst (λ gs. GroupsExamined e.pass (schema_of e) (document_of e) gs t.0 t.1.0) all t.1.1.1.1;
            },
          ),
        ),
      ),
    )

pub returns-clause-counted : goal.returns-clause-counted
returns-clause-counted c = omega (arith, c.loop-group.invariant.counted)
