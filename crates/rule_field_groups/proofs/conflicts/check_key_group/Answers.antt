use Rattle.std.proofs.Common.{◌<◌, ◌++◌, [], List, map, take, length, ap, subst, ◌∙◌, arith, Vec, Global}
use Rattle.std.specs.List.{sum}
use Rattle.std.proofs.lemmas.List.{take_all}
use Rattle.std.proofs.lemmas.Simd.{map-map}
use Rattle.rule_field_sets.specs.in_schema.SchemaOf.{schema_tree}
use Rattle.rule_selection_queries.specs.in_definitions.Judged.{judged}
use Rattle.rule_field_groups.specs.Members.{fields_of}
use Rattle.rule_field_sets.specs.declared.member.Member.{Member}
use Rattle.rule_field_groups.specs.Compared.{compared}
use Rattle.rule_field_groups.specs.Passes.{AddsGroup, AddsEach}
use Rattle.rule_field_groups.proofs.Counts.{left_of}
use Rattle.rule_field_groups.proofs.Telling.{with_first, adds_shared, own_step, all_parts}
use Rattle.rule_field_groups.proofs.conflicts.check_key_group.Goals as goal

pub loop-own-init : goal.loop-own-init
loop-own-init c =
    let s = judged (schema_tree c.args.schema.now) in
    let group = c.args.group.now in
    record {
      told = subst (λ (l : List Member). AddsEach c.args.pass s (with_first c.args.pass s (fields_of l) []) c.args.breaches.now c.check_group.new.breaches) c.deref.ensures.value
          (adds_shared c.args.pass s (fields_of c.deref.result.now) c.args.breaches.now c.check_group.new.breaches c.in_ok-check_group.ensures.told);
      more = c.check_group.ensures.more;
      counted = omega (
        arith,
        c.check_group.ensures.counted,
        ap (compared c.args.pass) c.deref.ensures.value,
        ap (λ l. sum (map (λ (o : Vec Member Global). compared c.args.pass o.items) l)) c.deref-own-items.ensures.value,
        ap sum (map-map (compared c.args.pass) (λ (o : Vec Member Global). o.items) group.own.items),
      );
    }

pub loop-own-preserved : goal.loop-own-preserved
loop-own-preserved c =
    let s = judged (schema_tree c.args.schema.now) in
    let xs = c.deref-own-items.result.now in
    let i = c.loop-own.own-index in
    let x = c.own-item.result in
    let h : i < length xs = omega arith in
    let inv = c.loop-own.invariant in
    let mid = c.loop-own.breaches in
    let new = c.check_own.new.breaches in
    let here = subst (λ (l : List Member). AddsGroup c.args.pass s (fields_of (take 1 l ++ x.items)) mid new) c.deref-in-loop-own.ensures.value
    (subst (λ (l : List Member). AddsGroup c.args.pass s (fields_of (take 1 c.deref-in-loop-own.result.now ++ l)) mid new) c.deref-in-loop-own-2.ensures.value c.in_ok-check_own.ensures.told) in
    record {
      told = own_step c.args.pass s c.args.group.now.shared.items xs i x h c.own-item.is c.args.breaches.now mid new inv.told here;
      more = omega (arith, inv.more, c.check_own.ensures.more);
      counted = omega (
        arith,
        inv.counted,
        c.check_own.ensures.counted,
        ap (compared c.args.pass) c.deref-in-loop-own-2.ensures.value,
        left_of (λ (o : Vec Member Global). compared c.args.pass o.items) xs i x h c.own-item.is,
      );
    }

pub returns-in_err-check_group-clause-counted : goal.returns-in_err-check_group-clause-counted
returns-in_err-check_group-clause-counted c = omega (arith, c.check_group.ensures.counted, ap (compared c.args.pass) c.deref.ensures.value)

pub returns-in_err-check_own-clause-more : goal.returns-in_err-check_own-clause-more
returns-in_err-check_own-clause-more c = omega (arith, c.loop-own.invariant.more, c.check_own.ensures.more)

pub returns-in_err-check_own-clause-counted : goal.returns-in_err-check_own-clause-counted
returns-in_err-check_own-clause-counted c =
    let xs = c.deref-own-items.result.now in
    let i = c.loop-own.own-index in
    let x = c.own-item.result in
    let h : i < length xs = omega arith in
    omega (
      arith,
      c.loop-own.invariant.counted,
      c.check_own.ensures.counted,
      ap (compared c.args.pass) c.deref-in-loop-own-2.ensures.value,
      left_of (λ (o : Vec Member Global). compared c.args.pass o.items) xs i x h c.own-item.is,
    )

pub returns-clause-told : goal.returns-clause-told
returns-clause-told c =
    let s = judged (schema_tree c.args.schema.now) in
    let group = c.args.group.now in
    all_parts c.args.pass s group.shared.items group.own.items c.args.breaches.now c.loop-own.breaches
    (subst (λ (l : List (Vec Member Global)). AddsEach c.args.pass s (with_first c.args.pass s (fields_of group.shared.items) (map (λ o. fields_of o.items) l)) c.args.breaches.now c.loop-own.breaches)
    (take_all c.loop-own.own-index c.deref-own-items.result.now c.loop-own-test.false ∙ c.deref-own-items.ensures.value) c.loop-own.invariant.told)

pub returns-clause-counted : goal.returns-clause-counted
returns-clause-counted c = omega (arith, c.loop-own.invariant.counted)
