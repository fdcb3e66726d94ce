use Rattle.std.proofs.Common.{◌≡◌, ◌∙◌, List, [], map, flat_map, length, Vec, Global, ap, sym, subst, arith}
use Rattle.std.specs.List.{sum}
use Rattle.std.proofs.lemmas.Iterator.Adapters.{YieldsList-from_vec}
use Rattle.std.proofs.lemmas.Iterator.Consumers.{YieldsList-end}
use Rattle.std.proofs.lemmas.List.{map-id}
use Rattle.rule_field_sets.specs.in_schema.SchemaOf.{schema_tree}
use Rattle.rule_selection_queries.specs.in_definitions.Judged.{judged}
use Rattle.rule_field_sets.specs.declared.member.Member.{Member}
use Rattle.rule_field_groups.specs.declared.groups.KeyGroup.{KeyGroup}
use Rattle.rule_field_groups.specs.Compared.{compared}
use Rattle.rule_field_groups.specs.Grouped.{lists_of}
use Rattle.rule_field_groups.specs.KeyGroups.{parts_in, lists_in_group, compared_in}
use Rattle.rule_field_groups.proofs.Sharing.{ArePartsOfEach, ArePartsOfOne, parts_none, ordered_none, group_parts, group_ordered, group_counted, group_once, are_groups, all_ordered, keyed_count}
use Rattle.rule_field_groups.proofs.groups.groups_of.Goals as goal

pub loop-fields-init : goal.loop-fields-init
loop-fields-init c =
    let s = judged (schema_tree c.args.schema.now) in
    let none = c.new-groups.ensures.items in
    record {
      parts = subst (λ (l : List KeyGroup). ArePartsOfEach c.args.pass s [] (parts_in l)) (sym none) (parts_none c.args.pass s);
      counted = omega (arith, ap (λ l. sum (map (compared_in c.args.pass) l)) none);
      ordered = subst (λ (l : List KeyGroup). ArePartsOfOne [] (flat_map lists_in_group l)) (sym none) ordered_none;
      once = ap (λ l. sum (map length (flat_map lists_in_group l))) none;
    }

pub loop-fields-preserved : goal.loop-fields-preserved
loop-fields-preserved c =
    let s = judged (schema_tree c.args.schema.now) in
    let at = c.loop-fields in
    let fields = c.in-Some.fields in
    let group = c.in_ok-key_group.field-0 in
    let is = c.in_ok-push.ensures.items in
    let here = c.in_ok-key_group.ensures in
    let inv = at.invariant in
    record {
      parts = group_parts c.args.pass s at.yielded fields at.groups.items c.push.new.self.items group is here.parts inv.parts;
      counted = group_counted c.args.pass s at.yielded fields at.groups.items c.push.new.self.items group is here.counted inv.counted;
      ordered = group_ordered c.args.pass s at.yielded fields at.groups.items c.push.new.self.items group is here.ordered inv.ordered;
      once = group_once c.args.pass s at.yielded fields at.groups.items c.push.new.self.items group is here.once inv.once;
    }

-- all keys were scanned
all_yielded : (c : goal.After-drop-fields-iterator-2) → map (λ (v : Vec Member Global). v.items) c.loop-fields.yielded ≡ lists_of c.in_ok-keyed.keyed
all_yielded c =
    let keyed = c.in_ok-keyed.keyed in
    let at = c.loop-fields in
    let given = c.into_iter-fields-iterator.ensures.into_iter_gives in
    let all = YieldsList-end (YieldsList-from_vec keyed.items given.0 (given.1 ∙ keyed.ok.0)) at.yielded at.fields-iterator at.yielded_by c.next.result c.next.new.self c.in-None.is c.next.ensures.steps in
    ap (map (λ (v : Vec Member Global). v.items)) (sym (map-id at.yielded) ∙ all.0)

pub returns-clause-groups : goal.returns-clause-groups
returns-clause-groups c =
    let s = judged (schema_tree c.args.schema.now) in
    are_groups c.args.pass s c.args.list.now (lists_of c.in_ok-keyed.keyed) (parts_in c.loop-fields.groups.items) c.in_ok-keyed.ensures.filed
    (subst (λ l. ArePartsOfEach c.args.pass s l (parts_in c.loop-fields.groups.items)) (all_yielded c) c.loop-fields.invariant.parts)

pub returns-clause-counted : goal.returns-clause-counted
returns-clause-counted c =
    omega (arith, c.loop-fields.invariant.counted, ap (λ l. sum (map (compared c.args.pass) l)) (all_yielded c), keyed_count c.args.pass c.args.list.now (lists_of c.in_ok-keyed.keyed) c.in_ok-keyed.ensures.counted)

pub returns-clause-ordered : goal.returns-clause-ordered
returns-clause-ordered c =
    all_ordered c.args.list.now (lists_of c.in_ok-keyed.keyed) (flat_map lists_in_group c.loop-fields.groups.items) c.in_ok-keyed.ensures.filed
    (subst (λ l. ArePartsOfOne l (flat_map lists_in_group c.loop-fields.groups.items)) (all_yielded c) c.loop-fields.invariant.ordered)

pub returns-clause-once : goal.returns-clause-once
returns-clause-once c = c.loop-fields.invariant.once ∙ ap (λ l. sum (map length l)) (all_yielded c) ∙ c.in_ok-keyed.ensures.counted
