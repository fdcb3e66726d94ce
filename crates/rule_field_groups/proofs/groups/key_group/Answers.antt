use Rattle.std.proofs.Common.{◌≤◌, [], ◌∷◌, length, ap, sym, subst, ◌∙◌}
use Rattle.std.proofs.lemmas.Result.{IfOk-weaker}
use Rattle.rule_field_sets.specs.in_schema.SchemaOf.{schema_tree}
use Rattle.rule_selection_queries.specs.in_definitions.Judged.{judged}
use Rattle.rule_field_groups.specs.declared.groups.KeyGroup.{KeyGroup}
use Rattle.rule_field_groups.specs.declared.pass.Pass.{Pass}
use Rattle.rule_field_groups.specs.Compared.{compared}
use Rattle.rule_field_groups.specs.Grouped.{ArePartsOf}
use Rattle.rule_field_groups.specs.KeyGroups.{own_lists, with_own, parts_of, compared_in, IsByParents, ArePartsFor}
use Rattle.rule_field_groups.proofs.Sharing.{parent_groups, ordered_parts, whole_ordered, shapes_in, selections_in, shapes_once}
use Rattle.rule_field_groups.proofs.groups.key_group.Goals as goal

pub returns-in-Shapes-clause-parts : goal.returns-in-Shapes-clause-parts
returns-in-Shapes-clause-parts c =
    let s = judged (schema_tree c.args.schema.now) in
    let group = c.all_shared.result in
    subst (λ (p : Pass). ArePartsFor p s c.args.list.items (parts_of group)) (sym c.in-Shapes.is) (ap (with_own group.shared.items) c.all_shared.ensures.own ∙ ap (λ l. l ∷ []) c.all_shared.ensures.shared)

pub returns-in-Shapes-clause-counted : goal.returns-in-Shapes-clause-counted
returns-in-Shapes-clause-counted c =
    subst (λ (p : Pass). compared_in p c.all_shared.result ≤ compared p c.args.list.items) (sym c.in-Shapes.is) (shapes_in c.all_shared.result c.args.list.items c.all_shared.ensures.shared c.all_shared.ensures.own)

pub returns-in-Shapes-clause-ordered : goal.returns-in-Shapes-clause-ordered
returns-in-Shapes-clause-ordered c =
    subst (ArePartsOf c.args.list.items) (sym (ap (λ l. l ∷ own_lists c.all_shared.result) c.all_shared.ensures.shared ∙ ap (λ ls. c.args.list.items ∷ ls) c.all_shared.ensures.own)) (whole_ordered c.args.list.items)

pub returns-in-Shapes-clause-once : goal.returns-in-Shapes-clause-once
returns-in-Shapes-clause-once c = shapes_once c.args.list.items c.all_shared.result.shared.items (own_lists c.all_shared.result) c.all_shared.ensures.shared c.all_shared.ensures.own

pub returns-clause-parts : goal.returns-clause-parts
returns-clause-parts c =
    let s = judged (schema_tree c.args.schema.now) in
    let list = c.args.list.items in
    IfOk-weaker c.by_parents.result _ _
    (λ (group : KeyGroup) h.
    let k = subst (λ l. IsByParents s l group) c.deref.ensures.value h in
    subst (λ (p : Pass). ArePartsFor p s list (parts_of group)) (sym c.in-Selections.is) (parent_groups s list group.shared.items (own_lists group) k.shared k.own))
    c.by_parents.ensures.parents

pub returns-clause-counted : goal.returns-clause-counted
returns-clause-counted c =
    IfOk-weaker c.by_parents.result _ _
    (λ (group : KeyGroup) h. subst (λ (p : Pass). compared_in p group ≤ compared p c.args.list.items) (sym c.in-Selections.is) (selections_in group)) c.by_parents.ensures.parents

pub returns-clause-ordered : goal.returns-clause-ordered
returns-clause-ordered c =
    let s = judged (schema_tree c.args.schema.now) in
    let list = c.args.list.items in
    IfOk-weaker c.by_parents.result _ _
    (λ (group : KeyGroup) h.
    let k = subst (λ l. IsByParents s l group) c.deref.ensures.value h in
    ordered_parts s list group.shared.items (own_lists group) k.shared k.own)
    c.by_parents.ensures.parents

pub returns-clause-once : goal.returns-clause-once
returns-clause-once c =
    IfOk-weaker c.by_parents.result _ _ (λ (group : KeyGroup) h. h ∙ ap length c.deref.ensures.value) c.by_parents.ensures.once
