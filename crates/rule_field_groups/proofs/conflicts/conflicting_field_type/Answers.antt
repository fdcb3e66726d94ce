use Rattle.std.proofs.Common.{None, Some, sym, append-nil, ◌∙◌, true≢false}
use Rattle.std.proofs.lemmas.Result.{on_ok_weaker}
use Rattle.rule_field_sets.specs.in_schema.SchemaOf.{schema_tree}
use Rattle.rule_selection_queries.specs.in_definitions.Judged.{judged}
use Rattle.rule_selection_queries.specs.in_document_definitions.Merging.{SameShape}
use Rattle.rule_selection_queries.proofs.in_document_definitions.Equivalences.{shape_sym}
use Rattle.rule_field_sets.specs.in_reach.Broken.{brokens_of}
use Rattle.rule_field_groups.specs.Members.{field_of}
use Rattle.rule_field_groups.specs.Passes.{type_conflict}
use Rattle.rule_field_groups.proofs.InOrder.{told_in_order}
use Rattle.rule_field_groups.proofs.ShapesTold.{shapes_told}
use Rattle.rule_field_groups.proofs.conflicts.conflicting_field_type.Goals as goal

pub returns-then-same_type-clause-told : goal.returns-then-same_type-clause-told
returns-then-same_type-clause-told c =
    let told = shapes_told (judged (schema_tree c.args.schema.now)) c.args.first c.args.other c.content.result.now c.content-2.result.now c.ty.result.now c.ty-2.result.now
    c.content.ensures c.ty.ensures c.content-2.ensures c.ty-2.ensures c.same_type.result c.same_type.ensures in
    (None, (sym (append-nil (brokens_of c.args.breaches.now)), told.0 c.if-same_type.true))

pub returns-clause-told : goal.returns-clause-told
returns-clause-told c =
    let told = shapes_told (judged (schema_tree c.args.schema.now)) c.args.first c.args.other c.content.result.now c.content-2.result.now c.ty.result.now c.ty-2.result.now
    c.content.ensures c.ty.ensures c.content-2.ensures c.ty-2.ensures c.same_type.result c.same_type.ensures in
    let s = judged (schema_tree c.args.schema.now) in
    let never : SameShape s (field_of c.args.first) (field_of c.args.other) → ⊥ = λ same. true≢false (sym (told.1 same) ∙ c.if-same_type.false) in
    on_ok_weaker c.push_breach.result
    (λ adds. (
      Some _,
      (
        adds,
        told_in_order (λ f g. SameShape s f g → ⊥) type_conflict _ c.args.first c.args.other c.in_text_order.result c.in_text_order.ensures
            never (λ same. never (shape_sym s (field_of c.args.other) (field_of c.args.first) same)) c.in_ok-conflict.ensures,
      ),
    ))
    c.push_breach.ensures.told
