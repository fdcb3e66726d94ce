use Rattle.std.proofs.Common.{◌<◌, ◌+◌, [], ◌∷◌, map, take, drop, get_or, length, sym, ap, subst, ◌∙◌, arith}
use Rattle.std.proofs.lemmas.Result.{err_from_is_err_and}
use Rattle.schema_built_in.specs.in_definitions.DefinitionTree.{definition_tree}
use Rattle.schema_building.specs.TextsView.{texts_view}
use Rattle.schema_building.specs.TextsList.{AddsDefinitions, IsListRefusal}
use Rattle.schema_building.proofs.Adding.{adds_then, refusal_more}
use Rattle.schema_building.proofs.Growing.{front, split}
use Rattle.schema_building.proofs.building.add_document.Goals as goal

pub loop-definition-preserved : goal.loop-definition-preserved
loop-definition-preserved c =
    let xs = c.args.document.now.definitions.items in
    let i = c.loop-definition.definition-index in
    let x = c.definition-item.result in
    let same = c.deref-definition-items.ensures.value in
    let here : i < length c.deref-definition-items.result.now = omega arith in
    let h = subst (λ l. i < length l) same here in
    let is = c.definition-item.is ∙ ap (λ l. get_or l i x) same in
    let more = sym (front definition_tree xs i x h is) in (
      subst (λ l. AddsDefinitions l (texts_view c.args.texts.now) (texts_view c.add.new.self)) more
          (adds_then (texts_view c.args.texts.now) (texts_view c.loop-definition.texts) (texts_view c.add.new.self) (map definition_tree (take i xs)) (definition_tree x ∷ []) c.loop-definition.invariant.0 c.in_ok-add.ensures.added),
      λ filed. c.in_ok-add.ensures.filed (c.loop-definition.invariant.1 filed),
    )

pub returns-in_err-add-clause-refused : goal.returns-in_err-add-clause-refused
returns-in_err-add-clause-refused c =
    let xs = c.args.document.now.definitions.items in
    let i = c.loop-definition.definition-index in
    let x = c.definition-item.result in
    let same = c.deref-definition-items.ensures.value in
    let here : i < length c.deref-definition-items.result.now = omega arith in
    let h = subst (λ l. i < length l) same here in
    let is = c.definition-item.is ∙ ap (λ l. get_or l i x) same in
    let start = texts_view c.args.texts.now in
    let p = err_from_is_err_and c.from_residual.result c.from_residual.ensures.1 in
    rw (p.1, p.2) (subst (λ l. IsListRefusal l start c.in_err-add.field-0.0) (sym (split definition_tree xs i x h is))
    (refusal_more start (texts_view c.loop-definition.texts) (map definition_tree (take i xs)) (definition_tree x) (map definition_tree (drop (i + 1) xs)) c.loop-definition.invariant.0 c.in_err-add.field-0.0 c.in_err-add.ensures.refused))
