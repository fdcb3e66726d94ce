use Rattle.std.proofs.Common.{◌<◌, ◌∙◌, length, ap, sym, arith}
use Rattle.document_typed_selections.specs.TypedTree.{typed_selections, typed_selection_tree}
use Rattle.document_typed_selections.specs.declared.selection.Selection.{Selection}
use Rattle.document_typed_selections.proofs.TypedTrees.{typed_set_tree_out}
use Rattle.spec_document.specs.MeantTree.{meant}
use Rattle.rule_reach.specs.NotedNames.{noted_names}
use Rattle.rule_selections.specs.UsedNames.{with_along, with_set}
use Rattle.rule_selections.proofs.Names.{next_noted, all_noted}
use Rattle.rule_selections.proofs.used.note_in_set.Goals as goal

pub loop-selection-preserved : goal.loop-selection-preserved
loop-selection-preserved c =
    let xs = c.deref-selection-items.result.now in
    let i = c.loop-selection.selection-index in
    let h : i < length xs = omega arith in
    c.loop-selection.invariant ∙ next_noted typed_selection_tree (noted_names c.loop-selection.names) (noted_names c.note_in_selection.new.names) xs i c.selection-item.result h c.selection-item.is c.in_ok-note_in_selection.ensures

pub returns : goal.returns
returns c =
    let xs = c.deref-selection-items.result.now in
    let before = noted_names c.args.names.now in
    sym (ap (with_set before) (typed_set_tree_out c.args.set.now)
    ∙ ap (λ l. with_along before (typed_selections typed_selection_tree l)) (sym c.deref-selection-items.ensures.value)
    ∙ c.loop-selection.invariant
    ∙ all_noted typed_selection_tree (noted_names c.loop-selection.names) xs c.loop-selection.selection-index c.loop-selection-test.false)
