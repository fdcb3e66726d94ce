use Rattle.std.proofs.Common.{◌<◌, ◌≤◌, ◌∙◌, [], map, length, ap, arith}
use Rattle.std.specs.Borrow.{Bor}
use Rattle.std.proofs.lemmas.List.{take_all}
use Rattle.document_typed_selections.specs.TypedTree.{typed_set_tree}
use Rattle.document_typed_selections.specs.declared.selection.SelectionSet.{SelectionSet}
use Rattle.rule_reach.specs.NotedNames.{noted_names}
use Rattle.rule_selections.specs.UsedNames.{with_sets}
use Rattle.rule_selections.specs.Within.{typed_sets}
use Rattle.rule_selections.proofs.Names.{next_set}
use Rattle.rule_selections.proofs.used.used_names.Goals as goal

pub loop-index-preserved : goal.loop-index-preserved
loop-index-preserved c =
    let xs = c.in_ok-sets.sets.items in
    let i = c.loop-index.index in
    let h : i < length xs = omega arith in
    next_set (λ (v : Bor SelectionSet). typed_set_tree v.now) [] (noted_names c.loop-index.names) (noted_names c.note_in_set.new.names) xs i c.index.result.now h c.index.ensures c.in_ok-note_in_set.ensures c.loop-index.invariant

pub returns : goal.returns
returns c =
    let xs = c.in_ok-sets.sets.items in
    let past : length xs ≤ c.loop-index.index = omega arith in
    c.loop-index.invariant ∙ ap (λ l. with_sets [] (typed_sets l)) (take_all c.loop-index.index xs past) ∙ ap (with_sets []) c.in_ok-sets.ensures
