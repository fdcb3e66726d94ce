use Rattle.std.proofs.Common.{◌≡◌, [], map, take}
use Rattle.std.specs.Borrow.{Bor}
use Rattle.document_typed_selections.specs.TypedTree.{typed_set_tree}
use Rattle.document_typed_selections.specs.declared.selection.SelectionSet.{SelectionSet}
use Rattle.rule_reach.specs.NotedNames.{noted_names}
use Rattle.rule_selections.specs.UsedNames.{with_sets}
use Rattle.rule_selections.proofs.used.used_names.Given as goal

abbrev pub invariant-loop-index : goal.invariant-loop-index
invariant-loop-index l = noted_names l.names ≡ with_sets [] (map (λ (v : Bor SelectionSet). typed_set_tree v.now) (take l.index l.sets.items))
