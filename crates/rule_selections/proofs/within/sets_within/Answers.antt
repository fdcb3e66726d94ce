use Rattle.std.specs.Borrow.{Bor}
use Rattle.document_typed_selections.specs.TypedTree.{typed_set_tree}
use Rattle.document_typed_selections.specs.declared.selection.SelectionSet.{SelectionSet}
use Rattle.rule_selections.specs.Within.{typed_sets, waiting_sets}
use Rattle.rule_selections.proofs.SetsWithin.{pushed, found_within}
use Rattle.rule_selections.proofs.within.sets_within.Goals as goal

pub returns : goal.returns
returns c =
    found_within (typed_set_tree c.args.set.now) c.new.result.items c.new-2.result.items (waiting_sets c.push.new.self.items) (typed_sets c.find_all.new.self.sets.items)
    c.new.ensures.items c.new-2.ensures.items (pushed (λ (v : Bor SelectionSet). typed_set_tree v.now) c.new-2.result.items c.push.new.self.items c.args.set c.in_ok-push.ensures.items) c.in_ok-find_all.ensures
