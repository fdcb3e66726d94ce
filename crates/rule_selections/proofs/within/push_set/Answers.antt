use Rattle.document_typed_selections.specs.TypedTree.{typed_set_tree}
use Rattle.document_typed_selections.specs.declared.selection.SelectionSet.{SelectionSet}
use Rattle.std.specs.Borrow.{Bor}
use Rattle.rule_selections.proofs.SetsWithin.{pushed}
use Rattle.rule_selections.proofs.within.push_set.Goals as goal

pub returns : goal.returns
returns c = pushed (λ (v : Bor SelectionSet). typed_set_tree v.now) c.args.waiting.now.items c.push.new.self.items c.args.set c.in_ok-push.ensures.items
