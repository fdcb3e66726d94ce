use Rattle.document_typed_selections.specs.TypedTree.{typed_set_tree}
use Rattle.rule_selections.specs.Telling.{terms_of}
use Rattle.rule_selections.proofs.SetsWithin.{copy_settles}
use Rattle.rule_selections.proofs.settled.settled_set.Goals as goal

pub returns-then-branch : goal.returns-then-branch
returns-then-branch c = (c.in_ok-left.ensures, c.in_ok-uses_all.ensures c.if-branch.true)

pub returns : goal.returns
returns c = copy_settles (terms_of c.args.common.now) c.args.set.now c.clone.result _ c.clone.ensures.cases
