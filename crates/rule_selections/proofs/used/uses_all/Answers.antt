use Rattle.document_typed_selections.specs.TypedTree.{typed_set_tree}
use Rattle.rule_reach.specs.NotedNames.{noted_names}
use Rattle.rule_selections.proofs.Names.{uses_all}
use Rattle.rule_selections.proofs.used.uses_all.Goals as goal

pub returns : goal.returns
returns c = λ yes.
    uses_all (typed_set_tree c.args.left.now) (typed_set_tree c.args.whole.now) (noted_names c.in_ok-used.used) (noted_names c.in_ok-wanted.wanted) c.in_ok-used.ensures c.in_ok-wanted.ensures (c.are_in.ensures yes)
