use Rattle.document_typed_selections.specs.TypedTree.{typed_set_tree}
use Rattle.rule_reach.specs.Gathered.{lent_fragments}
use Rattle.rule_reach.proofs.Found.{made_reach}
use Rattle.rule_reach.proofs.reaching.reach.Goals as goal

pub returns : goal.returns
returns c =
    let spread = c.in_ok-fragments.ensures in
    made_reach c.args.fragments.now (typed_set_tree c.args.start.now) c.in_ok-selections.selections.items c.in_ok-selections.ensures spread.0 spread.1.0 (lent_fragments c.in_ok-fragments.fragments) spread.1.1
