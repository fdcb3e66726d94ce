use Rattle.document_typed_selections.specs.TypedTree.{typed_set_tree}
use Rattle.rule_selections.specs.Telling.{terms_of}
use Rattle.rule_selections.proofs.SetsWithin.{whole_thinned, copy_left}
use Rattle.rule_selections.proofs.thinned.thinned.Goals as goal

pub returns-in-Some : goal.returns-in-Some
returns-in-Some c =
    whole_thinned (terms_of c.args.common.now) (typed_set_tree c.args.set.now) c.in_ok-sets.sets.items c.in_ok-thin.thin.items c.pop.new.self.items c.in-Some.whole c.in_ok-sets.ensures c.in_ok-thin.ensures
    c.in-Some.ensures.items

pub returns : goal.returns
returns c = copy_left (terms_of c.args.common.now) (typed_set_tree c.args.set.now) c.clone.result _ c.clone.ensures.cases
