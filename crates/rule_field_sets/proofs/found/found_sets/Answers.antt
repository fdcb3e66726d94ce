use Rattle.document_typed_selections.specs.TypedTree.{typed_set_tree}
use Rattle.rule_field_sets.proofs.AllOpened.{opened_begun}
use Rattle.rule_field_sets.proofs.found.found_sets.Goals as goal

pub returns : goal.returns
returns c =
    c.in_ok-open_all.ensures (typed_set_tree c.args.set.now)
    (opened_begun c.args.set c.new.result.items c.push.new.self.items c.new-found.result.items c.new.ensures.items c.in_ok-push.ensures.items c.new-found.ensures.items)
