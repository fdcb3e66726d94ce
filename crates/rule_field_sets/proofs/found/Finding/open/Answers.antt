use Rattle.std.proofs.Common.{◌∙◌, ap}
use Rattle.document_typed_selections.specs.TypedTree.{typed_set_tree}
use Rattle.rule_field_sets.specs.Opened.{with_set}
use Rattle.rule_field_sets.proofs.AllOpened.{begins}
use Rattle.rule_field_sets.proofs.found.Finding.open.Goals as goal

pub returns : goal.returns
returns c = c.in_ok-pass_set.ensures ∙ ap (with_set (typed_set_tree c.args.set.now)) (begins c.args.self.now (record { set = c.args.set; fields = c.new.result; spreads = c.new-2.result }) c.new.ensures.items c.new-2.ensures.items)
