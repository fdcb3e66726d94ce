use Rattle.std.proofs.Common.{◌∙◌, sym, refl, vec_len, arith}
use Rattle.document_typed_selections.specs.TypedTree.{typed_selection_tree}
use Rattle.rule_selections.proofs.SetsWithin.{is_spread, spread_takes, left_popped}
use Rattle.rule_selections.proofs.thinned.left_below.Goals as goal

pub returns-then-is_some : goal.returns-then-is_some
returns-then-is_some c =
    spread_takes c.args.selection.now c.args.thin.now.items c.args.thin.now.items
    (is_spread (typed_selection_tree c.args.selection.now) c.as_fragment_spread.result c.as_fragment_spread.ensures ∙ sym c.is_some.ensures ∙ c.if-is_some.true) refl

pub returns : goal.returns
returns c = λ s. left_popped s (typed_selection_tree c.args.selection.now) c.args.thin.now.items c.pop.new.self.items c.pop.result (vec_len c.args.thin.now) (vec_len c.pop.new.self)
    (is_spread (typed_selection_tree c.args.selection.now) c.as_fragment_spread.result c.as_fragment_spread.ensures ∙ sym c.is_some.ensures ∙ c.if-is_some.false) c.pop.ensures.items (omega arith) c.pop.ensures.cases
