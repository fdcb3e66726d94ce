use Rattle.std.proofs.Common.{◌≡◌, map, lit<, arith}
use Rattle.std.proofs.lemmas.Grind.{common_steps}
use Rattle.std.proofs.lemmas.Iterator.{items_from_drains}
use Rattle.std.proofs.lemmas.Iterator.Splits.{YieldsList-from_str_split}
use Rattle.tree_literals.specs.StringLayout.{text_lines}
use Rattle.tree_literals.proofs.print_description.put_block_lines.Goals as goal

pub returns : goal.returns
returns g c =
    let same : c.into_iter-line-iterator.result ≡ c.split-line-items.result = grind (arith, common_steps) in
    let all : map (λ x. x.now) c.loop-line.yielded ≡ text_lines c.args.text.now =
    items_from_drains _ (c.loop-line.line-iterator, c.loop-line.yielded_by, λ _. (c.next.new.self, c.in-None.ensures.steps)) (YieldsList-from_str_split 10 c.args.text.now (lit< tt) (rw same c.split-line-items.ensures.text) (rw same c.split-line-items.ensures.has_more) (rw same c.split-line-items.ensures.pattern)) in
    rw all at c.loop-line.invariant
