use Rattle.std.proofs.Common.{◌≡◌, ◌∷◌, codes, arith, rules}
use Rattle.std.proofs.lemmas.Grind.{common_steps}
use Rattle.tree_literals.proofs.PrintedValues.{item_texts-first, entry_texts-first, separated_put}
use Rattle.tree_literals.proofs.print_value.+values.Goals as goal

pub put_items-returns-after-loop-item : goal.put_items-returns-after-loop-item
put_items-returns-after-loop-item g t c =
    let is : c.args.items.now ≡ c.in-Some.first.now ∷ c.in-Some.further.now = grind (arith, common_steps) in
    separated_put g.S.Sink.puts g.met.S.Sink.none g.met.S.Sink.part c.args.sink.now c.put_value.new.sink c.loop-item.sink (codes ", ") _ _ _ c.in-Some.further.now c.loop-item.item-index (omega arith)
    (item_texts-first _ _ _ is) (search rules) c.loop-item.invariant

pub put_entries-returns-after-loop-field : goal.put_entries-returns-after-loop-field
put_entries-returns-after-loop-field g t c =
    let is : c.args.fields.now ≡ c.in-Some.first.now ∷ c.in-Some.further.now = grind (arith, common_steps) in
    separated_put g.S.Sink.puts g.met.S.Sink.none g.met.S.Sink.part c.args.sink.now c.put_named_value.new.sink c.loop-field.sink (codes ", ") _ _ _ c.in-Some.further.now c.loop-field.field-index (omega arith)
    (entry_texts-first _ _ _ is) (search rules) c.loop-field.invariant
