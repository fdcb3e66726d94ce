use Rattle.std.proofs.Common.{map, take, codes}
use Rattle.graphql_names.specs.Node.{content}
use Rattle.tree_literals.specs.ValueTree.{value_tree}
use Rattle.tree_literals.specs.Joined.{further_text}
use Rattle.tree_literals.specs.ValueLayout.{value_text, named_value_text}
use Rattle.tree_literals.proofs.print_value.+values.Given as goal

abbrev pub invariant-put_items-loop-item : goal.invariant-put_items-loop-item
invariant-put_items-loop-item g l =
    g.S.Sink.puts l.initial.sink (further_text (codes ", ") (map (λ n. value_text (value_tree (content n))) (take l.item-index l.further))) l.sink

abbrev pub invariant-put_entries-loop-field : goal.invariant-put_entries-loop-field
invariant-put_entries-loop-field g l =
    g.S.Sink.puts l.initial.sink (further_text (codes ", ") (map (λ e. named_value_text e.0.text (value_text (value_tree (content e.1)))) (take l.field-index l.further))) l.sink
