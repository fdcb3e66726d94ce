use Rattle.std.proofs.Common.{map, take, codes}
use Rattle.std.specs.Option.{option_copied}
use Rattle.tree_literals.specs.in_names.Placed.{node_tree}
use Rattle.tree_directives.specs.DirectiveTree.{input_value_tree}
use Rattle.tree_literals.specs.Joined.{further_text}
use Rattle.tree_literals.specs.Levels.{level_depth}
use Rattle.tree_literals.specs.LineLayout.{texts_of}
use Rattle.tree_directives.specs.InputLayout.{input_value_text}
use Rattle.tree_directives.proofs.print_input.put_further_inputs.Given as goal

abbrev pub invariant-loop-input : goal.invariant-loop-input
invariant-loop-input g l =
    g.S.Sink.puts l.fn.sink (further_text (codes ", ") (texts_of (λ v. input_value_text (option_copied l.prefix) v (level_depth l.level)) (map (node_tree input_value_tree) (take l.input-index l.inputs)))) l.sink
