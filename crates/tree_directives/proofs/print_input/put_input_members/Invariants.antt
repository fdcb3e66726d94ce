use Rattle.std.proofs.Common.{map, take}
use Rattle.std.specs.Option.{option_copied}
use Rattle.tree_literals.specs.in_names.Placed.{node_tree}
use Rattle.tree_directives.specs.DirectiveTree.{input_value_tree}
use Rattle.tree_literals.specs.Levels.{level_depth}
use Rattle.tree_literals.specs.LineLayout.{members_text}
use Rattle.tree_literals.specs.LineLayout.{texts_of}
use Rattle.tree_directives.specs.InputLayout.{input_value_text}
use Rattle.tree_directives.proofs.print_input.put_input_members.Given as goal

abbrev pub invariant-loop-input : goal.invariant-loop-input
invariant-loop-input g l =
    let prefix = option_copied l.prefix in
    g.S.Sink.puts l.fn.sink (members_text prefix (level_depth l.level) (texts_of (input_value_text prefix) (map (node_tree input_value_tree) (take l.input-index l.inputs)))) l.sink
