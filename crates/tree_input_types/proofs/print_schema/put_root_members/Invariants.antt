use Rattle.std.proofs.Common.{map, take}
use Rattle.std.specs.Option.{option_copied}
use Rattle.tree_literals.specs.in_names.Placed.{node_tree}
use Rattle.tree_literals.specs.Levels.{level_depth}
use Rattle.tree_literals.specs.LineLayout.{members_text}
use Rattle.tree_literals.specs.LineLayout.{texts_of}
use Rattle.tree_input_types.specs.InputTypeTree.{root_tree}
use Rattle.tree_type_members.specs.TypeSystemLayout.{root_text}
use Rattle.tree_input_types.proofs.print_schema.put_root_members.Given as goal

abbrev pub invariant-loop-root : goal.invariant-loop-root
invariant-loop-root g l =
    let prefix = option_copied l.prefix in
    g.S.Sink.puts l.fn.sink (members_text prefix (level_depth l.level) (texts_of root_text (map (node_tree root_tree) (take l.root-index l.roots)))) l.sink
