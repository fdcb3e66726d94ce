use Rattle.std.proofs.Common.{map, take}
use Rattle.std.specs.Option.{option_copied}
use Rattle.tree_literals.specs.in_names.Placed.{node_tree}
use Rattle.tree_literals.specs.Levels.{level_depth}
use Rattle.tree_literals.specs.LineLayout.{members_text}
use Rattle.tree_literals.specs.LineLayout.{texts_of}
use Rattle.tree_type_members.specs.TypeSystemTree.{enum_value_tree}
use Rattle.tree_type_members.specs.TypeSystemLayout.{enum_value_text}
use Rattle.tree_type_members.proofs.print_members.put_value_members.Given as goal

abbrev pub invariant-loop-value : goal.invariant-loop-value
invariant-loop-value g l =
    let prefix = option_copied l.prefix in
    g.S.Sink.puts l.fn.sink (members_text prefix (level_depth l.level) (texts_of (enum_value_text prefix) (map (node_tree enum_value_tree) (take l.value-index l.values)))) l.sink
