use Rattle.std.proofs.Common.{map, take}
use Rattle.std.specs.Option.{option_copied}
use Rattle.tree_literals.specs.in_names.Placed.{node_tree}
use Rattle.tree_literals.specs.Levels.{level_depth}
use Rattle.tree_literals.specs.LineLayout.{members_text}
use Rattle.tree_literals.specs.LineLayout.{texts_of}
use Rattle.tree_type_members.specs.TypeSystemTree.{field_definition_tree}
use Rattle.tree_type_members.specs.TypeSystemLayout.{field_definition_text}
use Rattle.tree_type_members.proofs.print_members.put_field_members.Given as goal

abbrev pub invariant-loop-field : goal.invariant-loop-field
invariant-loop-field g l =
    let prefix = option_copied l.prefix in
    g.S.Sink.puts l.fn.sink (members_text prefix (level_depth l.level) (texts_of (field_definition_text prefix) (map (node_tree field_definition_tree) (take l.field-index l.fields)))) l.sink
