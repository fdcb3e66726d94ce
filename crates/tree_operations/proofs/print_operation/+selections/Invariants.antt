use Rattle.std.proofs.Common.{map, take}
use Rattle.std.specs.Option.{option_copied}
use Rattle.tree_operations.specs.SelectionTree.{selection_tree}
use Rattle.tree_directives.specs.in_literals.Levels.{level_depth}
use Rattle.tree_directives.specs.in_literals.LineLayout.{members_text}
use Rattle.tree_operations.specs.OperationLayout.{selection_text}
use Rattle.tree_operations.proofs.print_operation.+selections.Given as goal

abbrev pub invariant-put_members-loop-selection : goal.invariant-put_members-loop-selection
invariant-put_members-loop-selection g l =
    let prefix = option_copied l.prefix in
    g.S.Sink.puts l.fn.sink (members_text prefix (level_depth l.level) (map (λ s. selection_text prefix (selection_tree s)) (take l.selection-index l.selections))) l.sink
