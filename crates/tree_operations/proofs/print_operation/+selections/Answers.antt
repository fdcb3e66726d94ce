use Rattle.std.proofs.Common.{arith, rules, ◌<◌, length}
use Rattle.std.proofs.lemmas.Grind.{common_steps}
use Rattle.std.specs.Option.{option_copied}
use Rattle.tree_directives.specs.in_literals.Levels.{level_depth}
use Rattle.tree_operations.proofs.PrintedSelections.{members_put, set-some}
use Rattle.tree_operations.proofs.print_operation.+selections.Goals as goal

pub put_members-returns : goal.put_members-returns
put_members-returns g t c =
    members_put g.S.Sink.puts c.args.sink.now c.loop-selection.sink (option_copied c.args.prefix) (level_depth c.args.level.now) c.loop-selection.selection-index c.args.selections.now (omega arith) c.loop-selection.invariant

pub put_set-returns : goal.put_set-returns
put_set-returns g t c =
    let some : 0 < length c.args.selections.now = grind (arith, common_steps) in
    rw (set-some (option_copied c.args.prefix) (level_depth c.args.level.now) c.args.selections.now some) (search rules)
