use Rattle.std.proofs.Common.{arith, ◌<◌, length, sym}
use Rattle.std.proofs.lemmas.Grind.{common_steps}
use Rattle.tree_operations.proofs.PrintedSelections.{has_selection-some}
use Rattle.tree_operations.proofs.writable_operation.has_selection.Goals as goal

pub returns-in-len1-up : goal.returns-in-len1-up
returns-in-len1-up c =
    let some : 0 < length c.args.selections.now = grind (arith, common_steps) in
    sym (has_selection-some c.args.selections.now some)
