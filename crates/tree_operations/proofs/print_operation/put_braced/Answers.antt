use Rattle.std.proofs.Common.{arith, rules, ◌<◌, length}
use Rattle.std.proofs.lemmas.Grind.{common_steps}
use Rattle.std.specs.Option.{option_copied}
use Rattle.tree_directives.specs.in_literals.Levels.{level_depth}
use Rattle.tree_operations.proofs.PrintedSelections.{braced-some}
use Rattle.tree_operations.proofs.print_operation.put_braced.Goals as goal

pub returns : goal.returns
returns g c =
    let some : 0 < length c.args.selections.now = grind (arith, common_steps) in
    rw (braced-some (option_copied c.args.prefix) (level_depth c.args.level.now) c.args.selections.now some) (search rules)
