use Rattle.std.proofs.Common.{rules}
use Rattle.read_operations.proofs.SelectionRules.{selection_tree_spread}
use Rattle.read_operations.proofs.selection_parts.placed_spread.Goals as goal

pub returns : goal.returns
returns c = rw (selection_tree_spread c.in_ok-new_parsed.field-0, c.in_ok-new_parsed.ensures.content, c.in_ok-new_parsed.ensures.place) (search rules)
