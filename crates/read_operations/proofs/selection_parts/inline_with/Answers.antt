use Rattle.std.proofs.Common.{rules}
use Rattle.tree_operations.proofs.SelectionTrees.{selection_tree_inline}
use Rattle.read_operations.proofs.selection_parts.inline_with.Goals as goal

pub returns : goal.returns
returns c = rw (c.in_ok-selection_set.was, selection_tree_inline c.in_ok-new_parsed.field-0, c.in_ok-new_parsed.ensures.content, c.in_ok-new_parsed.ensures.place) (search rules)
