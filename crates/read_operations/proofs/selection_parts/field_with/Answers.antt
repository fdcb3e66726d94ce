use Rattle.std.proofs.Common.{rules}
use Rattle.tree_operations.proofs.SelectionTrees.{selection_tree_field}
use Rattle.read_operations.proofs.selection_parts.field_with.Goals as goal

pub returns : goal.returns
returns c = rw (c.in_ok-selections.was, selection_tree_field c.in_ok-new_parsed.field-0, c.in_ok-new_parsed.ensures.content, c.in_ok-new_parsed.ensures.place) (search rules)
