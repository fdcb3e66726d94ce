use Rattle.std.proofs.Common.{arith, ◌<◌, ◌&&◌, not, length, sym, ap, ◌∙◌}
use Rattle.std.proofs.lemmas.Grind.{common_steps}
use Rattle.tree_operations.proofs.PrintedSelections.{has_selection-some}
use Rattle.document_typing.specs.Telling.{is_leaf_type}
use Rattle.document_typing.proofs.rules.may_select.Goals as goal

pub returns-else-is_empty : goal.returns-else-is_empty
returns-else-is_empty c =
    let some : 0 < length c.args.selections.now = grind (arith, common_steps) in
    ap not c.is_leaf.ensures
    ∙ sym (ap (λ b. not (b && is_leaf_type c.args.ty)) (has_selection-some c.args.selections.now some))
