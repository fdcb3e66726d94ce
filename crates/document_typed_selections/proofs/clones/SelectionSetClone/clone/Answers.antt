use Rattle.std.proofs.Common.{rules}
use Rattle.document_typed_selections.proofs.TypedTrees.{set-copies}
use Rattle.document_typed_selections.proofs.clones.SelectionSetClone.clone.Goals as goal

pub returns : goal.returns
returns c =
    let h = set-copies c.args.self.now (record { ty = c.in_ok-ty.ty; selections = c.in_ok-ty.selections }) c.in_ok-ty.ensures.0 c.in_ok-ty.ensures.1.0 in
    search (rules, h)
