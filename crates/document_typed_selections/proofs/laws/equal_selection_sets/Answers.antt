use Rattle.std.proofs.Common.{rules}
use Rattle.document_typed_selections.proofs.TypedEquality.{set_eq-Decides}
use Rattle.document_typed_selections.proofs.laws.equal_selection_sets.Goals as goal

pub returns : goal.returns
returns c = let h = set_eq-Decides c.args.a.now c.args.b.now in rw c.eq.ensures (search (rules, h))
