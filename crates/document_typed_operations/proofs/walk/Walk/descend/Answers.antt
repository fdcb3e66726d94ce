use Rattle.std.proofs.Common.{◌++◌, [], refl, fold, ◌∙◌}
use Rattle.document_typed_operations.specs.WalkView.{walk_state, members_on, waiting_in}
use Rattle.document_typed_operations.proofs.Standings.{descended}
use Rattle.document_typed_operations.proofs.walk.Walk.descend.Goals as goal

pub returns : goal.returns
returns c =
    (λ i. record (walk_state c.args.self.now) { pending = members_on c.args.set.now.ty c.as_slice-self.result.now ++ fold waiting_in [] (c.in_ok-push.ensures.items i) })
    ∙ descended c.args.set.now c.as_slice-self.result.now c.args.self.now.outer.items _ (walk_state c.args.self.now) c.as_slice-self.ensures.value refl
