use Rattle.std.proofs.Common.{ap, fold, []}
use Rattle.document_typed_operations.specs.WalkView.{fragments_tree, waiting_in}
use Rattle.document_typed_operations.proofs.Standings.{starts}
use Rattle.document_typed_operations.proofs.walk.Walk.new.Goals as goal

pub returns : goal.returns
returns c = starts c.args.nested (fragments_tree c.args.fragments.now) c.args.start.now c.as_slice.result.now (fold waiting_in [] c.new.result.items) c.new-2.result.keys
    c.as_slice.ensures.value (ap (fold waiting_in []) c.new.ensures.items) c.new-2.ensures.empty
