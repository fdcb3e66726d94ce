use Rattle.std.proofs.Common.{sym}
use Rattle.std.proofs.lemmas.Result.{IfOk-weaker}
use Rattle.schema_fold_index.proofs.Indexing.{files_after}
use Rattle.schema_fold_index.proofs.index.file_under.Goals as goal

pub returns-in-Some : goal.returns-in-Some
returns-in-Some c =
    IfOk-weaker _ _ _ (λ _ h. files_after c.args.filed.now.entries (c.get_mut.follows.lender c.add.new.self).entries c.args.position c.args.parts.now c.in-Some.same_name.now c.add.new.self
    (sym c.in-Some.ensures.value) c.add.ensures.kind c.add.ensures.first h (c.get_mut.follows.holds c.add.new.self).0) c.add.ensures.others
