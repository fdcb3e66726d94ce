use Rattle.std.proofs.Common.{refl}
use Rattle.std.proofs.lemmas.Result.{IfOk-weaker}
use Rattle.schema_fold_index.specs.declared.index.Positions.{Positions}
use Rattle.schema_fold_index.proofs.Indexing.{files_first}
use Rattle.schema_fold_index.proofs.index.file_first.Goals as goal

pub returns : goal.returns
returns c =
    let first : Positions = record { kind = c.args.parts.now.kind; first = c.args.position; others = c.new.result } in
    IfOk-weaker _ _ _ (λ _ h. files_first c.args.filed.now.entries c.insert_new.new.map.entries c.args.position c.args.parts.now first
    c.requires refl refl c.new.ensures.items h) c.insert_new.ensures
