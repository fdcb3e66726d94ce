use Rattle.std.proofs.Common.{map, sym}
use Rattle.std.proofs.lemmas.Result.{IfOk-weaker}
use Rattle.schema_fold_index.specs.in_schema_types.SchemaView.{types_view}
use Rattle.schema_fold_index.specs.in_fold.FaultView.{faults_of}
use Rattle.schema_fold_index.specs.in_fold.ListedView.{listed_view}
use Rattle.schema_fold_index.specs.Index.{extensions_under}
use Rattle.schema_fold_types.proofs.FoldingAll.{folds_nothing, folds_same, defined_none, defined_some}
use Rattle.schema_fold_types.proofs.types.fold_at.Goals as goal

pub returns-in-None : goal.returns-in-None
returns-in-None c =
    folds_nothing (extensions_under (map listed_view c.args.extended.now.texts.now) c.args.extended.now.filed.now.entries) _ (types_view c.args.types.now) (faults_of c.args.faults.now)
    (defined_none c.args.extended.now.texts.now c.args.position c.in-None.ensures.lookup.3)

pub returns-in-Some : goal.returns-in-Some
returns-in-Some c =
    let found = c.in-Some.ensures.lookup.3 in
    let here = c.in-Some.listed.now in
    IfOk-weaker _ _ _ (λ _ h. folds_same (extensions_under (map listed_view c.args.extended.now.texts.now) c.args.extended.now.filed.now.entries) _ _
    (types_view c.args.types.now) (types_view c.fold_here.new.types) (faults_of c.args.faults.now) (faults_of c.fold_here.new.faults)
    (sym (defined_some c.args.extended.now.texts.now c.args.position here found.0 (found.1 here))) h) c.fold_here.ensures
