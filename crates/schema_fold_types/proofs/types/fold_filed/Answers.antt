use Rattle.std.proofs.Common.{◌<◌, ◌++◌, map, take, get_or, length, sym, ap, ◌∙◌, arith}
use Rattle.std.specs.List.{flat_map}
use Rattle.std.proofs.lemmas.List.{take_all}
use Rattle.std.proofs.lemmas.Grind.{take_at_read}
use Rattle.schema_fold_index.specs.in_schema_types.SchemaView.{types_view}
use Rattle.schema_fold_index.specs.in_fold.FaultView.{faults_of}
use Rattle.schema_fold_index.specs.in_fold.NumberedDefinition.{definitions_of}
use Rattle.schema_fold_index.specs.in_fold.ListedView.{listed_view}
use Rattle.schema_fold_index.specs.Index.{defined_at, extensions_under}
use Rattle.schema_fold_types.proofs.Folding.{folds_none, folds_then}
use Rattle.schema_fold_types.proofs.FoldingAll.{folds_same}
use Rattle.schema_fold_index.proofs.Listing.{flat_map-push}
use Rattle.schema_fold_types.proofs.types.fold_filed.Goals as goal

pub loop-filed-init : goal.loop-filed-init
loop-filed-init c = folds_none (extensions_under (map listed_view c.args.extended.now.texts.now) c.args.extended.now.filed.now.entries) (types_view c.args.types.now) (faults_of c.args.faults.now)

pub loop-filed-preserved : goal.loop-filed-preserved
loop-filed-preserved c =
    let xs = c.args.defined.now in
    let i = c.loop-filed.filed-index in
    let x = c.filed-item.result in
    let h : i < length xs = omega arith in
    let extensions = extensions_under (map listed_view c.args.extended.now.texts.now) c.args.extended.now.filed.now.entries in
    let ds = definitions_of (map listed_view c.args.extended.now.texts.now) in
    let types = types_view c.args.types.now in
    let faults = faults_of c.args.faults.now in
    let types' = types_view c.fold_at.new.types in
    let faults' = faults_of c.fold_at.new.faults in
    let before = flat_map (λ f. defined_at ds f.first) (take i xs) in
    let more = ap (λ f. before ++ defined_at ds f.first) c.filed-item.is ∙ sym (flat_map-push (λ f. defined_at ds f.first) (take i xs) (get_or xs i x)) ∙ ap (flat_map (λ f. defined_at ds f.first)) (sym (take_at_read xs i x h).1) in
    folds_same extensions _ _ types types' faults faults' more
    (folds_then extensions types (types_view c.loop-filed.types) types' faults (faults_of c.loop-filed.faults) faults' before (defined_at ds x.first) c.loop-filed.invariant c.in_ok-fold_at.ensures)

pub returns : goal.returns
returns c =
    let ds = definitions_of (map listed_view c.args.extended.now.texts.now) in
    folds_same (extensions_under (map listed_view c.args.extended.now.texts.now) c.args.extended.now.filed.now.entries) _ _
    (types_view c.args.types.now) (types_view c.loop-filed.types) (faults_of c.args.faults.now) (faults_of c.loop-filed.faults)
    (ap (flat_map (λ f. defined_at ds f.first)) (take_all c.loop-filed.filed-index c.args.defined.now c.loop-filed-test.false)) c.loop-filed.invariant
