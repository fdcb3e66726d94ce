use Rattle.std.proofs.Common.{◌<◌, ◌∷◌, [], ◌++◌, map, take, length, sym, ap, ◌∙◌, option_to_list, arith}
use Rattle.std.proofs.lemmas.List.{append-nil, take_all}
use Rattle.schema_fold_index.specs.in_definitions.DefinitionTree.{definition_tree}
use Rattle.schema_fold_index.specs.in_schema_types.SchemaView.{types_view}
use Rattle.schema_fold_index.specs.in_schema_types.TypeParts.{type_here}
use Rattle.schema_fold_index.specs.in_fold.FaultView.{faults_of}
use Rattle.schema_fold_index.specs.in_fold.NumberedDefinition.{types_in, definitions_of}
use Rattle.schema_fold_index.specs.in_fold.ListedView.{listed_view}
use Rattle.schema_fold_index.specs.Index.{extensions_under}
use Rattle.schema_fold_types.proofs.Folding.{folds_none, folds_then, types_more}
use Rattle.schema_fold_types.proofs.FoldingAll.{folds_same}
use Rattle.schema_fold_index.proofs.Listing.{definitions_more}
use Rattle.schema_fold_types.proofs.types.fold_built_in.Goals as goal

pub loop-listed-init : goal.loop-listed-init
loop-listed-init c = folds_none (extensions_under (map listed_view c.args.extended.now.texts.now) c.args.extended.now.filed.now.entries) (types_view c.args.types.now) (faults_of c.args.faults.now)

pub loop-listed-preserved : goal.loop-listed-preserved
loop-listed-preserved c =
    let xs = c.args.built_in.now in
    let i = c.loop-listed.listed-index in
    let x = c.listed-item.result in
    let h : i < length xs = omega arith in
    let extensions = extensions_under (map listed_view c.args.extended.now.texts.now) c.args.extended.now.filed.now.entries in
    let before = definitions_of (map listed_view (take i xs)) in
    let types = types_view c.args.types.now in
    let faults = faults_of c.args.faults.now in
    let types' = types_view c.fold_here.new.types in
    let faults' = faults_of c.fold_here.new.faults in
    let here = option_to_list (type_here (definition_tree x.definition)) in
    let more = ap (λ l. types_in before ++ l) (sym (append-nil here)) ∙ sym (types_more before (definition_tree x.definition))
    ∙ ap types_in (ap (λ y. before ++ definition_tree y.definition ∷ []) c.listed-item.is ∙ sym (definitions_more xs i x h)) in
    folds_same extensions _ _ types types' faults faults' more
    (folds_then extensions types (types_view c.loop-listed.types) types' faults (faults_of c.loop-listed.faults) faults' (types_in before) here c.loop-listed.invariant c.in_ok-fold_here.ensures)

pub returns : goal.returns
returns c =
    folds_same (extensions_under (map listed_view c.args.extended.now.texts.now) c.args.extended.now.filed.now.entries) _ _
    (types_view c.args.types.now) (types_view c.loop-listed.types) (faults_of c.args.faults.now) (faults_of c.loop-listed.faults)
    (ap (λ l. types_in (definitions_of (map listed_view l))) (take_all c.loop-listed.listed-index c.args.built_in.now c.loop-listed-test.false)) c.loop-listed.invariant
