use Rattle.std.proofs.Common.{◌<◌, ◌∷◌, [], ◌++◌, map, take, length, sym, ap, ◌∙◌, arith}
use Rattle.std.specs.List.{flat_map}
use Rattle.schema_fold_index.specs.in_definitions.DefinitionTree.{definition_tree}
use Rattle.schema_fold_index.specs.in_fold.FaultView.{faults_of}
use Rattle.schema_fold_index.specs.in_fold.NumberedDefinition.{definitions_of}
use Rattle.schema_fold_index.specs.in_fold.ListedView.{listed_view}
use Rattle.schema_fold_index.proofs.Listing.{definitions_more}
use Rattle.schema_fold_types.specs.DefinedKinds.{extension_faults}
use Rattle.schema_fold_types.specs.DefinedKindsView.{seen_view}
use Rattle.schema_fold_types.specs.TextDefinitionsView.{own_view}
use Rattle.schema_fold_types.proofs.Turns.{told_extension}
use Rattle.schema_fold_types.proofs.orphans.tell_extensions.Goals as goal

pub loop-listed-preserved : goal.loop-listed-preserved
loop-listed-preserved c =
    let xs = c.args.texts.now in
    let i = c.loop-listed.listed-index in
    let x = c.listed-item.result in
    let h : i < length xs = omega arith in
    let before = definitions_of (map listed_view (take i xs)) in
    let front = definitions_more xs i x h ∙ ap (λ y. before ++ definition_tree y.definition ∷ []) (sym c.listed-item.is) in
    let tells = extension_faults (seen_view c.args.built_in.now) (own_view c.args.own.now) in
    let start = faults_of c.args.faults.now in
    told_extension tells before (definition_tree x.definition) start (faults_of c.loop-listed.faults) (faults_of c.tell_extension.new.faults) c.loop-listed.invariant c.in_ok-tell_extension.ensures
    ∙ ap (λ ds. start ++ flat_map tells ds) (sym front)
