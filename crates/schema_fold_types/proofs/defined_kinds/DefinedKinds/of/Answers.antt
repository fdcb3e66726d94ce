use Rattle.std.proofs.Common.{◌<◌, ◌∷◌, [], ◌++◌, map, take, length, sym, ap, ◌∙◌, arith}
use Rattle.schema_fold_index.specs.in_definitions.DefinitionTree.{definition_tree}
use Rattle.schema_fold_index.specs.in_fold.NumberedDefinition.{definitions_of}
use Rattle.schema_fold_index.specs.in_fold.ListedView.{listed_view}
use Rattle.schema_fold_index.proofs.Listing.{definitions_more}
use Rattle.schema_fold_types.specs.DefinedKinds.{seen_of}
use Rattle.schema_fold_types.proofs.defined_kinds.DefinedKinds.of.Goals as goal

pub loop-listed-preserved : goal.loop-listed-preserved
loop-listed-preserved c =
    let xs = c.args.list.now in
    let i = c.loop-listed.listed-index in
    let x = c.listed-item.result in
    let h : i < length xs = omega arith in
    let before = definitions_of (map listed_view (take i xs)) in
    let front = definitions_more xs i x h ∙ ap (λ y. before ++ definition_tree y.definition ∷ []) (sym c.listed-item.is) in
    c.in_ok-add.ensures before c.loop-listed.invariant ∙ ap seen_of (sym front)
