use Rattle.std.proofs.Common.{map, sym, ap, option_to_list}
use Rattle.schema_fold_index.specs.in_definitions.DefinitionTree.{definition_tree}
use Rattle.schema_fold_index.specs.in_schema_types.SchemaView.{types_view}
use Rattle.schema_fold_index.specs.in_fold.FaultView.{faults_of}
use Rattle.schema_fold_index.specs.in_fold.ListedView.{listed_view}
use Rattle.schema_fold_index.specs.Index.{extensions_under}
use Rattle.schema_fold_types.proofs.FoldingAll.{folds_nothing}
use Rattle.schema_fold_types.proofs.types.fold_here.Goals as goal

pub fold_first-requires : goal.fold_first-requires
fold_first-requires c = (definition_tree c.args.listed.now.definition, sym c.in-Some.ensures)

pub returns-in-None : goal.returns-in-None
returns-in-None c =
    folds_nothing (extensions_under (map listed_view c.args.extended.now.texts.now) c.args.extended.now.filed.now.entries) _ (types_view c.args.types.now) (faults_of c.args.faults.now) (ap option_to_list (sym c.in-None.ensures))
