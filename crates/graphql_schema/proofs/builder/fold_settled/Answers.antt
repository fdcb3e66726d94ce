use Rattle.std.proofs.Common.{map, subst}
use Rattle.schema_building.specs.in_fold.FaultView.{faults_of}
use Rattle.schema_building.specs.in_fold.ListedView.{listed_view}
use Rattle.schema_fold_lists.specs.FoldedView.{folded_view}
use Rattle.schema_fold_lists.specs.ListBuilt.{FoldsList}
use Rattle.graphql_schema.proofs.builder.fold_settled.Goals as goal

pub returns-clause-folds : goal.returns-clause-folds
returns-clause-folds c =
    subst (λ l. FoldsList (map listed_view l) c.args.settled.built_in (folded_view c.in_ok-folded.folded) (faults_of c.fold_list.new.faults)) c.deref.ensures.value c.in_ok-folded.ensures
