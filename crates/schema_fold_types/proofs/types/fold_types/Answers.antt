use Rattle.std.proofs.Common.{map, sym, ap, subst, ◌++◌, ◌∙◌}
use Rattle.schema_fold_index.specs.in_schema_types.SchemaView.{types_view}
use Rattle.schema_fold_index.specs.in_fold.FaultView.{faults_of}
use Rattle.schema_fold_index.specs.in_fold.NumberedDefinition.{types_in, definitions_of}
use Rattle.schema_fold_index.specs.in_fold.ListedView.{listed_view}
use Rattle.schema_fold_types.specs.OwnNames.{TypesUnderOwnNames}
use Rattle.schema_fold_types.proofs.FoldedTypes.{folds_types, tells_types}
use Rattle.schema_fold_types.proofs.Folding.{entry_view}
use Rattle.schema_fold_types.proofs.FoldingAll.{folds_all}
use Rattle.schema_fold_types.proofs.OwnNames.{types_own}
use Rattle.schema_fold_types.proofs.types.fold_types.Goals as goal

pub returns-clause-types : goal.returns-clause-types
returns-clause-types c =
    let built_in = map listed_view c.args.built_in.now in
    let texts = map listed_view c.args.texts.now in
    let index = c.args.index.now in
    let both = folds_all built_in texts index.defined.entries index.extended.entries c.requires.0 c.requires.1
    (types_view c.new-types.result) (types_view c.fold_built_in.new.types) (types_view c.fold_filed.new.types) (faults_of c.args.faults.now) (faults_of c.fold_built_in.new.faults) (faults_of c.fold_filed.new.faults)
    c.as_slice-filed.result.now (c.as_slice-filed.ensures ∙ c.values.ensures.rest) (ap (map entry_view) c.new-types.ensures.empty) c.in_ok-fold_built_in.ensures c.in_ok-fold_filed.ensures in
    both.0

pub returns-clause-faults : goal.returns-clause-faults
returns-clause-faults c =
    let built_in = map listed_view c.args.built_in.now in
    let texts = map listed_view c.args.texts.now in
    let index = c.args.index.now in
    let both = folds_all built_in texts index.defined.entries index.extended.entries c.requires.0 c.requires.1
    (types_view c.new-types.result) (types_view c.fold_built_in.new.types) (types_view c.fold_filed.new.types) (faults_of c.args.faults.now) (faults_of c.fold_built_in.new.faults) (faults_of c.fold_filed.new.faults)
    c.as_slice-filed.result.now (c.as_slice-filed.ensures ∙ c.values.ensures.rest) (ap (map entry_view) c.new-types.ensures.empty) c.in_ok-fold_built_in.ensures c.in_ok-fold_filed.ensures in
    both.1

pub returns-clause-folded : goal.returns-clause-folded
returns-clause-folded c =
    let built_in = map listed_view c.args.built_in.now in
    let texts = map listed_view c.args.texts.now in
    let index = c.args.index.now in
    let both = folds_all built_in texts index.defined.entries index.extended.entries c.requires.0 c.requires.1
    (types_view c.new-types.result) (types_view c.fold_built_in.new.types) (types_view c.fold_filed.new.types) (faults_of c.args.faults.now) (faults_of c.fold_built_in.new.faults) (faults_of c.fold_filed.new.faults)
    c.as_slice-filed.result.now (c.as_slice-filed.ensures ∙ c.values.ensures.rest) (ap (map entry_view) c.new-types.ensures.empty) c.in_ok-fold_built_in.ensures c.in_ok-fold_filed.ensures in
    folds_types built_in texts (types_view c.fold_filed.new.types) both.0

pub returns-clause-tells : goal.returns-clause-tells
returns-clause-tells c =
    let built_in = map listed_view c.args.built_in.now in
    let texts = map listed_view c.args.texts.now in
    let index = c.args.index.now in
    let both = folds_all built_in texts index.defined.entries index.extended.entries c.requires.0 c.requires.1
    (types_view c.new-types.result) (types_view c.fold_built_in.new.types) (types_view c.fold_filed.new.types) (faults_of c.args.faults.now) (faults_of c.fold_built_in.new.faults) (faults_of c.fold_filed.new.faults)
    c.as_slice-filed.result.now (c.as_slice-filed.ensures ∙ c.values.ensures.rest) (ap (map entry_view) c.new-types.ensures.empty) c.in_ok-fold_built_in.ensures c.in_ok-fold_filed.ensures in
    tells_types built_in texts (faults_of c.args.faults.now) (faults_of c.fold_filed.new.faults) both.1

pub returns-clause-own_names : goal.returns-clause-own_names
returns-clause-own_names c =
    let built_in = map listed_view c.args.built_in.now in
    let texts = map listed_view c.args.texts.now in
    let index = c.args.index.now in
    let both = folds_all built_in texts index.defined.entries index.extended.entries c.requires.0 c.requires.1
    (types_view c.new-types.result) (types_view c.fold_built_in.new.types) (types_view c.fold_filed.new.types) (faults_of c.args.faults.now) (faults_of c.fold_built_in.new.faults) (faults_of c.fold_filed.new.faults)
    c.as_slice-filed.result.now (c.as_slice-filed.ensures ∙ c.values.ensures.rest) (ap (map entry_view) c.new-types.ensures.empty) c.in_ok-fold_built_in.ensures c.in_ok-fold_filed.ensures in
    subst TypesUnderOwnNames (sym both.0) (types_own texts (types_in (definitions_of built_in) ++ types_in (definitions_of texts)))
