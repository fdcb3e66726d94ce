use Rattle.std.proofs.Common.{sym, subst, ◌∙◌}
use Rattle.schema_building.specs.in_built_in.Table.{built_in_definitions}
use Rattle.schema_building.specs.in_fold.FaultView.{faults_of}
use Rattle.schema_building.specs.Building.{counted}
use Rattle.schema_building.specs.BuildingView.{builder_view}
use Rattle.schema_fold_lists.specs.in_fold_types.OwnNames.{UnderOwnNames}
use Rattle.schema_fold_lists.proofs.in_fold_types.OwnNames.{under_own_names}
use Rattle.schema_fold_lists.proofs.Folding.{faultless}
use Rattle.graphql_schema.proofs.builder.SchemaBuilder.build.Goals as goal

pub returns-clause-schema : goal.returns-clause-schema
returns-clause-schema c =
    let b = builder_view c.args.self.building in
    (c.in_ok-built.ensures.folds b.first (counted b) c.in_ok-settled.ensures.list c.in_ok-settled.ensures.built_in).0

pub returns-clause-own_names : goal.returns-clause-own_names
returns-clause-own_names c =
    let b = builder_view c.args.self.building in
    let same = (c.in_ok-built.ensures.folds b.first (counted b) c.in_ok-settled.ensures.list c.in_ok-settled.ensures.built_in).0 in
    subst UnderOwnNames (sym same) (under_own_names built_in_definitions b.first (counted b))

pub returns-clause-sources : goal.returns-clause-sources
returns-clause-sources c = c.in_ok-built.ensures.sources ∙ c.in_ok-settled.ensures.sources

pub returns-clause-faults : goal.returns-clause-faults
returns-clause-faults c =
    let b = builder_view c.args.self.building in
    (c.in_ok-built.ensures.folds b.first (counted b) c.in_ok-settled.ensures.list c.in_ok-settled.ensures.built_in).1

pub returns-clause-faultless : goal.returns-clause-faultless
returns-clause-faultless c =
    let b = builder_view c.args.self.building in
    faultless built_in_definitions b.first (counted b) (faults_of c.in_ok-built.built.1)
    (c.in_ok-built.ensures.folds b.first (counted b) c.in_ok-settled.ensures.list c.in_ok-settled.ensures.built_in).1
