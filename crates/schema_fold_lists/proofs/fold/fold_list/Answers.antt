use Rattle.std.proofs.Common.{map, subst}
use Rattle.schema_fold.specs.in_schema_types.SchemaView.{schema_view}
use Rattle.schema_fold.specs.FaultView.{fault_of, faults_of}
use Rattle.schema_fold.specs.NumberedDefinition.{definitions_of}
use Rattle.schema_fold.specs.ListedView.{listed_view}
use Rattle.schema_fold_types.specs.Misplaced.{TellsMisplaced}
use Rattle.schema_fold_lists.proofs.Folding.{folds_parts, folds_split, joined}
use Rattle.schema_fold_lists.proofs.fold.fold_list.Goals as goal

pub returns : goal.returns
returns c =
    let xs = c.args.list.now in
    let front = c.split_at.result.0.now in
    let back = c.split_at.result.1.now in
    let built_in = map listed_view front in
    let texts = map listed_view back in
    let schema = schema_view c.in_ok-schema_definition.schema_definition c.in_ok-directive_definitions.directive_definitions c.in_ok-types.types in
    folds_split listed_view xs front back c.args.built_in c.split_at.ensures.front c.split_at.ensures.back schema (faults_of c.fold_types.new.faults)
    (folds_parts (map listed_view xs) built_in texts schema
    (faults_of c.tell_misplaced.new.faults) (faults_of c.fold_schema.new.faults) (faults_of c.fold_directives.new.faults) (faults_of c.fold_types.new.faults)
    (subst (λ l. TellsMisplaced (definitions_of built_in) (definitions_of texts) (map fault_of l) (faults_of c.tell_misplaced.new.faults)) c.requires.faultless c.in_ok-tell_misplaced.ensures.tells)
    c.in_ok-schema_definition.ensures.tells c.in_ok-directive_definitions.ensures.tells c.in_ok-types.ensures.tells
    c.in_ok-schema_definition.ensures.is_fold c.in_ok-directive_definitions.ensures.folded c.in_ok-types.ensures.folded
    (joined listed_view xs front back c.args.built_in c.split_at.ensures.front c.split_at.ensures.back))
