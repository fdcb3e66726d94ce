use Rattle.std.proofs.Common.{◌≡◌, ◌++◌, map, ◌∙◌}
use Rattle.std.proofs.lemmas.Result.{IfOk-weaker}
use Rattle.schema_fold.specs.NumberedDefinition.{directives_in, definitions_of}
use Rattle.schema_fold.specs.ListedView.{listed_view}
use Rattle.schema_fold.specs.Fold.{folded_directives}
use Rattle.schema_fold.specs.FaultView.{faults_of}
use Rattle.schema_fold_roots.specs.DirectiveFold.{chosen_firsts}
use Rattle.schema_fold_roots.specs.DirectivesView.{entries_view}
use Rattle.schema_fold_roots.proofs.Choosing.{folded_is}
use Rattle.schema_fold_roots.proofs.DirectiveFaults.{tells_directives}
use Rattle.schema_fold_roots.proofs.directives.fold_directives.Goals as goal

pub returns-clause-folded : goal.returns-clause-folded
returns-clause-folded c =
    let built_in = definitions_of (map listed_view c.args.built_in.now) in
    let texts = definitions_of (map listed_view c.args.texts.now) in
    let chosen_is = (λ i. chosen_firsts (c.in_ok-own.ensures.kept i) (directives_in built_in ++ directives_in texts)) ∙ folded_is built_in texts in
    IfOk-weaker c.choose_directives.result (λ m. entries_view m ≡ chosen_firsts (entries_view c.in_ok-own.own) (directives_in built_in ++ directives_in texts)) (λ m. entries_view m ≡ folded_directives built_in texts)
    (λ m h. h ∙ chosen_is) c.choose_directives.ensures

pub returns-clause-tells : goal.returns-clause-tells
returns-clause-tells c =
    IfOk-weaker _ _ _ (λ _ _. tells_directives (definitions_of (map listed_view c.args.built_in.now)) (definitions_of (map listed_view c.args.texts.now)) (faults_of c.args.faults.now) (faults_of c.keep_directives.new.faults) c.in_ok-own.ensures.faults) c.choose_directives.ensures
