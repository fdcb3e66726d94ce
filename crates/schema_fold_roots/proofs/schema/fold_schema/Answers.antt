use Rattle.std.proofs.Common.{◌++◌, None, Some, map, ap, ◌∙◌}
use Rattle.std.proofs.lemmas.Result.{IfOk-weaker}
use Rattle.schema_fold.specs.in_schema_types.TypeView.{schema_roots}
use Rattle.schema_fold.specs.FaultView.{faults_of}
use Rattle.schema_fold.specs.ListedView.{listed_view}
use Rattle.schema_fold_roots.specs.ListFold.{roots_from, root_faults}
use Rattle.schema_fold_roots.specs.RootsView.{schema_giver}
use Rattle.schema_fold_roots.proofs.FoldedSchema.{is_fold, tells_roots, parts_is, schema_is}
use Rattle.schema_fold_roots.proofs.schema.fold_schema.Goals as goal

pub returns-in-None-clause-is_fold : goal.returns-in-None-clause-is_fold
returns-in-None-clause-is_fold c =
    let list = map listed_view c.args.list.now in
    IfOk-weaker _ _ _ (λ n h. is_fold list (schema_roots n) (h ∙ schema_is list None c.in-None.ensures)) c.fold_implicit.ensures.folded

pub returns-in-None-clause-tells : goal.returns-in-None-clause-tells
returns-in-None-clause-tells c =
    let list = map listed_view c.args.list.now in
    let faults = faults_of c.args.faults.now in
    IfOk-weaker _ _ _ (λ _ h. tells_roots list faults (faults_of c.fold_implicit.new.faults) (h ∙ ap (λ ps. faults ++ root_faults (roots_from ps)) (parts_is list None c.in-None.ensures))) c.fold_implicit.ensures.faults

pub returns-in-Some-clause-is_fold : goal.returns-in-Some-clause-is_fold
returns-in-Some-clause-is_fold c =
    let list = map listed_view c.args.list.now in
    IfOk-weaker _ _ _ (λ n h. is_fold list (schema_roots n) (h ∙ schema_is list (Some (schema_giver c.in-Some.defined.now)) c.in-Some.ensures)) c.fold_defined.ensures.folded

pub returns-in-Some-clause-tells : goal.returns-in-Some-clause-tells
returns-in-Some-clause-tells c =
    let list = map listed_view c.args.list.now in
    let faults = faults_of c.args.faults.now in
    IfOk-weaker _ _ _ (λ _ h. tells_roots list faults (faults_of c.fold_defined.new.faults) (h ∙ ap (λ ps. faults ++ root_faults (roots_from ps)) (parts_is list (Some (schema_giver c.in-Some.defined.now)) c.in-Some.ensures))) c.fold_defined.ensures.faults
