use Rattle.std.proofs.Common.{◌≡◌, ◌++◌, map, sym, ap, subst, ◌∙◌}
use Rattle.std.proofs.lemmas.Result.{IfOk-weaker}
use Rattle.schema_types.specs.TypeView.{extended_type}
use Rattle.schema_fold.specs.Fold.{folded_type}
use Rattle.schema_fold.specs.FaultView.{faults_of}
use Rattle.schema_fold.specs.ListedView.{listed_view}
use Rattle.schema_fold.specs.Kept.{kept, kept_from, component_faults}
use Rattle.schema_fold.specs.Made.{defined_view, made, IsOfKind}
use Rattle.schema_fold.proofs.OfKind.{folded_of_kind}
use Rattle.schema_fold.proofs.fold.fold_type.Goals as goal

pub make_type-requires : goal.make_type-requires
make_type-requires c = subst (IsOfKind c.args.defined.now.parts.kind) (sym (c.in_ok-keep_all.ensures.kept ∙ ap kept_from c.in_ok-collect_type.ensures))
    (folded_of_kind (map listed_view c.args.list.now) c.requires.0 (defined_view c.args.defined.now) c.requires.1)

pub returns-clause-folded : goal.returns-clause-folded
returns-clause-folded c =
    let d = defined_view c.args.defined.now in
    let is = c.in_ok-keep_all.ensures.kept ∙ ap kept_from c.in_ok-collect_type.ensures in
    IfOk-weaker c.make_type.result (λ t. extended_type t ≡ made d (kept c.keep_all.new.self)) (λ t. extended_type t ≡ folded_type (map listed_view c.args.list.now) d) (λ t h. h ∙ ap (made d) is) c.make_type.ensures

pub returns-clause-faults : goal.returns-clause-faults
returns-clause-faults c = IfOk-weaker _ _ _ (λ _ h. c.in_ok-keep_all.ensures.faults
    ∙ ap (λ a. faults_of c.args.faults.now ++ component_faults c.args.defined.now.parts.kind c.args.defined.now.parts.name.now.text a) c.in_ok-collect_type.ensures) c.make_type.ensures
