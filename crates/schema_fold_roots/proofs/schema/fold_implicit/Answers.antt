use Rattle.std.proofs.Common.{◌≡◌, None, map, ap, ◌∙◌}
use Rattle.std.proofs.lemmas.Result.{IfOk-weaker}
use Rattle.schema_fold.specs.in_schema_types.TypeView.{schema_roots}
use Rattle.schema_fold.specs.ListedView.{listed_view}
use Rattle.schema_fold_roots.specs.ListFold.{implicit_parts, schema_from}
use Rattle.schema_fold_roots.specs.RootFold.{made_from}
use Rattle.schema_fold_roots.specs.RootsView.{all_of_schema}
use Rattle.schema_fold_roots.proofs.schema.fold_implicit.Goals as goal

pub returns-clause-folded : goal.returns-clause-folded
returns-clause-folded c =
    IfOk-weaker c.make_schema.result (λ n. schema_roots n ≡ made_from None None (all_of_schema c.in_ok-all.all)) (λ n. schema_roots n ≡ schema_from None None (implicit_parts (map listed_view c.args.list.now)))
    (λ n h. h ∙ ap (made_from None None) c.in_ok-all.ensures) c.make_schema.ensures.made
