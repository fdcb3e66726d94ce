use Rattle.std.proofs.Common.{◌==◌, [], ◌∷◌, ◌++◌, None, map, sym, ap, ◌∙◌, if◌then◌else◌}
use Rattle.std.specs.List.{flat_map}
use Rattle.schema_fold.specs.Components.{all_given}
use Rattle.schema_fold.specs.NumberedDefinition.{definitions_of}
use Rattle.schema_fold.specs.SchemaFold.{extends_schema, implicit_roots}
use Rattle.schema_fold.specs.ListedView.{listed_view}
use Rattle.schema_fold_roots.specs.ListFold.{Parts}
use Rattle.schema_fold_roots.specs.RootFold.{all_from}
use Rattle.schema_fold_roots.proofs.Gathering.{all_push, some_given}
use Rattle.schema_fold_roots.proofs.schema.collect_implicit.Goals as goal

pub returns : goal.returns
returns c =
    let list = map listed_view c.args.list.now in
    let rs = implicit_roots (definitions_of list) in
    let g : Parts = record { extension = None; it = record { directives = []; roots = rs } } in
    let roots = c.in_ok-add_implicit_roots.ensures ∙ ap (λ a. a.roots ++ all_given None rs) c.new-all.ensures in
    let there = some_given c.add_implicit_roots.new.roots.items rs roots (ap (λ n. n == 0) (sym c.add_implicit_roots.new.roots.ok.0) ∙ sym c.is_empty.ensures ∙ c.if-is_empty.false) in
    c.in_ok-add_extensions.ensures (g ∷ []) ((λ i. record { directives = (c.new-all.ensures i).directives; roots = roots i }) ∙ sym (all_push [] g))
    ∙ ap (λ b. all_from (g ∷ (if b then flat_map extends_schema list else []))) (sym there)
