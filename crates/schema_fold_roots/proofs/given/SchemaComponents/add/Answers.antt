use Rattle.std.proofs.Common.{◌++◌, map, ap, ◌∙◌}
use Rattle.std.proofs.lemmas.Result.{IfOk-weaker}
use Rattle.graphql_names.specs.Placed.{node_tree}
use Rattle.schema_components.specs.Given.{origin_tree}
use Rattle.schema_fold.specs.Components.{all_given}
use Rattle.schema_fold.specs.PartsView.{itself, given_contents}
use Rattle.schema_fold_roots.proofs.Gathering.{all_added}
use Rattle.schema_fold_roots.proofs.given.SchemaComponents.add.Goals as goal

pub returns : goal.returns
returns c =
    let old = c.args.self.now in
    let e = origin_tree c.args.origin in
    let first = c.in_ok-add_components.ensures ∙ ap (λ ns. given_contents old.directives.items ++ all_given e (map (node_tree itself) ns)) c.deref.ensures.value in
    IfOk-weaker _ _ _ (λ _ h. all_added old (record { directives = c.add_components.new.all; roots = c.add_components-2.new.all }) e c.args.directives.now.0.items c.args.roots.now first h) c.add_components-2.ensures
