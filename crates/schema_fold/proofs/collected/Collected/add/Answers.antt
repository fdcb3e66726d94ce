use Rattle.std.proofs.Common.{◌++◌, map, ap, ◌∙◌}
use Rattle.std.proofs.lemmas.Result.{IfOk-weaker}
use Rattle.graphql_names.specs.Placed.{node_tree}
use Rattle.schema_types.specs.in_components.Given.{origin_tree}
use Rattle.schema_fold.specs.Components.{all_given}
use Rattle.schema_fold.specs.PartsView.{itself, given_contents}
use Rattle.schema_fold.proofs.Collecting.{all_added}
use Rattle.schema_fold.proofs.collected.Collected.add.Goals as goal

pub returns : goal.returns
returns c =
    let old = c.args.self.now in
    let e = origin_tree c.args.origin in
    let p = c.args.parts.now in
    let first = c.in_ok-add_components.ensures ∙ ap (λ ns. given_contents old.directives.items ++ all_given e (map (node_tree itself) ns)) c.deref.ensures.value in
    IfOk-weaker _ _ _ (λ _ h. all_added old (record {
      directives = c.add_components.new.all;
      interfaces = c.add_names.new.all;
      fields = c.add_components-2.new.all;
      members = c.add_names-2.new.all;
      values = c.add_components-3.new.all;
      inputs = c.add_components-4.new.all;
    }) e p first c.in_ok-add_names.ensures c.in_ok-add_components-2.ensures c.in_ok-add_names-2.ensures c.in_ok-add_components-3.ensures h) c.add_components-4.ensures
