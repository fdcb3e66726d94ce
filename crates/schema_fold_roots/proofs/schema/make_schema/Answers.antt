use Rattle.std.proofs.Common.{map, ap, ◌∙◌}
use Rattle.std.specs.Option.{option_map}
use Rattle.graphql_names.specs.Placed.{text_tree}
use Rattle.tree_directives.specs.DirectiveTree.{directive_tree}
use Rattle.schema_components.specs.Given.{component_tree}
use Rattle.schema_fold_roots.specs.RootFold.{first_roots}
use Rattle.schema_fold_roots.specs.RootsView.{roots_given_by, schema_made}
use Rattle.schema_fold_roots.proofs.schema.make_schema.Goals as goal

pub returns-clause-made : goal.returns-clause-made
returns-clause-made c =
    let roots = c.in_ok-roots.ensures.kept ∙ ap (λ rs. first_roots (roots_given_by rs)) c.deref.ensures.value in
    (λ i. schema_made (c.in_ok-node_at.ensures.place i) (c.in_ok-node_at.ensures.content i))
    ∙ (λ i. record {
      place = c.args.location;
      description = option_map text_tree c.args.description;
      directives = map (component_tree directive_tree) (c.replace.ensures.value i).items;
      query = (roots i).query;
      mutation = (roots i).mutation;
      subscription = (roots i).subscription;
    })
