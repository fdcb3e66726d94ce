use Rattle.std.proofs.Common.{[], ◌∷◌, None, map, sym, ◌∙◌}
use Rattle.graphql_names.specs.Placed.{node_tree}
use Rattle.tree_directives.specs.DirectiveTree.{directives_tree}
use Rattle.schema_fold.specs.in_definitions.DefinitionTree.{root_tree, schema_parts}
use Rattle.schema_fold_roots.specs.ListFold.{Parts}
use Rattle.schema_fold_roots.specs.RootFold.{all_and}
use Rattle.schema_fold_roots.proofs.Gathering.{all_push}
use Rattle.schema_fold_roots.proofs.schema.collect_defined.Goals as goal

pub returns : goal.returns
returns c =
    let defined = c.args.defined.now in
    let g : Parts = record { extension = None; it = schema_parts defined } in
    c.in_ok-add_extensions.ensures (g ∷ []) (
    c.in_ok-add.ensures
    ∙ (λ i. all_and (c.new-all.ensures i) (record { extension = None; it = record { directives = directives_tree defined.directives; roots = map (node_tree root_tree) (c.deref.ensures.value i) } }))
    ∙ sym (all_push [] g)
    )
