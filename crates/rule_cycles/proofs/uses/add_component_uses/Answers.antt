use Rattle.std.proofs.Common.{◌≡◌, ◌++◌, map, take, ap, ◌∙◌, sym, arith}
use Rattle.std.proofs.lemmas.List.{take_all}
use Rattle.std.proofs.lemmas.Simd.{map-map}
use Rattle.graphql_names.specs.Placed.{node_tree}
use Rattle.tree_directives.specs.DirectiveTree.{directive_tree}
use Rattle.schema_components.specs.Given.{component_tree}
use Rattle.graphql_schema.specs.SchemaOf.{schema_tree}
use Rattle.rule_cycles.specs.UseNumbers.{uses_references}
use Rattle.rule_cycles.specs.UseViews.{use_view}
use Rattle.rule_cycles.proofs.uses.add_component_uses.Goals as goal

pub returns : goal.returns
returns c =
    let s = schema_tree c.args.schema.now in
    let i = c.loop-directive.invariant in
    let before = map use_view c.args.references.now.items in
    let whole : take c.loop-directive.directive-index c.deref-directive-items.result.now ≡ c.deref-directive-items.result.now = take_all c.loop-directive.directive-index c.deref-directive-items.result.now (omega arith) in
    i.added
    ∙ ap (λ l. before ++ uses_references s (map (λ x. node_tree directive_tree x.node) l)) (whole ∙ i.items)
    ∙ ap (λ l. before ++ uses_references s l) (sym (map-map (λ g. g.it) (component_tree directive_tree) c.args.directives.now.0.items))
