use Rattle.std.proofs.Common.{[], ◌∷◌, ◌++◌, sym, ap, subst, ◌∙◌}
use Rattle.std.proofs.lemmas.List.{map-append}
use Rattle.graphql_names.specs.Placed.{Place, node_tree}
use Rattle.tree_directives.specs.DirectiveTree.{Directives, directive_tree}
use Rattle.rule_arguments.specs.Trees.{directives_of}
use Rattle.graphql_rules.specs.Given.{Each, LeadsToDirective}
use Rattle.graphql_rules.proofs.GivenFacts.{each_more, same_node}
use Rattle.graphql_rules.proofs.given.nodes_of.Goals as goal

pub loop-directive-preserved : goal.loop-directive-preserved
loop-directive-preserved g c =
    let copy = c.in_ok-clone.field-0 in
    let old = c.loop-directive.nodes.items in
    subst (λ (ds : Directives Place). Each (LeadsToDirective g.D.Deref.deref_gives) (c.loop-directive.yielded ++ c.in-Some.directive ∷ []) ds)
    (sym (ap directives_of c.in_ok-push.ensures.items ∙ map-append (node_tree directive_tree) old (copy ∷ [])))
    (each_more (LeadsToDirective g.D.Deref.deref_gives) c.loop-directive.yielded (directives_of old) c.in-Some.directive (node_tree directive_tree copy) c.loop-directive.invariant
    (c.deref.result.now, (c.deref.ensures, sym (same_node copy c.deref.result.now c.in_ok-clone.ensures.cases.0 c.in_ok-clone.ensures.cases.1))))
