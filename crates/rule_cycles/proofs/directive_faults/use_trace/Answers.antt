use Rattle.std.proofs.Common.{◌++◌, map, reverse, length, ◌≤◌, sym, ap, ◌∙◌, arith}
use Rattle.std.proofs.lemmas.List.{append-nil, drop_all}
use Rattle.graphql_names.specs.Placed.{node_tree}
use Rattle.tree_directives.specs.DirectiveTree.{directive_tree}
use Rattle.rule_cycles.specs.Labels.{along}
use Rattle.rule_cycles.specs.UseViews.{use_between}
use Rattle.rule_cycles.specs.DirectiveFaults.{directives_of}
use Rattle.rule_cycles.proofs.InputsTold.{map-reverse}
use Rattle.rule_cycles.proofs.directive_faults.use_trace.Goals as goal

pub returns : goal.returns
returns c =
    let past : length c.args.path.now ≤ c.loop-to.to-index = omega arith in
    let rest = drop_all c.loop-to.to-index c.args.path.now past in
    let whole =
    sym (append-nil (map (node_tree directive_tree) c.loop-to.trace.items))
    ∙ ap (λ l. map (node_tree directive_tree) c.loop-to.trace.items ++ directives_of (along (use_between c.args.references.now) c.loop-to.from l)) (sym rest)
    ∙ c.loop-to.invariant in
    ap (map (node_tree directive_tree)) c.reverse.ensures.items ∙ map-reverse (node_tree directive_tree) c.loop-to.trace.items ∙ ap reverse whole
