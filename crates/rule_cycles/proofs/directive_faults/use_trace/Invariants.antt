use Rattle.std.proofs.Common.{◌≡◌, ◌++◌, map, drop}
use Rattle.graphql_names.specs.Placed.{node_tree}
use Rattle.tree_directives.specs.DirectiveTree.{directive_tree}
use Rattle.rule_cycles.specs.Labels.{along}
use Rattle.rule_cycles.specs.UseViews.{use_between}
use Rattle.rule_cycles.specs.DirectiveFaults.{directives_of}
use Rattle.rule_cycles.proofs.directive_faults.use_trace.Given as goal

abbrev pub invariant-loop-to : goal.invariant-loop-to
invariant-loop-to l = map (node_tree directive_tree) l.trace.items ++ directives_of (along (use_between l.references) l.from (drop l.to-index l.path)) ≡ directives_of (along (use_between l.references) l.root l.path)
