use Rattle.std.proofs.Common.{◌≡◌, ◌++◌, map, drop}
use Rattle.graphql_names.specs.Placed.{node_tree}
use Rattle.tree_directives.specs.DirectiveTree.{input_value_tree}
use Rattle.rule_cycles.specs.Labels.{along}
use Rattle.rule_cycles.specs.ReferenceViews.{field_between}
use Rattle.rule_cycles.proofs.input_faults.input_trace.Given as goal

abbrev pub invariant-loop-to : goal.invariant-loop-to
invariant-loop-to l = map (node_tree input_value_tree) l.trace.items ++ along (field_between l.references) l.from (drop l.to-index l.path) ≡ along (field_between l.references) l.root l.path
