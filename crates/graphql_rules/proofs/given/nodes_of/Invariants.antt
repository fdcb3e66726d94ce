use Rattle.rule_arguments.specs.Trees.{directives_of}
use Rattle.graphql_rules.specs.Given.{Each, LeadsToDirective}
use Rattle.graphql_rules.proofs.given.nodes_of.Given as goal

abbrev pub invariant-loop-directive : goal.invariant-loop-directive
invariant-loop-directive g l = Each (LeadsToDirective g.D.Deref.deref_gives) l.yielded (directives_of l.nodes.items)
