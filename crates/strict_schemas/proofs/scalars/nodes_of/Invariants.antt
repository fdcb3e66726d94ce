use Rattle.std.proofs.Common.{◌≡◌, map, take}
use Rattle.tree_directives.specs.DirectiveTree.{directive_tree}
use Rattle.schema_components.specs.Given.{component_tree}
use Rattle.rule_arguments.specs.Trees.{directives_of}
use Rattle.strict_schemas.proofs.scalars.nodes_of.Given as goal

abbrev pub invariant-loop-directive : goal.invariant-loop-directive
invariant-loop-directive l = directives_of l.nodes.items ≡ map (λ g. g.it) (map (component_tree directive_tree) (take l.directive-index l.list.0.items))
