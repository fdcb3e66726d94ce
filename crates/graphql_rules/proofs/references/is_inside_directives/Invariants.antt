use Rattle.std.proofs.Common.{◌≡◌, drop, map}
use Rattle.std.specs.List.{list_any}
use Rattle.graphql_names.specs.Placed.{node_tree}
use Rattle.tree_directives.specs.DirectiveTree.{directive_definition_tree}
use Rattle.rule_definitions.specs.Kept.{is_inside_arguments}
use Rattle.graphql_rules.proofs.references.is_inside_directives.Given as goal

abbrev pub invariant-loop-directive : goal.invariant-loop-directive
invariant-loop-directive l = list_any (λ d. is_inside_arguments l.name d.it.arguments) (map (node_tree directive_definition_tree) l.directives) ≡ list_any (λ d. is_inside_arguments l.name d.it.arguments) (map (node_tree directive_definition_tree) (drop l.directive-index l.directives))
