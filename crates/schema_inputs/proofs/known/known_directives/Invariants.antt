use Rattle.std.proofs.Common.{◌≡◌, ℕ, List, map, length}
use Rattle.graphql_names.specs.NameValue.{NameValue}
use Rattle.graphql_names.specs.Placed.{Placed, Place, node_tree}
use Rattle.graphql_names.specs.declared.node.Node.{Node}
use Rattle.tree_directives.specs.declared.directive.DirectiveDefinition.{DirectiveDefinition}
use Rattle.tree_directives.specs.DirectiveTree.{InputValues, DirectiveDefinitionTree, input_value_trees, directive_definition_tree}
use Rattle.schema_types.specs.TypeView.{name_text}
use Rattle.schema_inputs.specs.Inputs.{AreEach, AreKnownIfMany}
use Rattle.schema_inputs.proofs.known.known_directives.Given as goal

abbrev pub invariant-loop-definition : goal.invariant-loop-definition
invariant-loop-definition l = record {
  each : AreEach (λ (e : List ℕ × Placed Place (DirectiveDefinitionTree Place)) kept. AreKnownIfMany e.1.it.arguments kept) (map (λ (e : NameValue × Node DirectiveDefinition). (name_text e.0, node_tree directive_definition_tree e.1)) (map (λ e. (e.0.now, e.1.now)) l.yielded)) l.known.items;
  long : length l.known.items ≡ length l.yielded;
}
