use Rattle.std.proofs.Common.{◌≡◌, ◌++◌, map, take}
use Rattle.graphql_names.specs.Placed.{node_tree}
use Rattle.tree_directives.specs.DirectiveTree.{directive_tree}
use Rattle.graphql_schema.specs.SchemaOf.{schema_tree}
use Rattle.rule_cycles.specs.UseNumbers.{uses_references}
use Rattle.rule_cycles.specs.UseViews.{use_view}
use Rattle.rule_cycles.proofs.uses.add_uses.Given as goal

abbrev pub invariant-loop-directive : goal.invariant-loop-directive
invariant-loop-directive l = record {
  items : l.directive-items ≡ l.directives.0.items;
  added : map use_view l.references.items ≡ map use_view l.fn.references.items ++ uses_references (schema_tree l.schema) (map (node_tree directive_tree) (take l.directive-index l.directive-items));
}
