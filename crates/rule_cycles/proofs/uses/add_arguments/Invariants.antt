use Rattle.std.proofs.Common.{◌≡◌, ◌++◌, map, take}
use Rattle.graphql_names.specs.Placed.{node_tree}
use Rattle.tree_directives.specs.DirectiveTree.{input_value_tree}
use Rattle.graphql_schema.specs.SchemaOf.{schema_tree}
use Rattle.rule_cycles.specs.UseNumbers.{arguments_uses}
use Rattle.rule_cycles.specs.UseViews.{use_view}
use Rattle.rule_cycles.proofs.uses.add_arguments.Given as goal

abbrev pub invariant-loop-argument : goal.invariant-loop-argument
invariant-loop-argument l = map use_view l.references.items ≡ map use_view l.fn.references.items ++ arguments_uses (schema_tree l.schema) (map (node_tree input_value_tree) (take l.argument-index l.arguments))
