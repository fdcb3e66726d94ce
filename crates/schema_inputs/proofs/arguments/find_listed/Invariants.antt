use Rattle.std.proofs.Common.{◌≡◌, drop, find}
use Rattle.tree_directives.specs.DirectiveTree.{input_value_trees}
use Rattle.tree_directives.specs.DirectiveQueries.{input_value_has_name}
use Rattle.schema_inputs.proofs.arguments.find_listed.Given as goal

abbrev pub invariant-loop-definition : goal.invariant-loop-definition
invariant-loop-definition l = find (input_value_has_name l.name.text) (input_value_trees l.definitions) ≡ find (input_value_has_name l.name.text) (input_value_trees (drop l.definition-index l.definitions))
