use Rattle.std.proofs.Common.{◌≡◌, take}
use Rattle.tree_directives.specs.DirectiveTree.{input_value_trees}
use Rattle.schema_inputs.specs.Inputs.{required_inputs}
use Rattle.schema_inputs.proofs.known.required_of.Given as goal

abbrev pub invariant-loop-definition : goal.invariant-loop-definition
invariant-loop-definition l = input_value_trees l.required.items ≡ required_inputs (input_value_trees (take l.definition-index l.definitions))
