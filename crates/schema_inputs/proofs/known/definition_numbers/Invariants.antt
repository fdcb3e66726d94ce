use Rattle.std.proofs.Common.{take}
use Rattle.tree_directives.specs.DirectiveTree.{input_value_trees}
use Rattle.schema_inputs.specs.Inputs.{input_name}
use Rattle.schema_inputs.specs.Firsts.{AreNumbers}
use Rattle.schema_inputs.proofs.known.definition_numbers.Given as goal

abbrev pub invariant-loop-index : goal.invariant-loop-index
invariant-loop-index l = AreNumbers input_name l.numbers (input_value_trees (take l.index l.definitions))
