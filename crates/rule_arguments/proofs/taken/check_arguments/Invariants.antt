use Rattle.std.proofs.Common.{take}
use Rattle.tree_directives.specs.DirectiveTree.{input_value_trees}
use Rattle.rule_values.specs.in_schema.SchemaOf.{schema_tree}
use Rattle.rule_values.specs.in_rule_definitions.Words.{AtSomeIndex}
use Rattle.rule_values.specs.in_fault_data.Adds.{Adds}
use Rattle.rule_values.specs.Wanting.{variables_of}
use Rattle.rule_arguments.specs.Trees.{arguments_of}
use Rattle.rule_arguments.specs.GivenArguments.{FirstGivenBreaks}
use Rattle.rule_arguments.proofs.taken.check_arguments.Given as goal

abbrev pub invariant-loop-index : goal.invariant-loop-index
invariant-loop-index l = Adds l.fn.faults l.faults (λ f. AtSomeIndex (arguments_of (take l.index l.taker.given.now)) (λ j a. FirstGivenBreaks (schema_tree l.judging.schema.now) (variables_of l.judging.variables.now) (input_value_trees l.taker.definitions.now) (take j (arguments_of l.taker.given.now)) a f))
