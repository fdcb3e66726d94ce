use Rattle.std.proofs.Common.{take}
use Rattle.tree_directives.specs.DirectiveTree.{input_value_trees}
use Rattle.rule_values.specs.in_schema.SchemaOf.{schema_tree}
use Rattle.rule_values.specs.in_fault_data.Adds.{Adds}
use Rattle.rule_arguments.specs.SchemaUses.{ArgumentUses}
use Rattle.rule_arguments.proofs.schema_uses.check_arguments.Given as goal

abbrev pub invariant-loop-definition : goal.invariant-loop-definition
invariant-loop-definition l = Adds l.fn.faults l.faults (ArgumentUses (schema_tree l.schema) (input_value_trees (take l.definition-index l.definitions)))
