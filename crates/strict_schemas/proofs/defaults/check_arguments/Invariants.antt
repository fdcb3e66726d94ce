use Rattle.std.proofs.Common.{take}
use Rattle.tree_directives.specs.DirectiveTree.{input_value_trees}
use Rattle.graphql_schema.specs.SchemaOf.{schema_tree}
use Rattle.fault_data.specs.Adds.{Adds}
use Rattle.strict_schemas.specs.FaultsIn.{DefaultsIn}
use Rattle.strict_schemas.proofs.defaults.check_arguments.Given as goal

abbrev pub invariant-loop-argument : goal.invariant-loop-argument
invariant-loop-argument l = Adds l.fn.faults l.faults (DefaultsIn (schema_tree l.schema) (input_value_trees (take l.argument-index l.arguments)))
