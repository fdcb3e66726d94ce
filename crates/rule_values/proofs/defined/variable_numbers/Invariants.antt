use Rattle.std.proofs.Common.{take}
use Rattle.fault_data.specs.in_rule_definitions.Names.{defined_name}
use Rattle.schema_inputs.specs.Firsts.{AreNumbers}
use Rattle.rule_values.specs.Wanting.{variables_of}
use Rattle.rule_values.proofs.defined.variable_numbers.Given as goal

abbrev pub invariant-loop-index : goal.invariant-loop-index
invariant-loop-index l = AreNumbers defined_name l.numbers (variables_of (take l.index l.definitions))
