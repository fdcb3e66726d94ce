use Rattle.std.proofs.Common.{◌≡◌, drop, find, bytes_eq}
use Rattle.fault_data.specs.in_rule_definitions.Names.{defined_name}
use Rattle.rule_values.specs.Wanting.{variables_of}
use Rattle.rule_values.proofs.defined.find_listed.Given as goal

abbrev pub invariant-loop-variable : goal.invariant-loop-variable
invariant-loop-variable l = find (λ v. bytes_eq (defined_name v) l.name.text) (variables_of l.definitions) ≡ find (λ v. bytes_eq (defined_name v) l.name.text) (variables_of (drop l.variable-index l.definitions))
