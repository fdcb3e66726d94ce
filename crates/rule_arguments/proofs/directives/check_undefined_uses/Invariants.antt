use Rattle.std.proofs.Common.{take}
use Rattle.tree_directives.specs.declared.directive_location.DirectiveLocation.{DirectiveLocation}
use Rattle.rule_values.specs.in_schema.in_schema_types.Addresses.{place_at}
use Rattle.rule_values.specs.in_rule_definitions.Words.{AtSomeIndex}
use Rattle.rule_values.specs.in_rule_definitions.Judged.{judged}
use Rattle.rule_values.specs.in_rule_definitions.Uses.{UseBreaks}
use Rattle.rule_values.specs.in_fault_data.Adds.{Adds}
use Rattle.rule_values.specs.Wanting.{variables_of}
use Rattle.rule_arguments.specs.Trees.{directives_of, no_schema_tree}
use Rattle.rule_arguments.proofs.directives.check_undefined_uses.Given as goal

abbrev pub invariant-loop-directive : goal.invariant-loop-directive
invariant-loop-directive l = (location : DirectiveLocation) → Adds l.fn.faults l.faults (λ f. AtSomeIndex (directives_of (take l.directive-index l.directives)) (λ i d. UseBreaks (place_at no_schema_tree) (judged no_schema_tree) (variables_of l.variables) location d f))
