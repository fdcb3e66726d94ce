use Rattle.std.proofs.Common.{map, take}
use Rattle.tree_directives.specs.declared.directive_location.DirectiveLocation.TheVariants as location
use Rattle.schema_types.specs.Addresses.{place_at}
use Rattle.graphql_schema.specs.SchemaOf.{schema_tree}
use Rattle.fault_data.specs.Adds.{Adds}
use Rattle.rule_definitions.specs.Words.{AtSomeIndex}
use Rattle.rule_definitions.specs.Judged.{judged}
use Rattle.rule_definitions.specs.Uses.{UsesBreak}
use Rattle.rule_arguments.specs.in_rule_values.Wanting.{variables_of}
use Rattle.rule_reach.specs.Reach.{fragment_of}
use Rattle.rule_selections.proofs.selections.check_fragments.Given as goal

abbrev pub invariant-loop-index : goal.invariant-loop-index
invariant-loop-index l = Adds l.fn.faults l.faults (λ f. AtSomeIndex (map fragment_of (take l.index l.reach.fragments.items)) (λ i x. UsesBreak (place_at (schema_tree l.schema)) (judged (schema_tree l.schema)) (variables_of l.variables) location.FragmentDefinition x.directives f))
