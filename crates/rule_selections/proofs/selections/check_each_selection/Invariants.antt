use Rattle.std.proofs.Common.{map, take, Contains}
use Rattle.graphql_names.specs.Placed.{Place}
use Rattle.schema_types.specs.Plain.{plain}
use Rattle.graphql_schema.specs.SchemaOf.{schema_tree}
use Rattle.fault_data.specs.Adds.{Adds}
use Rattle.rule_definitions.specs.Words.{AtSomeIndex}
use Rattle.rule_arguments.specs.in_rule_values.Wanting.{variables_of}
use Rattle.document_typing.specs.Meanings.{meanings}
use Rattle.document_typing.specs.TypedByPlace.{IsTyped}
use Rattle.rule_reach.specs.Reach.{Member, member_of, reached_members}
use Rattle.rule_selections.specs.SelectionFaults.{SelectionBreaks}
use Rattle.rule_selections.proofs.selections.check_each_selection.Given as goal

abbrev pub invariant-loop-parent : goal.invariant-loop-parent
invariant-loop-parent l = ((e : Member Place) → Contains (reached_members l.reach) e → IsTyped (meanings (plain (schema_tree l.schema))) e.0 e.1)
    → Adds l.fn.faults l.faults (λ f. AtSomeIndex (map member_of (take l.parent-index l.parent-items)) (λ i e. SelectionBreaks (schema_tree l.schema) (variables_of l.variables) e f))
