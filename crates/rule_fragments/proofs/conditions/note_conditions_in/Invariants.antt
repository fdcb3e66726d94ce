use Rattle.rule_cycles.specs.in_schema.SchemaOf.{schema_tree}
use Rattle.rule_definitions.specs.Judged.{judged}
use Rattle.rule_fragments.specs.Applying.{KnowsWhatApplies}
use Rattle.rule_fragments.proofs.conditions.note_conditions_in.Given as goal

abbrev pub invariant-loop-member : goal.invariant-loop-member
invariant-loop-member l = KnowsWhatApplies (judged (schema_tree l.schema)) l.possible l.applying
