use Rattle.rule_cycles.specs.in_schema.SchemaOf.{schema_tree}
use Rattle.rule_definitions.specs.Judged.{judged}
use Rattle.rule_fragments.specs.Applying.{KnowsWhatApplies}
use Rattle.rule_fragments.proofs.conditions.note_conditions.Given as goal

abbrev pub invariant-loop-fragment : goal.invariant-loop-fragment
invariant-loop-fragment l = KnowsWhatApplies (judged (schema_tree l.schema)) l.possible l.applying
