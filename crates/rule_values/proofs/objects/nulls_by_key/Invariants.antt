use Rattle.std.proofs.Common.{take}
use Rattle.rule_values.specs.Wanting.{nulls_of}
use Rattle.schema_inputs.specs.Firsts.{AreFirsts}
use Rattle.rule_values.proofs.objects.nulls_by_key.Given as goal

abbrev pub invariant-loop-entry : goal.invariant-loop-entry
invariant-loop-entry l = AreFirsts (λ e. e.0) (λ i e. e.1) l.nulls (nulls_of (take l.entry-index l.entries))
