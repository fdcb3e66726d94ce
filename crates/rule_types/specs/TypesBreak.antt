-- Private: leads to `ReferencesBreak` and `EmptyBreaks`. The rules of this crate together.
use Rattle.std.specs.Prelude.{◌⊎◌}
use Rattle.fault_data.specs.in_rule_definitions.Faults.{SchemaFault}
use Rattle.fault_data.specs.in_rule_definitions.Judged.{Judged}
use Rattle.fault_data.specs.in_rule_definitions.Rules.{ReferencesBreak, EmptyBreaks}

-- a rule on roots, names or the types that are referred to, or a rule against empty types,
-- is broken, with this fault
abbrev pub TypesBreak : Judged → SchemaFault → Type 0
TypesBreak s fault = ReferencesBreak s fault ⊎ EmptyBreaks s fault
