use Rattle.rule_document_definitions.specs.ReadFields.{ReadSet}
use Rattle.rule_reach.specs.Passed.{sets_read, map_read, IsLed}
use Rattle.rule_reach.proofs.lone_keys.KeyWalk.pass_levels.Given as goal

abbrev pub invariant-loop : goal.invariant-loop
invariant-loop l = (s : ReadSet) → IsLed (map_read l.fragments) s (sets_read l.fn.level.items) → IsLed (map_read l.fragments) s (sets_read l.level.items)
