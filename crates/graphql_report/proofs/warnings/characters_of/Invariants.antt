use Rattle.std.proofs.Common.{◌≡◌, [], take}
use Rattle.fault_data.specs.in_rule_definitions.Room.{◌⊕◌}
use Rattle.strict_documents.specs.Characters.{stretches_of}
use Rattle.graphql_report.specs.Warnings.{texts_departures}
use Rattle.graphql_report.proofs.warnings.characters_of.Given as goal

abbrev pub invariant-loop-index : goal.invariant-loop-index
invariant-loop-index l = stretches_of l.characters ≡ [] ⊕ texts_departures 1 (take l.index l.sources)
