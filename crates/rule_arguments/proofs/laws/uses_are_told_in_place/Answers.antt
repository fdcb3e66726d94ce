use Rattle.rule_values.specs.in_rule_definitions.Judged.{judged}
use Rattle.rule_values.specs.in_rule_definitions.Rules.{extension_places_at}
use Rattle.rule_arguments.proofs.SpottedUses.{uses_told}
use Rattle.rule_arguments.proofs.SchemaTold.{schema_uses_told}
use Rattle.rule_arguments.proofs.laws.uses_are_told_in_place.Goals as goal

pub returns-clause-one : goal.returns-clause-one
returns-clause-one c = λ s holder location ds same f. uses_told s (judged s) (extension_places_at s) holder location ds same f

pub returns-clause-all : goal.returns-clause-all
returns-clause-all c = λ s distinct f. schema_uses_told s distinct f
