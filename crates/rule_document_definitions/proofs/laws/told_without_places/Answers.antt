use Rattle.rule_document_definitions.proofs.Verdicts.{rules_without_places, merging_without_places, set_rules_without_places, rules_alone_without_places, bounds_without_places, set_bounds_without_places}
use Rattle.rule_document_definitions.proofs.laws.told_without_places.Goals as goal

pub returns-clause-rules : goal.returns-clause-rules
returns-clause-rules c = rules_without_places

pub returns-clause-merging : goal.returns-clause-merging
returns-clause-merging c = merging_without_places

pub returns-clause-field_sets : goal.returns-clause-field_sets
returns-clause-field_sets c = set_rules_without_places

pub returns-clause-alone : goal.returns-clause-alone
returns-clause-alone c = rules_alone_without_places

pub returns-clause-bounds : goal.returns-clause-bounds
returns-clause-bounds c = bounds_without_places

pub returns-clause-field_set_bounds : goal.returns-clause-field_set_bounds
returns-clause-field_set_bounds c = set_bounds_without_places
