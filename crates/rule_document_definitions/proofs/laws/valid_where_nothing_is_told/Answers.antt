use Rattle.rule_document_definitions.proofs.Verdicts.{valid_where_nothing_is_told, merges_where_nothing_is_told, set_valid_where_nothing_is_told, valid_alone_where_nothing_is_told, within_bounds_where_nothing_is_told, set_within_bounds_where_nothing_is_told}
use Rattle.rule_document_definitions.proofs.laws.valid_where_nothing_is_told.Goals as goal

pub returns-clause-documents : goal.returns-clause-documents
returns-clause-documents c = valid_where_nothing_is_told

pub returns-clause-merging : goal.returns-clause-merging
returns-clause-merging c = merges_where_nothing_is_told

pub returns-clause-field_sets : goal.returns-clause-field_sets
returns-clause-field_sets c = set_valid_where_nothing_is_told

pub returns-clause-alone : goal.returns-clause-alone
returns-clause-alone c = valid_alone_where_nothing_is_told

pub returns-clause-bounds : goal.returns-clause-bounds
returns-clause-bounds c = within_bounds_where_nothing_is_told

pub returns-clause-field_set_bounds : goal.returns-clause-field_set_bounds
returns-clause-field_set_bounds c = set_within_bounds_where_nothing_is_told
