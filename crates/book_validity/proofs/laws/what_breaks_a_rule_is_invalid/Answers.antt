use Rattle.book_validity.proofs.RefusedFacts.{unused_variable, conflicting_fields, missing_field}
use Rattle.book_validity.proofs.laws.what_breaks_a_rule_is_invalid.Goals as goal

pub returns-clause-variables : goal.returns-clause-variables
returns-clause-variables c = unused_variable

pub returns-clause-merging : goal.returns-clause-merging
returns-clause-merging c = conflicting_fields

pub returns-clause-schemas : goal.returns-clause-schemas
returns-clause-schemas c = missing_field
