use Rattle.book_validity.proofs.DocumentFacts.{rules_hold}
use Rattle.book_validity.proofs.FieldSetFacts.{set_rules_hold}
use Rattle.book_validity.proofs.StandaloneFacts.{rules_hold_alone}
use Rattle.book_validity.proofs.laws.rules_hold_by_the_book.Goals as goal

pub returns-clause-documents : goal.returns-clause-documents
returns-clause-documents c = rules_hold

pub returns-clause-field_sets : goal.returns-clause-field_sets
returns-clause-field_sets c = set_rules_hold

pub returns-clause-alone : goal.returns-clause-alone
returns-clause-alone c = rules_hold_alone
