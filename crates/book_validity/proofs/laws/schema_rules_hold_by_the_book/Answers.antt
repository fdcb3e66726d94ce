use Rattle.book_validity.proofs.SchemaFacts.{schema_rules_hold}
use Rattle.book_validity.proofs.laws.schema_rules_hold_by_the_book.Goals as goal

pub returns : goal.returns
returns c = schema_rules_hold
