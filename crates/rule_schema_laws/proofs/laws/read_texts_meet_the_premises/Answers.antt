use Rattle.rule_schema_laws.proofs.ReadTexts.{five_alone, no_keyword}
use Rattle.rule_schema_laws.proofs.laws.read_texts_meet_the_premises.Goals as goal

pub returns-clause-five : goal.returns-clause-five
returns-clause-five c = five_alone

pub returns-clause-keywords : goal.returns-clause-keywords
returns-clause-keywords c = no_keyword
