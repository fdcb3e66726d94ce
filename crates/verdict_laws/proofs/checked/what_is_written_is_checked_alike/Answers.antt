use Rattle.verdict_laws.proofs.CallsAgain.{schema_again, document_again, pair_again, run_again}
use Rattle.verdict_laws.proofs.checked.what_is_written_is_checked_alike.Goals as goal

pub returns-clause-schema : goal.returns-clause-schema
returns-clause-schema c = schema_again

pub returns-clause-document : goal.returns-clause-document
returns-clause-document c = document_again

pub returns-clause-pair : goal.returns-clause-pair
returns-clause-pair c = pair_again

pub returns-clause-run : goal.returns-clause-run
returns-clause-run c = run_again
