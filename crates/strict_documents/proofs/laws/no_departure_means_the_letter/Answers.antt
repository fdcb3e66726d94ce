use Rattle.strict_documents.proofs.ToTheLetter.{no_departure}
use Rattle.strict_documents.proofs.laws.no_departure_means_the_letter.Goals as goal

pub returns : goal.returns
returns c = no_departure
