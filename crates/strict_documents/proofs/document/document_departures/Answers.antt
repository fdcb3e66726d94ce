use Rattle.std.proofs.Common.{◌∙◌, List, map, ap}
use Rattle.rule_definitions.specs.Room.{◌⊕◌}
use Rattle.rule_definitions.proofs.Room.{room_first}
use Rattle.strict_documents.specs.DepartureViews.{departure_tree}
use Rattle.strict_documents.specs.declared.departure.Departure.{Departure as Rust}
use Rattle.strict_documents.proofs.document.document_departures.Goals as goal

pub returns : goal.returns
returns c =
    let told = c.in_ok-tell_operations.ensures in
    (told.0, (told.1.0 ∙ ap (λ (l : List Rust). map departure_tree l ⊕ told.0) c.new-departures.ensures.items ∙ room_first told.0, told.1.1))
