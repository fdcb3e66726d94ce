use Rattle.std.proofs.Common.{◌∙◌, List, map, ap}
use Rattle.std.specs.Str.{chars}
use Rattle.rule_definitions.specs.Room.{◌⊕◌}
use Rattle.rule_definitions.proofs.Room.{room_first}
use Rattle.strict_documents.specs.Characters.{character_departures, stretched}
use Rattle.strict_documents.specs.DepartureViews.{departure_tree}
use Rattle.strict_documents.specs.declared.departure.Departure.{Departure}
use Rattle.strict_documents.proofs.characters.source_characters.Goals as goal

pub returns : goal.returns
returns c =
    let own = character_departures c.args.file.0 0 (chars c.args.text.now) in
    c.in_ok-tell_characters.ensures ∙ ap (λ (ds : List Departure). map stretched (map departure_tree ds) ⊕ own) c.new-departures.ensures.items ∙ room_first own
