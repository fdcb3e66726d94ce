use Rattle.std.proofs.Common.{◌≡◌, [], inl, inr, sym, ap, subst, ◌∙◌, Contains}
use Rattle.rule_definitions.proofs.Lists.{not_in_nil}
use Rattle.rule_definitions.specs.Room.{◌⊕◌}
use Rattle.rule_definitions.specs.PlacedFaults.{PlacedFault}
use Rattle.rule_definitions.proofs.Room.{room_first, room_silent}
use Rattle.strict_schemas.specs.Departing.{departures_of_schema}
use Rattle.strict_schemas.specs.Faults.{StrictBreaks}
use Rattle.strict_schemas.proofs.Silent.{no_extended, no_extra, no_own, no_applied, no_deprecated, no_literals}
use Rattle.strict_schemas.proofs.laws.no_departure_means_the_letter.Goals as goal

pub returns : goal.returns
returns c = λ s told before after is adds none old new.
    let silent : departures_of_schema s ≡ [] = room_silent (departures_of_schema s) (room_first (departures_of_schema s) ∙ sym is ∙ none) in
    let added : adds.0 ≡ [] = room_silent adds.0 (sym (ap (λ l. l ⊕ adds.0) old) ∙ sym adds.1.0 ∙ new) in
    let never : (f : PlacedFault) → StrictBreaks s f → ⊥ = λ f h. not_in_nil f (subst (λ l. Contains l f) added ((adds.1.1 f).1 h)) in
    record {
      defaults = λ f q. never f (inl q);
      scalars = λ f q. never f (inr q);
      deprecated = no_deprecated s silent;
      literals = no_literals s silent;
      own = no_own s silent;
      applied = no_applied s silent;
      extended = no_extended s silent;
      extra = no_extra s silent;
    }
