use Rattle.std.proofs.Common.{refl}
use Rattle.std.proofs.lemmas.Result.{on_ok_weaker}
use Rattle.rule_values.specs.Wanting.{variables_of}
use Rattle.strict_documents.specs.Departing.{literal_departures, usage_departures}
use Rattle.strict_documents.specs.Given.{part_of}
use Rattle.strict_documents.specs.DepartureViews.{departures_of}
use Rattle.strict_documents.proofs.Found.{both_told}
use Rattle.strict_documents.proofs.parts.tell_part.Goals as goal

pub returns : goal.returns
returns c =
    let x = part_of c.args.location c.args.value.now in
    let own = literal_departures x in
    let usage = usage_departures (variables_of c.args.variables.now) x in
    on_ok_weaker c.tell_usage.result
    (λ told. both_told (departures_of c.args.departures.now) (departures_of c.tell_literal.new.departures) (departures_of c.tell_usage.new.departures) own usage own usage c.in_ok-tell_literal.ensures told refl refl)
    c.tell_usage.ensures
