use Rattle.std.proofs.Common.{◌++◌, refl, ap}
use Rattle.std.proofs.lemmas.Result.{on_ok_weaker}
use Rattle.graphql_schema.specs.SchemaOf.{schema_tree}
use Rattle.graphql_schema.specs.declared.schema.Schema.{Schema}
use Rattle.rule_reach.specs.Reach.{meant_fragments, reached_members, reached_fragments_of}
use Rattle.rule_values.specs.Wanting.{variables_of}
use Rattle.strict_documents.specs.Departing.{directives_departures}
use Rattle.strict_documents.specs.DepartureViews.{departures_of}
use Rattle.strict_documents.specs.Telling.{applied_directives, members_departures, fragments_departures}
use Rattle.strict_documents.proofs.ToldTogether.{both_told}
use Rattle.strict_documents.proofs.reached.tell_all.Goals as goal

pub returns : goal.returns
returns c =
    let t = schema_tree c.args.schema.now in
    let indexed = schema_tree c.indexed-indexed.result in
    let vs = variables_of c.args.variables.now in
    let ds = applied_directives c.args.directives.now in
    let fs = reached_fragments_of c.args.reach.now in
    let of_members = members_departures t vs (meant_fragments c.args.fragments.now) (reached_members c.args.reach.now) in
    let after = of_members ++ fragments_departures t vs fs in
    let one = departures_of c.tell_directives.new.departures in
    let two = departures_of c.tell_members.new.departures in
    let new = departures_of c.tell_fragments.new.departures in
    on_ok_weaker c.tell_fragments.result
    (λ told. both_told (departures_of c.args.departures.now) one new (directives_departures indexed vs ds) after (directives_departures t vs ds) after c.in_ok-tell_directives.ensures
    (both_told one two new of_members (fragments_departures indexed vs fs) of_members (fragments_departures t vs fs) c.in_ok-tell_members.ensures told refl
    (ap (λ (s : Schema). fragments_departures (schema_tree s) vs fs) c.indexed-indexed.ensures))
    (ap (λ (s : Schema). directives_departures (schema_tree s) vs ds) c.indexed-indexed.ensures)
    refl)
    c.tell_fragments.ensures
