use Rattle.std.proofs.Common.{refl, ap}
use Rattle.std.proofs.lemmas.Result.{on_ok_weaker}
use Rattle.document_typed_selections.specs.TypedTree.{typed_selection_tree}
use Rattle.graphql_schema.specs.SchemaOf.{schema_tree}
use Rattle.graphql_schema.specs.declared.schema.Schema.{Schema}
use Rattle.spec_document.specs.MeantTree.{meant}
use Rattle.rule_values.specs.Wanting.{variables_of}
use Rattle.strict_documents.specs.Departing.{selection_departures}
use Rattle.strict_documents.specs.DepartureViews.{departures_of}
use Rattle.strict_documents.proofs.ToldTogether.{both_told}
use Rattle.strict_documents.proofs.reached.tell_member.Goals as goal

pub returns : goal.returns
returns c =
    on_ok_weaker c.tell_spread.result
    (λ told. both_told (departures_of c.args.departures.now) (departures_of c.tell_selection.new.departures) (departures_of c.tell_spread.new.departures) _ _ _ _ c.in_ok-tell_selection.ensures told
    (ap (λ (s : Schema). selection_departures (schema_tree s) (variables_of c.args.variables.now) c.args.parent.now.text (meant (typed_selection_tree c.args.selection.now))) c.indexed-indexed.ensures)
    refl)
    c.tell_spread.ensures
