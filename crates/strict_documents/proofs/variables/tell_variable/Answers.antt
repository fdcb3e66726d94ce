use Rattle.std.proofs.Common.{[], refl}
use Rattle.std.proofs.lemmas.Result.{on_ok_weaker}
use Rattle.tree_directives.specs.DirectiveTree.{directives_tree}
use Rattle.tree_operations.specs.OperationTree.{variable_definition_tree}
use Rattle.graphql_schema.specs.SchemaOf.{schema_tree}
use Rattle.rule_values.specs.Wanting.{variables_of}
use Rattle.strict_documents.specs.Departing.{directives_departures}
use Rattle.strict_documents.specs.DepartureViews.{departures_of}
use Rattle.strict_documents.specs.DepartsIn.{default_departures}
use Rattle.strict_documents.specs.Telling.{applied_directives}
use Rattle.strict_documents.proofs.ToldTogether.{both_told}
use Rattle.strict_documents.proofs.variables.tell_variable.Goals as goal

pub returns : goal.returns
returns c =
    let t = schema_tree c.args.schema.now in
    let v = c.args.variable.now in
    let by_default = default_departures t (variable_definition_tree v) in
    on_ok_weaker c.tell_directives.result
    (λ told. both_told (departures_of c.args.departures.now) (departures_of c.tell_default.new.departures) (departures_of c.tell_directives.new.departures)
    by_default (directives_departures t (variables_of c.listed-variables.result) (applied_directives c.as_slice.result.now)) by_default (directives_departures t [] (directives_tree v.directives)) c.in_ok-tell_default.ensures told
    refl (λ i. directives_departures t (variables_of (c.listed-variables.ensures i)) (applied_directives (c.as_slice.ensures.value i))))
    c.tell_directives.ensures
