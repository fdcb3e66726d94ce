use Rattle.std.proofs.Common.{◌∙◌, ap, subst}
use Rattle.std.proofs.lemmas.Result.{on_ok_weaker}
use Rattle.graphql_schema.specs.SchemaOf.{schema_tree}
use Rattle.graphql_schema.specs.declared.schema.Schema.{Schema}
use Rattle.document_typed_operations.specs.DocumentView.{document_meant, operation_meant}
use Rattle.document_typed_operations.specs.declared.operation.Operation.{Operation}
use Rattle.rule_definitions.specs.Room.{◌⊕◌}
use Rattle.rule_values.specs.Wanting.{variables_of}
use Rattle.strict_documents.specs.DepartureViews.{departures_of}
use Rattle.strict_documents.specs.DepartsIn.{DepartsAtRoot}
use Rattle.strict_documents.specs.Telling.{AddsDepartures, variables_departures}
use Rattle.strict_documents.proofs.Gathered.{operation_told}
use Rattle.strict_documents.proofs.operation.tell_operation.Goals as goal

pub returns : goal.returns
returns c =
    let t = schema_tree c.args.schema.now in
    let d = document_meant c.args.document.now in
    let o = operation_meant c.args.operation.now in
    let old = departures_of c.args.departures.now in
    let one = c.tell_variables.new.departures in
    let two = c.tell_reached.new.departures in
    let new = c.tell_roots.new.departures in
    let vs = ap variables_of c.as_slice-variables.ensures.value ∙ ap (λ (x : Operation). variables_of x.variables.items) c.content.ensures in
    on_ok_weaker c.tell_roots.result
    (λ roots. operation_told t d o old (departures_of one) (departures_of two) (departures_of new)
    (c.in_ok-tell_variables.ensures ∙ (λ i. old ⊕ variables_departures (schema_tree (c.indexed-indexed.ensures i)) (vs i)))
    c.in_ok-tell_reached.ensures
    (subst (λ (s : Schema). AddsDepartures two new (λ u. DepartsAtRoot (schema_tree s) d u o)) c.schema-plain.ensures roots))
    c.tell_roots.ensures
