use Rattle.std.proofs.Common.{◌∙◌, ap, subst}
use Rattle.std.proofs.lemmas.Result.{on_ok_weaker}
use Rattle.graphql_schema.specs.SchemaOf.{schema_tree}
use Rattle.tree_directives.specs.DirectiveTree.{directives_tree}
use Rattle.document_typed_selections.specs.TypedTree.{typed_set_tree}
use Rattle.document_typed_operations.specs.DocumentView.{document_meant, operation_meant}
use Rattle.document_typed_operations.specs.declared.operation.Operation.{Operation}
use Rattle.rule_definitions.specs.Room.{◌⊕◌}
use Rattle.rule_definitions.proofs.Adding.{gains_list}
use Rattle.rule_reach.specs.Reach.{meant_fragments, reached_members, reached_fragments_of}
use Rattle.rule_reach.proofs.OfDocuments.{ReachesFrom, operation_reaches}
use Rattle.rule_values.specs.Wanting.{variables_of}
use Rattle.strict_documents.specs.DepartureViews.{departures_of}
use Rattle.strict_documents.specs.Telling.{applied_directives, reached_departures}
use Rattle.strict_documents.proofs.Gathered.{reached_told}
use Rattle.strict_documents.proofs.reached.tell_reached.Goals as goal

pub returns : goal.returns
returns c =
    let t = schema_tree c.args.schema.now in
    let document = c.args.document.now in
    let d = document_meant document in
    let o = operation_meant c.args.operation.now in
    let r = c.in_ok-reach.reach in
    let is = c.content-own.ensures in
    let fragments = meant_fragments document.fragments in
    let members = reached_members r in
    let spread = reached_fragments_of r in
    let reaches = operation_reaches document c.args.operation.now r (subst (λ (x : Operation). ReachesFrom (typed_set_tree x.selection_set) document.fragments r) is c.in_ok-reach.ensures) in
    let vs = ap variables_of (c.in_ok-variables.ensures ∙ c.as_slice.ensures.value) ∙ ap (λ (x : Operation). variables_of x.variables.items) is in
    let ds = ap applied_directives c.as_slice-directives.ensures.value ∙ ap (λ (x : Operation). directives_tree x.directives) is in
    let old = departures_of c.args.departures.now in
    let new = departures_of c.tell_all.new.departures in
    on_ok_weaker c.tell_all.result
    (λ told. gains_list old new (reached_departures t o.variables d.fragments o.directives members spread)
    (told ∙ (λ i. old ⊕ reached_departures t (vs i) fragments (ds i) members spread))
    (reached_told t d o members spread reaches))
    c.tell_all.ensures
