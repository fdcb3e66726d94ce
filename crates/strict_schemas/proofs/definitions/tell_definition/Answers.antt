use Rattle.std.proofs.Common.{◌++◌, flat_map, ap, ◌∙◌}
use Rattle.std.proofs.lemmas.Result.{on_ok_weaker}
use Rattle.graphql_names.specs.Placed.{node_tree}
use Rattle.tree_directives.specs.DirectiveTree.{directives_tree, directive_definition_tree}
use Rattle.tree_directives.specs.declared.directive.DirectiveDefinition.{DirectiveDefinition}
use Rattle.graphql_schema.specs.SchemaOf.{schema_tree}
use Rattle.rule_definitions.specs.Room.{◌⊕◌}
use Rattle.strict_documents.specs.DepartureViews.{departures_of}
use Rattle.strict_schemas.specs.Departing.{own_departures, applied_departure, applied_departures, inputs_departures}
use Rattle.strict_schemas.specs.Told.{inputs_of_nodes}
use Rattle.strict_schemas.proofs.Found.{next}
use Rattle.strict_schemas.proofs.definitions.tell_definition.Goals as goal

pub returns : goal.returns
returns c =
    let s = schema_tree c.args.schema.now in
    let d = node_tree directive_definition_tree c.args.definition.now in
    let a = departures_of c.args.departures.now in
    let b = departures_of c.tell_own.new.departures in
    let e = departures_of c.tell_applied.new.departures in
    let f = departures_of c.tell_inputs.new.departures in
    let inputs = inputs_departures s d.it.arguments in
    on_ok_weaker c.tell_inputs.result
    (λ told.
    next a b f (own_departures d) (applied_departures d ++ inputs) c.in_ok-tell_own.ensures
    (next b e f (applied_departures d) inputs
    (c.in_ok-tell_applied.ensures ∙ ap (λ (x : DirectiveDefinition). b ⊕ flat_map applied_departure (directives_tree x.directives)) c.content-own.ensures)
    (told ∙ ap (λ l. e ⊕ inputs_of_nodes s l) (c.as_slice.ensures.value ∙ ap (λ (x : DirectiveDefinition). x.arguments.items) c.content-own.ensures))))
    c.tell_inputs.ensures
