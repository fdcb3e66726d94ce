use Rattle.std.proofs.Common.{[], ◌∙◌, ap}
use Rattle.std.specs.Option.{option_map}
use Rattle.std.proofs.lemmas.Result.{on_ok_weaker}
use Rattle.graphql_names.specs.Node.{content, place}
use Rattle.graphql_names.specs.Placed.{Placed, Place, node_tree}
use Rattle.tree_literals.specs.ValueTree.{ValueTree, value_tree}
use Rattle.tree_directives.specs.DirectiveTree.{input_value_tree, unplaced_input_value}
use Rattle.graphql_schema.specs.SchemaOf.{schema_tree}
use Rattle.rule_definitions.specs.Room.{◌⊕◌}
use Rattle.rule_values.specs.Wanting.{variables_of}
use Rattle.strict_documents.specs.Departing.{value_departures}
use Rattle.strict_documents.specs.Locations.{argument_location}
use Rattle.strict_documents.specs.DepartureViews.{departures_of}
use Rattle.strict_schemas.proofs.Found.{nothing_told, found_told}
use Rattle.strict_schemas.proofs.inputs.tell_default.Goals as goal

pub returns-in-None : goal.returns-in-None
returns-in-None c =
    let s = schema_tree c.args.schema.now in
    let v = c.args.input.now in
    let l = argument_location (unplaced_input_value (input_value_tree v)) in
    nothing_told (λ (x : Placed Place (ValueTree Place)). value_departures s [] l x.place x.it) (departures_of c.args.departures.now) (option_map (node_tree value_tree) v.default_value)
    (ap (option_map (node_tree value_tree)) c.in-None.is)

pub returns-in-Some : goal.returns-in-Some
returns-in-Some c =
    let s = schema_tree c.args.schema.now in
    let v = c.args.input.now in
    let l = argument_location (unplaced_input_value (input_value_tree v)) in
    let old = departures_of c.args.departures.now in
    let x = c.in-Some.value in
    on_ok_weaker c.tell_value.result
    (λ told. found_told (λ (x : Placed Place (ValueTree Place)). value_departures s [] l x.place x.it) old (option_map (node_tree value_tree) v.default_value) (node_tree value_tree x) _
    (ap (option_map (node_tree value_tree)) c.in-Some.is)
    (told ∙ (λ k. old ⊕ value_departures s (variables_of (c.listed-variables.ensures k)) (c.of_argument-location.ensures k) (place x) (value_tree (content x)))))
    c.tell_value.ensures
