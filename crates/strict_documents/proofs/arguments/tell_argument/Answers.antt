use Rattle.std.proofs.Common.{◌≡◌, ◌∙◌, List, [], ap, sym, subst, find}
use Rattle.std.specs.Option.{option_map, option_map_or}
use Rattle.std.proofs.lemmas.Result.{on_ok_weaker}
use Rattle.graphql_names.specs.Node.{content, place}
use Rattle.graphql_names.specs.Placed.{Placed, Place, node_tree, unplaced_node}
use Rattle.tree_literals.specs.ValueTree.{value_tree}
use Rattle.tree_directives.specs.DirectiveTree.{InputValueTree, input_value_tree, input_value_trees, unplaced_input_value}
use Rattle.tree_directives.specs.DirectiveQueries.{input_value_has_name}
use Rattle.tree_directives.specs.declared.directive.Argument.{Argument}
use Rattle.tree_directives.specs.declared.input_value.InputValueDefinition.{InputValueDefinition}
use Rattle.schema_types.specs.SchemaTree.{SchemaTree}
use Rattle.rule_definitions.specs.GivenValues.{Variables}
use Rattle.rule_definitions.specs.Room.{◌⊕◌}
use Rattle.strict_documents.specs.Departure.{Departure}
use Rattle.strict_documents.specs.Locations.{argument_location}
use Rattle.strict_documents.specs.Departing.{value_departures, plain_inputs}
use Rattle.strict_documents.specs.Given.{schema_of, variables_in}
use Rattle.strict_documents.specs.DepartureViews.{departures_of}
use Rattle.strict_documents.proofs.Found.{nothing_told, found_told, plain_found}
use Rattle.strict_documents.proofs.arguments.tell_argument.Goals as goal

-- what is told of an argument by its definition
abbrev by_definition : SchemaTree Place → Variables Place → Argument → Placed (Unit {0}) (InputValueTree (Unit {0})) → List (Departure Place)
by_definition s vs a v = value_departures s vs (argument_location v.it) (place a.value) (value_tree (content a.value))

pub returns-in-None : goal.returns-in-None
returns-in-None c =
    let s = schema_of c.args.strictness.now in
    let vs = variables_in c.args.strictness.now in
    let ds = input_value_trees c.args.definitions.now in
    let old = departures_of c.args.departures.now in
    let a = c.content-given.result.now in
    subst (λ (x : Argument). old ≡ old ⊕ option_map_or (by_definition s vs x) (find (input_value_has_name x.name.text) (plain_inputs ds)) []) c.content-given.ensures
    (nothing_told (by_definition s vs a) old (find (input_value_has_name a.name.text) (plain_inputs ds))
    (plain_found a.name.text ds ∙ ap (option_map (unplaced_node unplaced_input_value)) (sym c.find.ensures ∙ ap (option_map (λ v. node_tree input_value_tree v.now)) c.in-None.is)))

pub returns-in-Some : goal.returns-in-Some
returns-in-Some c =
    let s = schema_of c.args.strictness.now in
    let vs = variables_in c.args.strictness.now in
    let ds = input_value_trees c.args.definitions.now in
    let old = departures_of c.args.departures.now in
    let new = departures_of c.tell_value.new.departures in
    let a = c.content-given.result.now in
    on_ok_weaker c.tell_value.result
    (λ told. subst (λ (x : Argument). new ≡ old ⊕ option_map_or (by_definition s vs x) (find (input_value_has_name x.name.text) (plain_inputs ds)) []) c.content-given.ensures
    (found_told (by_definition s vs a) old (find (input_value_has_name a.name.text) (plain_inputs ds)) (unplaced_node unplaced_input_value (node_tree input_value_tree c.in-Some.definition.now)) new
    (plain_found a.name.text ds ∙ ap (option_map (unplaced_node unplaced_input_value)) (sym c.find.ensures ∙ ap (option_map (λ v. node_tree input_value_tree v.now)) c.in-Some.is))
    (told ∙ ap (λ l. old ⊕ value_departures s vs l (place a.value) (value_tree (content a.value)))
    (c.of_argument-location.ensures ∙ ap (λ (d : InputValueDefinition). argument_location (unplaced_input_value (input_value_tree d))) c.content.ensures))))
    c.tell_value.ensures
