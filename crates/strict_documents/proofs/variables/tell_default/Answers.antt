use Rattle.std.proofs.Common.{◌∙◌, [], option_map, ap, sym}
use Rattle.std.proofs.lemmas.Result.{on_ok_weaker}
use Rattle.graphql_names.specs.Placed.{Placed, Place, node_tree}
use Rattle.graphql_names.specs.Node.{content, place}
use Rattle.tree_literals.specs.TypeTree.{type_tree, unplaced_type}
use Rattle.tree_literals.specs.ValueTree.{ValueTree, value_tree}
use Rattle.tree_operations.specs.OperationTree.{variable_definition_tree}
use Rattle.graphql_schema.specs.SchemaOf.{schema_tree}
use Rattle.rule_definitions.specs.Room.{◌⊕◌}
use Rattle.rule_values.specs.Wanting.{variables_of}
use Rattle.strict_documents.specs.Departing.{value_departures}
use Rattle.strict_documents.specs.DepartureViews.{departures_of}
use Rattle.strict_documents.specs.DepartsIn.{default_location}
use Rattle.strict_documents.proofs.ToldTogether.{nothing_told, found_told, argument_at}
use Rattle.strict_documents.proofs.variables.tell_default.Goals as goal

pub returns-in-None : goal.returns-in-None
returns-in-None c =
    let v = c.args.variable.now in
    nothing_told (λ (x : Placed Place (ValueTree Place)). value_departures (schema_tree c.args.schema.now) [] (default_location (variable_definition_tree v)) x.place x.it) (departures_of c.args.departures.now)
    (option_map (node_tree value_tree) v.default_value) (sym (ap (option_map (node_tree value_tree)) c.in-None.is))

pub returns-in-Some : goal.returns-in-Some
returns-in-Some c =
    let t = schema_tree c.args.schema.now in
    let v = c.args.variable.now in
    let old = departures_of c.args.departures.now in
    let x = c.in-Some.value in
    on_ok_weaker c.tell_value.result
    (λ told. found_told (λ (x : Placed Place (ValueTree Place)). value_departures t [] (default_location (variable_definition_tree v)) x.place x.it) old (option_map (node_tree value_tree) v.default_value) (node_tree value_tree x) _
    (sym (ap (option_map (node_tree value_tree)) c.in-Some.is))
    (told ∙ (λ i. old ⊕ value_departures t (variables_of (c.listed-variables.ensures i)) (argument_at (unplaced_type (type_tree (c.content-ty.ensures i)))) (place x) (value_tree (content x)))))
    c.tell_value.ensures
