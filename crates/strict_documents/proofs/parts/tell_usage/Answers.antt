use Rattle.std.proofs.Common.{◌∙◌, ℕ, List, not, find, bytes_eq, ap, sym}
use Rattle.std.specs.Option.{option_map, option_copied}
use Rattle.std.proofs.lemmas.Result.{on_ok_weaker}
use Rattle.graphql_names.specs.Placed.{Placed, Place, Text, name_tree, node_tree}
use Rattle.tree_literals.specs.ValueTree.{value_tree}
use Rattle.tree_literals.specs.ValueQueries.{variable_name}
use Rattle.tree_literals.specs.declared.value.Value.{Value}
use Rattle.tree_operations.specs.OperationTree.{VariableDefinitionTree, variable_definition_tree}
use Rattle.tree_operations.specs.declared.operation.VariableDefinition.{VariableDefinition}
use Rattle.rule_definitions.specs.Names.{defined_name}
use Rattle.rule_definitions.specs.Room.{◌⊕◌}
use Rattle.rule_values.specs.Wanting.{variables_of}
use Rattle.strict_documents.specs.Departure.{Departure}
use Rattle.strict_documents.specs.Locations.{Part}
use Rattle.strict_documents.specs.ValueLetter.{is_usage_allowed}
use Rattle.strict_documents.specs.Departing.{departure_if, usage_kind, usage_departures_of}
use Rattle.strict_documents.specs.Given.{part_of}
use Rattle.strict_documents.specs.DepartureViews.{departures_of}
use Rattle.strict_documents.proofs.Found.{nothing_told, found_told}
use Rattle.strict_documents.proofs.parts.tell_usage.Goals as goal

-- what is told of a variable by its definition
abbrev by_definition : Part Place → List ℕ → Placed Place (VariableDefinitionTree Place) → List (Departure Place)
by_definition x n v = departure_if (not (is_usage_allowed v.it x.location)) x.place (usage_kind x.location) n

pub returns-in_default : goal.returns-in_default
returns-in_default c =
    let x = part_of c.args.location c.args.value.now in
    let vs = variables_of c.args.variables.now in
    nothing_told (λ (n : Text Place). usage_departures_of vs x n.it) (departures_of c.args.departures.now) (variable_name x.value)
    (sym (ap (λ (v : Value). variable_name (value_tree v)) c.content.ensures) ∙ sym c.as_variable.ensures ∙ ap (λ o. option_map name_tree (option_copied o)) c.in_default.is)

pub returns-in-None : goal.returns-in-None
returns-in-None c =
    let x = part_of c.args.location c.args.value.now in
    let vs = variables_of c.args.variables.now in
    let n = c.in-Some.name.now in
    let old = departures_of c.args.departures.now in
    found_told (λ (n : Text Place). usage_departures_of vs x n.it) old (variable_name x.value) (name_tree n) old
    (sym (ap (λ (v : Value). variable_name (value_tree v)) c.content.ensures) ∙ sym c.as_variable.ensures ∙ ap (λ o. option_map name_tree (option_copied o)) c.in-Some.is)
    (nothing_told (by_definition x n.text) old (find (λ v. bytes_eq (defined_name v) n.text) vs)
    (sym c.get.ensures ∙ ap (option_map (λ v. node_tree variable_definition_tree v.now)) c.in-None.is))

pub returns-in-Some-get : goal.returns-in-Some-get
returns-in-Some-get c =
    let x = part_of c.args.location c.args.value.now in
    let vs = variables_of c.args.variables.now in
    let n = c.in-Some.name.now in
    let old = departures_of c.args.departures.now in
    let new = departures_of c.tell_disallowed.new.departures in
    on_ok_weaker c.tell_disallowed.result
    (λ told. found_told (λ (n : Text Place). usage_departures_of vs x n.it) old (variable_name x.value) (name_tree n) new
    (sym (ap (λ (v : Value). variable_name (value_tree v)) c.content.ensures) ∙ sym c.as_variable.ensures ∙ ap (λ o. option_map name_tree (option_copied o)) c.in-Some.is)
    (found_told (by_definition x n.text) old (find (λ v. bytes_eq (defined_name v) n.text) vs) (node_tree variable_definition_tree c.in-Some-get.variable.now) new
    (sym c.get.ensures ∙ ap (option_map (λ v. node_tree variable_definition_tree v.now)) c.in-Some-get.is)
    (told ∙ ap (λ (d : VariableDefinition). old ⊕ departure_if (not (is_usage_allowed (variable_definition_tree d) x.location)) x.place (usage_kind x.location) n.text) c.content-in-Some-get.ensures)))
    c.tell_disallowed.ensures
