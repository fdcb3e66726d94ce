use Rattle.std.proofs.Common.{◌≡◌, ◌∙◌, List, [], ap, sym, subst}
use Rattle.std.specs.Option.{option_map, option_map_or}
use Rattle.std.proofs.lemmas.Result.{on_ok_weaker}
use Rattle.graphql_names.specs.Placed.{Placed, Place, node_tree}
use Rattle.graphql_names.specs.declared.node.Node.{Node}
use Rattle.tree_directives.specs.DirectiveTree.{DirectiveDefinitionTree, directive_definition_tree, directive_tree}
use Rattle.tree_directives.specs.declared.directive.Argument.{Argument}
use Rattle.tree_directives.specs.declared.directive.Directive.{Directive}
use Rattle.tree_directives.specs.declared.input_value.InputValueDefinition.{InputValueDefinition}
use Rattle.schema_types.specs.SchemaTree.{SchemaTree}
use Rattle.schema_types.specs.Addresses.{directive_definition_at}
use Rattle.graphql_schema.specs.SchemaOf.{schema_tree}
use Rattle.graphql_schema.proofs.Lookups.{got}
use Rattle.rule_definitions.specs.GivenValues.{Variables}
use Rattle.rule_definitions.specs.Room.{◌⊕◌}
use Rattle.strict_documents.specs.Departure.{Departure}
use Rattle.strict_documents.specs.Departing.{given_departures, plain_inputs}
use Rattle.strict_documents.specs.Given.{schema_of, variables_in, given_departures_of}
use Rattle.strict_documents.specs.DepartureViews.{departures_of}
use Rattle.strict_documents.proofs.Found.{nothing_told, found_told}
use Rattle.strict_documents.proofs.arguments.tell_directive.Goals as goal

-- what is told of a directive by its definition
abbrev by_definition : SchemaTree Place → Variables Place → Directive → Placed Place (DirectiveDefinitionTree Place) → List (Departure Place)
by_definition s vs d defined = given_departures s vs (plain_inputs defined.it.arguments) (directive_tree d).arguments

pub arguments_of_directive-defined-requires : goal.arguments_of_directive-defined-requires
arguments_of_directive-defined-requires c =
    sym (ap (λ s. directive_definition_at (schema_tree s) c.content-applied.result.now.name.text) c.schema-schema.ensures)
    ∙ sym (got (node_tree directive_definition_tree) c.content-applied.result.now.name c.schema-schema.result.now.directive_definitions c.get.result c.get.ensures.value)
    ∙ ap (option_map (λ d. node_tree directive_definition_tree d.now)) c.in-Some.is

pub returns-in-None : goal.returns-in-None
returns-in-None c =
    let s = schema_of c.args.strictness.now in
    let vs = variables_in c.args.strictness.now in
    let old = departures_of c.args.departures.now in
    let d = c.content-applied.result.now in
    let found = sym (ap (λ s. directive_definition_at (schema_tree s) d.name.text) c.schema-schema.ensures)
    ∙ sym (got (node_tree directive_definition_tree) d.name c.schema-schema.result.now.directive_definitions c.get.result c.get.ensures.value) in
    subst (λ (x : Directive). old ≡ old ⊕ option_map_or (by_definition s vs x) (directive_definition_at s x.name.text) []) c.content-applied.ensures
    (nothing_told (by_definition s vs d) old (directive_definition_at s d.name.text) (found ∙ ap (option_map (λ d. node_tree directive_definition_tree d.now)) c.in-None.is))

pub returns-in-Some : goal.returns-in-Some
returns-in-Some c =
    let s = schema_of c.args.strictness.now in
    let vs = variables_in c.args.strictness.now in
    let old = departures_of c.args.departures.now in
    let new = departures_of c.tell_given.new.departures in
    let d = c.content-applied.result.now in
    let found = sym (ap (λ s. directive_definition_at (schema_tree s) d.name.text) c.schema-schema.ensures)
    ∙ sym (got (node_tree directive_definition_tree) d.name c.schema-schema.result.now.directive_definitions c.get.result c.get.ensures.value) in
    on_ok_weaker c.tell_given.result
    (λ told. subst (λ (x : Directive). new ≡ old ⊕ option_map_or (by_definition s vs x) (directive_definition_at s x.name.text) []) c.content-applied.ensures
    (found_told (by_definition s vs d) old (directive_definition_at s d.name.text) (node_tree directive_definition_tree c.in-Some.definition.now) new
    (found ∙ ap (option_map (λ d. node_tree directive_definition_tree d.now)) c.in-Some.is)
    (told
    ∙ ap (λ (l : List (Node Argument)). old ⊕ given_departures_of c.args.strictness.now c.arguments_of_directive-defined.result l) c.as_slice.ensures.value
    ∙ ap (λ (l : List (Node InputValueDefinition)). old ⊕ given_departures_of c.args.strictness.now l d.arguments.items) c.arguments_of_directive-defined.ensures)))
    c.tell_given.ensures
