use Rattle.std.proofs.Common.{◌≡◌, ◌∙◌, List, [], ap, sym, subst}
use Rattle.std.specs.Option.{option_map, option_map_or}
use Rattle.std.proofs.lemmas.Result.{on_ok_weaker}
use Rattle.graphql_names.specs.Placed.{Place, node_tree}
use Rattle.graphql_names.specs.declared.node.Node.{Node}
use Rattle.tree_directives.specs.DirectiveTree.{DirectiveDefinitionTree, directive_definition_tree}
use Rattle.tree_directives.specs.declared.directive.Argument.{Argument}
use Rattle.tree_directives.specs.declared.directive.Directive.{Directive}
use Rattle.tree_directives.specs.declared.input_value.InputValueDefinition.{InputValueDefinition}
use Rattle.schema_coordinates.specs.Coordinate.{OfDirectiveArgument}
use Rattle.schema_types.specs.Addresses.{directive_definition_at}
use Rattle.schema_types.specs.Plain.{plain_directive_definition}
use Rattle.graphql_schema.specs.SchemaOf.{schema_tree}
use Rattle.graphql_schema.proofs.Lookups.{got}
use Rattle.rule_definitions.specs.Judged.{Judged, judged}
use Rattle.rule_definitions.specs.Room.{◌⊕◌}
use Rattle.rule_warnings.specs.Deprecated.{DeprecatedUse}
use Rattle.rule_warnings.specs.Views.{uses_of}
use Rattle.rule_warnings.specs.Told.{given_uses}
use Rattle.rule_warnings.specs.Telling.{plain_definitions, given_arguments}
use Rattle.rule_warnings.specs.declared.deprecated_use.UseKind.TheVariants as kind
use Rattle.rule_warnings.proofs.Found.{nothing_told, found_told, directive_there}
use Rattle.rule_warnings.proofs.arguments.tell_directive.Goals as goal

-- what is told of a directive by its definition
abbrev by_definition : Judged → Directive → DirectiveDefinitionTree (Unit {0}) → List (DeprecatedUse Place)
by_definition s d defined = given_uses s kind.Argument (OfDirectiveArgument d.name.text) defined.arguments (given_arguments d.arguments.items)

pub arguments_of_directive-defined-requires : goal.arguments_of_directive-defined-requires
arguments_of_directive-defined-requires c =
    sym (ap (λ s. directive_definition_at (schema_tree s) c.content-applied.result.now.name.text) c.schema.ensures)
    ∙ sym (got (node_tree directive_definition_tree) c.content-applied.result.now.name c.schema.result.now.directive_definitions c.get.result c.get.ensures.value)
    ∙ ap (option_map (λ d. node_tree directive_definition_tree d.now)) c.in-Some.is

pub returns-in-None : goal.returns-in-None
returns-in-None c =
    let t = schema_tree c.args.schema.now in
    let s = judged t in
    let old = uses_of c.args.uses.now in
    let d = c.content-applied.result.now in
    let found = sym (ap (λ s. directive_definition_at (schema_tree s) d.name.text) c.schema.ensures)
    ∙ sym (got (node_tree directive_definition_tree) d.name c.schema.result.now.directive_definitions c.get.result c.get.ensures.value) in
    subst (λ (x : Directive). old ≡ old ⊕ option_map_or (by_definition s x) (s.directive x.name.text) []) c.content-applied.ensures
    (nothing_told (by_definition s d) old (s.directive d.name.text)
    (directive_there t d.name.text ∙ ap (option_map plain_directive_definition) (found ∙ ap (option_map (λ d. node_tree directive_definition_tree d.now)) c.in-None.is)))

pub returns-in-Some : goal.returns-in-Some
returns-in-Some c =
    let t = schema_tree c.args.schema.now in
    let s = judged t in
    let old = uses_of c.args.uses.now in
    let new = uses_of c.tell_given.new.uses in
    let d = c.content-applied.result.now in
    let name = d.name.text in
    let found = sym (ap (λ s. directive_definition_at (schema_tree s) name) c.schema.ensures)
    ∙ sym (got (node_tree directive_definition_tree) d.name c.schema.result.now.directive_definitions c.get.result c.get.ensures.value) in
    on_ok_weaker c.tell_given.result
    (λ told. subst (λ (x : Directive). new ≡ old ⊕ option_map_or (by_definition s x) (s.directive x.name.text) []) c.content-applied.ensures
    (found_told (by_definition s d) old (s.directive name) (plain_directive_definition (node_tree directive_definition_tree c.in-Some.definition.now)) new
    (directive_there t name ∙ ap (option_map plain_directive_definition) (found ∙ ap (option_map (λ d. node_tree directive_definition_tree d.now)) c.in-Some.is))
    (told
    ∙ ap (λ (l : List (Node Argument)). old ⊕ given_uses s kind.Argument (OfDirectiveArgument name) (plain_definitions c.arguments_of_directive-defined.result) (given_arguments l)) c.as_slice.ensures.value
    ∙ ap (λ (l : List (Node InputValueDefinition)). old ⊕ given_uses s kind.Argument (OfDirectiveArgument name) (plain_definitions l) (given_arguments d.arguments.items)) c.arguments_of_directive-defined.ensures)))
    c.tell_given.ensures
