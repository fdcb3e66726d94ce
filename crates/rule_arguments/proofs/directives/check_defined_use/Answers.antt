use Rattle.std.proofs.Common.{[], sym, ap, subst, ◌∙◌}
use Rattle.std.specs.Option.{option_map_or}
use Rattle.std.proofs.lemmas.Result.{on_ok_weaker}
use Rattle.graphql_names.specs.Node.{content}
use Rattle.graphql_names.specs.Placed.{Placed, Place, node_tree}
use Rattle.tree_directives.specs.DirectiveTree.{DirectiveDefinitionTree, directive_tree, directive_definition_tree, input_value_trees}
use Rattle.tree_directives.specs.declared.directive.Directive.{Directive}
use Rattle.rule_values.specs.in_schema.in_schema_types.Addresses.{DirectiveDefinitionAt, arguments_at, directive_definition_at, place_at}
use Rattle.rule_values.specs.in_schema.SchemaOf.{schema_tree}
use Rattle.rule_values.specs.in_fault_data.FaultView.{faults_of}
use Rattle.rule_values.specs.in_rule_definitions.Judged.{judged}
use Rattle.rule_values.specs.in_rule_definitions.Uses.{Taker, TakerBreaks}
use Rattle.rule_values.specs.in_fault_data.Adds.{Adds}
use Rattle.rule_values.specs.Wanting.{variables_of}
use Rattle.rule_arguments.specs.Trees.{arguments_of}
use Rattle.rule_arguments.specs.UseFaults.{unsupported_location}
use Rattle.rule_values.proofs.in_fault_data.Adding.{gains_both, gains_list}
use Rattle.rule_values.proofs.in_fault_data.Judgings.{directive_look}
use Rattle.rule_arguments.proofs.Uses.{same_taker, lies_in, lists_unsupported_location}
use Rattle.rule_arguments.proofs.directives.check_defined_use.Goals as goal

pub arguments_of_directive-defined-requires : goal.arguments_of_directive-defined-requires
arguments_of_directive-defined-requires c = ap (λ (x : Directive). directive_definition_at (schema_tree c.args.judging.now.schema.now) x.name.text) c.content-used.ensures ∙ c.requires

pub returns : goal.returns
returns c =
    let s = schema_tree c.args.judging.now.schema.now in
    let vs = variables_of c.args.judging.now.variables.now in
    let d = node_tree directive_tree c.args.directive.now in
    let e = node_tree directive_definition_tree c.args.definition.now in
    let a = faults_of c.args.faults.now in
    let b = faults_of c.unsupported_location.new.faults in
    let u = c.in_ok-unsupported_location.ensures in
    let given = ap arguments_of c.as_slice.ensures.value ∙ ap (λ (x : Directive). arguments_of x.arguments.items) c.content-used.ensures in
    let definitions = ap input_value_trees c.arguments_of_directive-defined.ensures in
    let taker = same_taker d c.location-place.result (arguments_of c.as_slice.result.now) c.content-used.result.now.name.text (input_value_trees c.arguments_of_directive-defined.result) (input_value_trees (content c.args.definition.now).arguments.items)
    c.location-place.ensures given (ap (λ (x : Directive). x.name.text) c.content-used.ensures) definitions in
    let stands = ap (λ (x : Directive). arguments_at s (DirectiveDefinitionAt x.name.text)) c.content-used.ensures ∙ ap (λ o. option_map_or (λ (x : Placed Place (DirectiveDefinitionTree Place)). x.it.arguments) o []) c.requires ∙ sym definitions in
    on_ok_weaker c.check_taken.result
    (λ h. gains_both a b (faults_of c.check_taken.new.faults)
    (gains_list a b (unsupported_location u.0 e c.args.location d) u.1.1
    (lists_unsupported_location s vs (directive_look s) c.args.location d e c.requires u.0 u.1.0))
    (subst (λ (t : Taker Place). Adds c.unsupported_location.new.faults c.check_taken.new.faults (TakerBreaks (place_at s) (judged s) vs t)) taker (h (place_at s) (lies_in s _ stands))))
    c.check_taken.ensures
