use Rattle.std.proofs.Common.{◌++◌, [], map, sym, ap, ◌∙◌, append_assoc}
use Rattle.std.specs.Option.{option_map_or}
use Rattle.std.proofs.lemmas.List.{append-nil}
use Rattle.std.proofs.lemmas.Result.{on_ok_weaker}
use Rattle.graphql_names.specs.Placed.{node_tree}
use Rattle.tree_directives.specs.DirectiveTree.{directives_tree, input_value_tree, directive_definition_tree}
use Rattle.tree_directives.specs.declared.directive.DirectiveDefinition.{DirectiveDefinition}
use Rattle.graphql_schema.specs.SchemaOf.{schema_tree}
use Rattle.rule_cycles.specs.UseNumbers.{uses_references, arguments_uses, definition_uses}
use Rattle.rule_cycles.specs.UseViews.{use_view}
use Rattle.rule_cycles.proofs.Numbering.{found_entry}
use Rattle.rule_cycles.proofs.uses.add_directive_uses.Goals as goal

pub returns-in-None : goal.returns-in-None
returns-in-None c =
    let s = schema_tree c.args.schema.now in
    let before = map use_view c.args.references.now.items in
    let here = found_entry (node_tree directive_definition_tree) (λ e. definition_uses s e.1) [] c.args.schema.now.directive_definitions c.args.number c.get_index.result c.get_index.ensures.entry in
    sym (append-nil before)
    ∙ ap (λ l. before ++ l) (sym (here ∙ ap (λ r. option_map_or (λ p. definition_uses s (node_tree directive_definition_tree p.1.now)) r []) c.in-None.is))

pub returns-in_ok-add_arguments-in-Some : goal.returns-in_ok-add_arguments-in-Some
returns-in_ok-add_arguments-in-Some c =
    let s = schema_tree c.args.schema.now in
    let before = map use_view c.args.references.now.items in
    let arguments = arguments_uses s (map (node_tree input_value_tree) c.deref.result.now) in
    let own = uses_references s (directives_tree c.content-definition.result.now.directives) in
    let here = found_entry (node_tree directive_definition_tree) (λ e. definition_uses s e.1) [] c.args.schema.now.directive_definitions c.args.number c.get_index.result c.get_index.ensures.entry in
    on_ok_weaker c.add_uses.result
    (λ e.
    e
    ∙ ap (λ l. l ++ own) c.in_ok-add_arguments-in-Some.ensures
    ∙ append_assoc before arguments own
    ∙ ap (λ xs. before ++ (arguments_uses s (map (node_tree input_value_tree) xs) ++ own)) c.deref.ensures.value
    ∙ ap (λ (d : DirectiveDefinition). before ++ (arguments_uses s (map (node_tree input_value_tree) d.arguments.items) ++ uses_references s (directives_tree d.directives))) c.content-definition.ensures
    ∙ ap (λ l. before ++ l) (sym (here ∙ ap (λ r. option_map_or (λ p. definition_uses s (node_tree directive_definition_tree p.1.now)) r []) c.in-Some.is)))
    c.add_uses.ensures
