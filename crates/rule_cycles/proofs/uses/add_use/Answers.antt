use Rattle.std.proofs.Common.{◌++◌, [], ◌∷◌, map, Some, sym, ap, ◌∙◌}
use Rattle.std.proofs.lemmas.List.{append-nil, map-append}
use Rattle.graphql_names.specs.Placed.{node_tree}
use Rattle.tree_directives.specs.DirectiveTree.{directive_tree, directive_definition_tree}
use Rattle.tree_directives.specs.declared.directive.Directive.{Directive}
use Rattle.graphql_schema.specs.SchemaOf.{schema_tree}
use Rattle.rule_cycles.specs.Numbers.{number_of}
use Rattle.rule_cycles.specs.UseNumbers.{used}
use Rattle.rule_cycles.specs.UseViews.{use_view}
use Rattle.rule_cycles.proofs.Numbering.{numbered}
use Rattle.rule_cycles.proofs.uses.add_use.Goals as goal

pub returns-in-None : goal.returns-in-None
returns-in-None c =
    let s = schema_tree c.args.schema.now in
    let before = map use_view c.args.references.now.items in
    let d = node_tree directive_tree c.args.directive.now in
    let number =
    ap (λ (x : Directive). number_of x.name.text s.directives) (sym c.content.ensures)
    ∙ sym (c.get_index_of.ensures.index ∙ numbered (node_tree directive_definition_tree) c.content.result.now.name c.args.schema.now.directive_definitions) in
    sym (append-nil before) ∙ ap (λ l. before ++ l) (sym (ap (λ o. used o (Some d)) (number ∙ c.in-None.is)))

pub returns-in_ok-push-in-Some : goal.returns-in_ok-push-in-Some
returns-in_ok-push-in-Some c =
    let s = schema_tree c.args.schema.now in
    let before = map use_view c.args.references.now.items in
    let d = node_tree directive_tree c.args.directive.now in
    let number =
    ap (λ (x : Directive). number_of x.name.text s.directives) (sym c.content.ensures)
    ∙ sym (c.get_index_of.ensures.index ∙ numbered (node_tree directive_definition_tree) c.content.result.now.name c.args.schema.now.directive_definitions) in
    ap (map use_view) c.in_ok-push-in-Some.ensures.items
    ∙ map-append use_view c.args.references.now.items (record { to = c.in-Some.to; by = Some c.in_ok-clone-in-Some.field-0 } ∷ [])
    ∙ (λ z. before ++ (c.in-Some.to, Some (record { it = directive_tree (c.in_ok-clone-in-Some.ensures.cases.0 z); place = c.in_ok-clone-in-Some.ensures.cases.1 z })) ∷ [])
    ∙ ap (λ l. before ++ l) (sym (ap (λ o. used o (Some d)) (number ∙ c.in-Some.is)))
