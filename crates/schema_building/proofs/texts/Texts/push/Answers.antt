use Rattle.std.proofs.Common.{[], ◌∷◌, ◌++◌, map, None, Some, sym, ap, ◌∙◌}
use Rattle.std.proofs.lemmas.List.{map-append}
use Rattle.schema_components.specs.Given.{extension_tree}
use Rattle.schema_built_in.specs.in_definitions.DefinitionTree.{definition_tree}
use Rattle.schema_built_in.specs.in_fold.NumberedDefinition.{definitions_of}
use Rattle.schema_built_in.specs.in_fold.ListedView.{listed_view}
use Rattle.schema_building.specs.TextsView.{texts_view}
use Rattle.schema_building.proofs.Adding.{adds_unnumbered, adds_numbered}
use Rattle.schema_building.proofs.texts.Texts.push.Goals as goal

pub returns-then-not-is_extension_definition-clause-added : goal.returns-then-not-is_extension_definition-clause-added
returns-then-not-is_extension_definition-clause-added c =
    adds_unnumbered (definition_tree c.args.definition.now) (texts_view c.args.self.now) _ (sym c.is_extension_definition.ensures ∙ c.if-not-is_extension_definition.true) c.in_ok-push_shared.ensures (λ _. c.args.self.now.extensions)

pub returns-then-not-is_extension_definition-clause-following : goal.returns-then-not-is_extension_definition-clause-following
returns-then-not-is_extension_definition-clause-following c =
    ap definitions_of c.in_ok-push_shared.ensures ∙ map-append (λ l. l.definition) (map listed_view c.args.self.now.list.items) (record { definition = definition_tree c.args.definition.now; extension = None } ∷ [])

pub returns-clause-following : goal.returns-clause-following
returns-clause-following c =
    ap definitions_of c.in_ok-push_shared-2.ensures
    ∙ map-append (λ l. l.definition) (map listed_view c.args.self.now.list.items) (record { definition = definition_tree c.args.definition.now; extension = Some (extension_tree c.in_ok-id.id) } ∷ [])

pub returns-clause-added : goal.returns-clause-added
returns-clause-added c =
    let d = definition_tree c.args.definition.now in
    let id = c.in_ok-id.ensures in
    let place = id.location ∙ c.location.ensures in
    let before = map listed_view c.args.self.now.list.items in
    adds_numbered d (texts_view c.args.self.now) _ (sym c.is_extension_definition.ensures ∙ c.if-not-is_extension_definition.false)
    (c.in_ok-push_shared-2.ensures ∙ (λ i. before ++ record { definition = d; extension = Some (record { number = id.given i; place = place i }) } ∷ [])) id.goes_on id.not_spent
