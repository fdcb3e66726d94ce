use Rattle.std.proofs.Common.{◌++◌, map, ap, ◌∙◌}
use Rattle.std.proofs.lemmas.List.{map-append}
use Rattle.tree_definitions.specs.DefinitionTree.{definition_tree}
use Rattle.document_typing.proofs.CopiedDefinitions.{same-trees}
use Rattle.document_typing.proofs.Outcomes.{always-ok}
use Rattle.document_typing.proofs.builder.add_document.Goals as goal

pub returns-clause-definitions : goal.returns-clause-definitions
returns-clause-definitions c =
    let old = c.args.definitions.now.items in
    let copied = c.in_ok-extend_with_clones.ensures.items in
    always-ok c.add_sources.result
    (ap (map definition_tree) copied.1
    ∙ map-append definition_tree old copied.0
    ∙ ap (λ l. map definition_tree old ++ l) (same-trees _ copied.0 copied.2 ∙ ap (map definition_tree) c.deref.ensures.value))
