use Rattle.std.proofs.Common.{◌≡◌, map, drop}
use Rattle.std.specs.Prelude.{fold}
use Rattle.tree_definitions.specs.DefinitionTree.{definition_tree}
use Rattle.document_typing.specs.DefinedByPlace.{IsDefinedDocument}
use Rattle.document_typing.specs.MeaningView.{schema_under, meanings_under}
use Rattle.document_typing.specs.TypedDefinitions.{and_definition, typed_in}
use Rattle.document_typing.specs.StepsView.{typed_view, kept_tree}
use Rattle.document_typing.proofs.document.type_document.Given as goal

abbrev pub invariant-loop-definition : goal.invariant-loop-definition
invariant-loop-definition l =
    (fold (and_definition (meanings_under l.typing.schema) l.beside) (typed_view l.typed) (map definition_tree (drop l.definition-index l.definitions))
    ≡ typed_in (meanings_under l.typing.schema) (map definition_tree l.definitions))
    × IsDefinedDocument (schema_under l.typing.schema) (kept_tree l.typed)
