use Rattle.std.proofs.Common.{map, take}
use Rattle.tree_definitions.specs.DefinitionTree.{document_tree}
use Rattle.checker_calls.specs.in_schema.BuilderOf.{builder_value}
use Rattle.checker_calls.specs.TextsView.{all_sources}
use Rattle.checker_schemas.specs.Finishing.{IsFilled}
use Rattle.checker_schemas.proofs.finish.filled.Given as goal

abbrev pub invariant-loop-document : goal.invariant-loop-document
invariant-loop-document l = IsFilled l.fn.extensions (map document_tree (take l.document-index l.documents)) (all_sources (take l.document-index l.documents)) (builder_value l.builder)
