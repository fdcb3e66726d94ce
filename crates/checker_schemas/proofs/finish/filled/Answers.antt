use Rattle.std.proofs.Common.{map, subst}
use Rattle.std.proofs.lemmas.List.{take_all}
use Rattle.tree_definitions.specs.DefinitionTree.{document_tree}
use Rattle.checker_calls.specs.in_schema.BuilderOf.{builder_value}
use Rattle.checker_calls.specs.TextsView.{all_sources}
use Rattle.checker_schemas.specs.Finishing.{IsFilled}
use Rattle.checker_schemas.proofs.Filling.{filled_first, filled_more, unfilled_refusal, has_not_failed}
use Rattle.checker_schemas.proofs.finish.filled.Goals as goal

pub loop-document-init : goal.loop-document-init
loop-document-init c = filled_first _ _ c.with_extensions-builder.ensures

pub loop-document-preserved : goal.loop-document-preserved
loop-document-preserved c =
    filled_more c.args.extensions c.args.documents.now c.loop-document.document-index c.document-item.result c.loop-document-test.true c.document-item.is
    (builder_value c.loop-document.builder) c.loop-document.invariant (builder_value c.add_ast.new.self) c.in-Ok.ensures.added c.in-Ok.ensures.numbers

pub unfilled-requires : goal.unfilled-requires
unfilled-requires c =
    has_not_failed (builder_value c.loop-document.builder) (builder_value c.add_ast.new.self) (document_tree c.document-item.result) c.in-Err.refusal c.loop-document.invariant.running c.in-Err.ensures.refused

pub returns-in-Err-clause-refused : goal.returns-in-Err-clause-refused
returns-in-Err-clause-refused c =
    unfilled_refusal c.args.extensions c.args.documents.now c.loop-document.document-index c.document-item.result c.loop-document-test.true c.document-item.is
    (builder_value c.loop-document.builder) c.loop-document.invariant (builder_value c.add_ast.new.self) c.in-Err.refusal c.unfilled.result c.in-Err.ensures.refused c.unfilled.ensures

pub returns-clause-filled : goal.returns-clause-filled
returns-clause-filled c =
    subst (λ ds. IsFilled c.args.extensions (map document_tree ds) (all_sources ds) (builder_value c.loop-document.builder))
    (take_all c.loop-document.document-index c.args.documents.now c.loop-document-test.false) c.loop-document.invariant
