use Rattle.std.proofs.Common.{◌∙◌, ap, sym}
use Rattle.std.specs.List.{flat_map}
use Rattle.document_typed_operations.specs.OperationsByName.{left_operations}
use Rattle.document_typed_operations.specs.DocumentView.{document_meant}
use Rattle.graphql_schema.specs.SchemaOf.{schema_tree}
use Rattle.rule_definitions.specs.Room.{◌⊕◌}
use Rattle.rule_document_definitions.specs.Selected.{operations}
use Rattle.rule_warnings.specs.Views.{uses_of}
use Rattle.rule_warnings.specs.Told.{operation_uses}
use Rattle.rule_warnings.specs.TellingDocuments.{operation_uses_of}
use Rattle.rule_warnings.proofs.Found.{left_told}
use Rattle.rule_warnings.proofs.Walked.{operations_told}
use Rattle.rule_warnings.proofs.document.tell_operations.Goals as goal

pub loop-operation-init : goal.loop-operation-init
loop-operation-init c =
    let s = schema_tree c.args.schema.now in
    ap (λ l. uses_of c.args.uses.now ⊕ l)
    (operations_told s c.args.document.now (left_operations c.iter-operation-items.result) c.iter-operation-items.ensures
    ∙ sym (λ i. flat_map (operation_uses_of s) (left_operations (c.into_iter-operation-iterator.ensures.into_iter_gives i))))

pub loop-operation-preserved : goal.loop-operation-preserved
loop-operation-preserved c =
    let s = schema_tree c.args.schema.now in
    left_told (operation_uses_of s) (uses_of c.loop-operation.uses) (uses_of c.tell_operation.new.uses) c.in-Some.operation.now (left_operations c.loop-operation.operation-iterator) (left_operations c.next.new.self)
    (uses_of c.args.uses.now ⊕ flat_map (operation_uses s) (operations (document_meant c.args.document.now))) c.in-Some.ensures.steps c.in_ok-tell_operation.ensures c.loop-operation.invariant

pub returns : goal.returns
returns c =
    let s = schema_tree c.args.schema.now in
    sym (c.loop-operation.invariant ∙ ap (λ l. uses_of c.loop-operation.uses ⊕ flat_map (operation_uses_of s) l) c.in-None.ensures.steps.0)
