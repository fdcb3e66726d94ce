use Rattle.std.proofs.Common.{refl}
use Rattle.std.proofs.lemmas.Result.{on_ok_weaker}
use Rattle.std.specs.List.{flat_map}
use Rattle.document_typed_operations.specs.DocumentView.{document_meant}
use Rattle.graphql_schema.specs.SchemaOf.{schema_tree}
use Rattle.rule_document_definitions.specs.Selected.{operations}
use Rattle.rule_warnings.specs.Views.{uses_of}
use Rattle.rule_warnings.specs.Told.{operation_uses}
use Rattle.rule_warnings.proofs.Found.{both_told}
use Rattle.rule_warnings.proofs.Walked.{fragments_told}
use Rattle.rule_warnings.proofs.document.tell_document.Goals as goal

pub returns : goal.returns
returns c =
    let s = schema_tree c.args.schema.now in
    let first = flat_map (operation_uses s) (operations (document_meant c.args.document.now)) in
    on_ok_weaker c.tell_fragments.result
    (λ told. both_told (uses_of c.args.uses.now) (uses_of c.tell_operations.new.uses) (uses_of c.tell_fragments.new.uses) first _ first _ c.in_ok-tell_operations.ensures told
    refl (fragments_told s c.args.document.now.fragments.entries))
    c.tell_fragments.ensures
