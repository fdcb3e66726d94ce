use Rattle.std.proofs.Common.{◌∙◌, List, map, ap}
use Rattle.graphql_schema.specs.SchemaOf.{schema_tree}
use Rattle.document_typed_operations.specs.DocumentView.{document_meant}
use Rattle.rule_definitions.specs.Room.{◌⊕◌}
use Rattle.rule_definitions.proofs.Room.{room_first}
use Rattle.rule_warnings.specs.Views.{use_tree}
use Rattle.rule_warnings.specs.Told.{document_uses}
use Rattle.rule_warnings.specs.declared.deprecated_use.DeprecatedUse.{DeprecatedUse as Rust}
use Rattle.rule_warnings.proofs.UsesTold.{document_told}
use Rattle.rule_warnings.proofs.document.deprecated_uses.Goals as goal

pub returns : goal.returns
returns c =
    let s = schema_tree c.args.schema.now in
    let d = document_meant c.args.document.now in
    let all = document_uses s d in
    (all, (c.in_ok-tell_document.ensures ∙ ap (λ (l : List Rust). map use_tree l ⊕ all) c.new-uses.ensures.items ∙ room_first all, λ u. document_told s d u))
