use Rattle.std.proofs.Common.{◌++◌, take, ap, ◌∙◌}
use Rattle.std.proofs.lemmas.Result.{on_ok_weaker}
use Rattle.rule_definitions.specs.Judged.{judged}
use Rattle.rule_definitions.specs.Room.{most_told}
use Rattle.rule_fragments.specs.in_schema.SchemaOf.{schema_tree}
use Rattle.rule_fragments.specs.in_typed_operations.DocumentView.{document_meant}
use Rattle.rule_merging.specs.in_faults.DetailsView.{diagnostics_of}
use Rattle.graphql_validation.proofs.MergedOnce.{merging_first, merging_silent}
use Rattle.graphql_validation.proofs.document.merge_operations.Goals as goal

pub returns-clause-told : goal.returns-clause-told
returns-clause-told c =
    let old = diagnostics_of c.args.list.now in
    on_ok_weaker c.append.result
    (λ h. merging_first (judged (schema_tree c.args.schema.now)) (document_meant c.args.document.now) (diagnostics_of c.in_ok-merged.merged) c.into_vec.result.items c.in_ok-each_once.field-0.items
    c.in_ok-merged.ensures.told c.into_vec.ensures c.in_ok-each_once.ensures old (diagnostics_of c.append.new.self)
    (h ∙ ap (λ l. old ++ l) (c.truncate.ensures ∙ ap (take most_told) c.from_vec-told.ensures)))
    c.append.ensures.added

pub returns-clause-merged : goal.returns-clause-merged
returns-clause-merged c =
    let old = diagnostics_of c.args.list.now in
    on_ok_weaker c.append.result
    (λ h same. c.in_ok-merged.ensures.merged
    (merging_silent (judged (schema_tree c.args.schema.now)) (document_meant c.args.document.now) (diagnostics_of c.in_ok-merged.merged) c.into_vec.result.items c.in_ok-each_once.field-0.items
    c.in_ok-merged.ensures.told c.into_vec.ensures c.in_ok-each_once.ensures old (diagnostics_of c.append.new.self)
    (h ∙ ap (λ l. old ++ l) (c.truncate.ensures ∙ ap (take most_told) c.from_vec-told.ensures)) same))
    c.append.ensures.added
