use Rattle.std.proofs.Common.{map, take, ap, subst}
use Rattle.std.proofs.lemmas.Result.{on_ok_weaker}
use Rattle.rule_fragments.specs.in_typed_operations.DocumentView.{document_meant}
use Rattle.fault_data.specs.FaultView.{faults_of}
use Rattle.rule_merging.specs.in_faults.DetailsView.{diagnostics_of}
use Rattle.rule_fragments.specs.in_reach.Broken.{broken_of, brokens_of}
use Rattle.rule_fragments.specs.in_schema.SchemaOf.{schema_tree}
use Rattle.rule_fragments.specs.in_schema.declared.schema.Schema.{Schema}
use Rattle.graphql_validation.specs.OperationChecks.{TellsUnder}
use Rattle.graphql_validation.specs.ValidationFaults.{set_meant}
use Rattle.rule_definitions.specs.Room.{most_told}
use Rattle.graphql_validation.specs.Operations.{all_told}
use Rattle.graphql_validation.proofs.Once.{told_once, none_once}
use Rattle.graphql_validation.proofs.FieldSets.{told_of_set, silent_set, valid_set}
use Rattle.rule_merging.proofs.After.{begins_same, refused_so}
use Rattle.graphql_validation.proofs.field_set.validate_field_set.Goals as goal

pub returns-in_err-document-clause-begins : goal.returns-in_err-document-clause-begins
returns-in_err-document-clause-begins c = refused_so _ (begins_same (diagnostics_of c.args.list.now))

pub returns-in_err-inputs-clause-begins : goal.returns-in_err-inputs-clause-begins
returns-in_err-inputs-clause-begins c = refused_so _ (begins_same (diagnostics_of c.args.list.now))

pub returns-in_err-faults-clause-begins : goal.returns-in_err-faults-clause-begins
returns-in_err-faults-clause-begins c = refused_so _ (begins_same (diagnostics_of c.args.list.now))

pub returns-clause-told : goal.returns-clause-told
returns-clause-told c =
    let s = schema_tree c.args.schema.now in
    let d = document_meant c.in_ok-document.document in
    let fs = faults_of c.in_ok-faults.faults in
    let bs = brokens_of c.new-2.result in
    let p = c.passes_path_bound-is_passed.result in
    let bound = c.passes_path_bound-is_passed.ensures in
    let parts = subst (λ (y : Schema). TellsUnder (schema_tree y) d fs) c.new-schema.ensures c.in_ok-faults.ensures.told in
    on_ok_weaker c.append_all.result
    (λ h. told_of_set s (set_meant c.args.field_set.now) (diagnostics_of c.args.list.now) (diagnostics_of c.append_all.new.list) d fs bs p c.in_ok-document.ensures (ap (map broken_of) c.new-2.ensures.items) parts bound.right bound.found h)
    c.append_all.ensures.added

pub returns-clause-once : goal.returns-clause-once
returns-clause-once c =
    let fs = faults_of c.in_ok-faults.faults in
    let bs = brokens_of c.new-2.result in
    let p = c.passes_path_bound-is_passed.result in
    on_ok_weaker c.append_all.result
    (λ h. (take most_told (all_told fs bs p), (h, told_once fs bs p c.in_ok-faults.ensures.once (none_once bs (ap (map broken_of) c.new-2.ensures.items)))))
    c.append_all.ensures.added

pub returns-clause-silent : goal.returns-clause-silent
returns-clause-silent c =
    let s = schema_tree c.args.schema.now in
    let set = set_meant c.args.field_set.now in
    on_ok_weaker c.append_all.result
    (λ told typed same. silent_set s set (diagnostics_of c.args.list.now) (diagnostics_of c.append_all.new.list) (told typed) same)
    (returns-clause-told c)

pub returns-clause-accepts : goal.returns-clause-accepts
returns-clause-accepts c =
    let s = schema_tree c.args.schema.now in
    let set = set_meant c.args.field_set.now in
    on_ok_weaker c.append_all.result
    (λ told typed valid within. valid_set s set (diagnostics_of c.args.list.now) (diagnostics_of c.append_all.new.list) (told typed) valid within)
    (returns-clause-told c)
