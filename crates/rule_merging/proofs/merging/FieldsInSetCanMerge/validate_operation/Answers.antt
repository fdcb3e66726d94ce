use Rattle.std.proofs.Common.{map, ap, sym, true≢false}
use Rattle.graphql_faults.specs.DetailsView.{diagnostics_of}
use Rattle.rule_field_groups.specs.in_sets.in_reach.Broken.{broken_of, brokens_of}
use Rattle.rule_field_groups.specs.in_definitions.Judged.{judged}
use Rattle.rule_field_groups.specs.in_sets.in_schema.SchemaOf.{schema_tree}
use Rattle.rule_field_groups.specs.in_sets.in_reach.in_typed_operations.DocumentView.{document_meant, operation_meant}
use Rattle.rule_merging.specs.Merged.{conflicts_told}
use Rattle.rule_merging.proofs.Verdicts.{conflicts_right, only_no_conflicts, stays_exactly, still_settled, settled_closed, settled_merges}
use Rattle.rule_merging.proofs.After.{nothing_told, begins_same, refused_so}
use Rattle.rule_merging.proofs.merging.FieldsInSetCanMerge.validate_operation.Goals as goal

pub returns-in_err-left-clause-begins : goal.returns-in_err-left-clause-begins
returns-in_err-left-clause-begins c = refused_so _ (begins_same (diagnostics_of c.args.list.now))

-- after a refusal it is not clean
pub invariant_of-self-in-Break-branch-2 : goal.invariant_of-self-in-Break-branch-2
invariant_of-self-in-Break-branch-2 c = record { settled = ∣ (λ is. absurd (true≢false (sym is))) ∣₁ }

pub invariant_of-self-2 : goal.invariant_of-self-2
invariant_of-self-2 c =
    let m = c.args.self.now in
    record {
      settled = still_settled (judged (schema_tree m.schema.now)) (document_meant m.document.now) (operation_meant c.args.operation.now) m.examined c.examine_operation.new.examined
          c.new-breaches.result c.examine_operation.new.breaches c.in_ok-left.left (ap (map broken_of) c.new-breaches.ensures.items) c.in_ok-left.ensures.examined
          m.is_clean c.stays_clean-stays.result c.stays_clean-stays.ensures m.settled;
    }

pub returns-clause-told : goal.returns-clause-told
returns-clause-told c =
    let m = c.args.self.now in
    let o = operation_meant c.args.operation.now in
    let bs = brokens_of c.examine_operation.new.breaches in (
      conflicts_told bs o.place c.in_ok-left.left,
      (
        c.in_ok-append_conflicts.ensures.added,
        conflicts_right (judged (schema_tree m.schema.now)) (document_meant m.document.now) o m.examined c.examine_operation.new.examined
            c.new-breaches.result c.examine_operation.new.breaches c.in_ok-left.left (ap (map broken_of) c.new-breaches.ensures.items) c.in_ok-left.ensures.examined,
      ),
    )

pub returns-clause-merged : goal.returns-clause-merged
returns-clause-merged c clean same =
    let m = c.args.self.now in
    let o = operation_meant c.args.operation.now in
    let bs = brokens_of c.examine_operation.new.breaches in
    settled_merges (judged (schema_tree m.schema.now)) (document_meant m.document.now) o m.examined c.examine_operation.new.examined
    c.new-breaches.result c.examine_operation.new.breaches c.in_ok-left.left (ap (map broken_of) c.new-breaches.ensures.items) c.in_ok-left.ensures.examined
    m.is_clean m.settled clean
    (only_no_conflicts bs o.place c.in_ok-left.left (nothing_told (diagnostics_of c.args.list.now) (diagnostics_of c.append_conflicts.new.list) (conflicts_told bs o.place c.in_ok-left.left) c.in_ok-append_conflicts.ensures.added same))

pub returns-clause-closed : goal.returns-clause-closed
returns-clause-closed c clean same =
    let m = c.args.self.now in
    let o = operation_meant c.args.operation.now in
    let bs = brokens_of c.examine_operation.new.breaches in
    settled_closed (judged (schema_tree m.schema.now)) (document_meant m.document.now) o m.examined c.examine_operation.new.examined
    c.new-breaches.result c.examine_operation.new.breaches c.in_ok-left.left (ap (map broken_of) c.new-breaches.ensures.items) c.in_ok-left.ensures.examined
    m.is_clean m.settled clean
    (only_no_conflicts bs o.place c.in_ok-left.left (nothing_told (diagnostics_of c.args.list.now) (diagnostics_of c.append_conflicts.new.list) (conflicts_told bs o.place c.in_ok-left.left) c.in_ok-append_conflicts.ensures.added same))

pub returns-clause-clean : goal.returns-clause-clean
returns-clause-clean c =
    let o = operation_meant c.args.operation.now in
    stays_exactly c.args.self.now.is_clean c.stays_clean-stays.result c.in_ok-left.left (brokens_of c.examine_operation.new.breaches) o.place (diagnostics_of c.args.list.now) (diagnostics_of c.append_conflicts.new.list)
    c.stays_clean-stays.ensures c.in_ok-append_conflicts.ensures.added
