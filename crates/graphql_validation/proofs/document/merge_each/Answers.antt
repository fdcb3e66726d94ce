use Rattle.std.proofs.Common.{◌≡◌, ◌∙◌, ◌∷◌, [], ◌++◌, map, sym, subst, Contains}
use Rattle.std.specs.Prelude.{IsTrue}
use Rattle.rule_document_definitions.specs.Merging.{FieldsMerge}
use Rattle.rule_document_definitions.specs.Selected.{operations}
use Rattle.rule_merging.specs.in_faults.DetailsView.{diagnostics_of}
use Rattle.spec_document.specs.MeantTree.{MeantDocument}
use Rattle.graphql_names.specs.Placed.{Place}
use Rattle.rule_definitions.specs.Judged.{Judged, judged}
use Rattle.rule_fragments.specs.in_schema.SchemaOf.{schema_tree}
use Rattle.document_typed_operations.specs.OperationsByName.{left_operations}
use Rattle.rule_fragments.specs.in_typed_operations.DocumentView.{document_meant, operation_meant}
use Rattle.rule_merging.specs.Merged.{MergingTold}
use Rattle.rule_merging.specs.Merger.{merger_of}
use Rattle.graphql_validation.proofs.MergedOperations.{merging_none, merging_more, so_far_none, so_far_more}
use Rattle.rule_fragments.proofs.Operations.{lent_operation, lent_operations, all_operations, one_after, lent_more, lent_all, lent_among}
use Rattle.graphql_validation.proofs.document.merge_each.Goals as goal

pub loop-operation-init : goal.loop-operation-init
loop-operation-init c =
    let s = judged (schema_tree c.args.schema.now) in
    let d = document_meant c.args.document.now in (
      merging_none s d (diagnostics_of c.new-list.result) c.new-list.ensures,
      (
        so_far_none s d (merger_of c.new-merger.result).is_clean [] (diagnostics_of c.new-list.result) c.new-merger.ensures.clean,
        (
          c.new-merger.ensures.schema,
          (
            c.new-merger.ensures.document,
            (
              c.new-merger.ensures.ready,
              (λ i. map operation_meant (left_operations (c.into_iter-operation-iterator.ensures.into_iter_gives i)))
                  ∙ all_operations c.args.document.now (left_operations c.iter-operation-items.result) c.iter-operation-items.ensures,
            ),
          ),
        ),
      ),
    )

pub validate_operation-requires : goal.validate_operation-requires
validate_operation-requires c = record { ready = c.loop-operation.invariant.1.1.1.1.0 }

pub loop-operation-preserved : goal.loop-operation-preserved
loop-operation-preserved c =
    let s = judged (schema_tree c.args.schema.now) in
    let d = document_meant c.args.document.now in
    let at = c.loop-operation in
    let x = c.in-Some.operation in
    let o = lent_operation x in
    let mid = diagnostics_of at.list in
    let new = diagnostics_of c.validate_operation.new.list in
    let was = (merger_of at.merger).is_clean in
    let h = c.in_ok-validate_operation.ensures in
    let among = lent_among at.yielded x (operations d) (left_operations at.operation-iterator) (left_operations c.next.new.self) c.in-Some.ensures.steps at.invariant.1.1.1.1.1 in
    let m = merger_of at.merger in
    let same : (m.schema, m.document) ≡ (s, d) = λ i. (at.invariant.1.1.0 i, at.invariant.1.1.1.0 i) in
    let told = subst (λ (p : Judged × MeantDocument Place). MergingTold p.0 p.1 o mid new) same h.told in
    let merges = subst (λ (p : Judged × MeantDocument Place). IsTrue was → new ≡ mid → FieldsMerge p.0 p.1 o) same h.merged in (
      merging_more s d [] mid new o among at.invariant.0 told,
      (
        so_far_more s d [] mid new (lent_operations at.yielded) (lent_operations (at.yielded ++ x ∷ [])) o was (merger_of c.validate_operation.new.self).is_clean
            (one_after at.yielded x) at.invariant.0 at.invariant.1.0 told merges h.clean,
        (
          h.schema ∙ at.invariant.1.1.0,
          (
            h.document ∙ at.invariant.1.1.1.0,
            (
              c.validate_operation.ensures.ready,
              lent_more at.yielded x (operations d) (left_operations at.operation-iterator) (left_operations c.next.new.self) c.in-Some.ensures.steps at.invariant.1.1.1.1.1,
            ),
          ),
        ),
      ),
    )

-- where enough is told, the rest is left
pub returns-then-len-ge-MOST_TOLD-clause-told : goal.returns-then-len-ge-MOST_TOLD-clause-told
returns-then-len-ge-MOST_TOLD-clause-told c =
    let s = judged (schema_tree c.args.schema.now) in
    let d = document_meant c.args.document.now in
    let at = c.loop-operation in
    let x = c.in-Some.operation in
    let o = lent_operation x in
    let mid = diagnostics_of at.list in
    let new = diagnostics_of c.validate_operation.new.list in
    let among = lent_among at.yielded x (operations d) (left_operations at.operation-iterator) (left_operations c.next.new.self) c.in-Some.ensures.steps at.invariant.1.1.1.1.1 in
    let m = merger_of at.merger in
    let same : (m.schema, m.document) ≡ (s, d) = λ i. (at.invariant.1.1.0 i, at.invariant.1.1.1.0 i) in
    let told = subst (λ (p : Judged × MeantDocument Place). MergingTold p.0 p.1 o mid new) same c.in_ok-validate_operation.ensures.told in
    merging_more s d [] mid new o among at.invariant.0 told

pub returns-clause-merged : goal.returns-clause-merged
returns-clause-merged c same o among =
    let s = judged (schema_tree c.args.schema.now) in
    let d = document_meant c.args.document.now in
    let at = c.loop-operation in
    let all = lent_all at.yielded (operations d) (left_operations at.operation-iterator) c.in-None.ensures.steps.0 at.invariant.1.1.1.1.1 in
    (at.invariant.1.0 same).1 o (subst (λ l. Contains l o) (sym all) among)
