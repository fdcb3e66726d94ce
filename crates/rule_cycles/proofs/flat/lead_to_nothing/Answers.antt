use Rattle.std.proofs.Common.{◌≡◌, ◌≤◌, [], length, map, Contains, sym, subst, inl, inr, arith}
use Rattle.std.proofs.lemmas.List.{take_all}
use Rattle.graphql_schema.specs.SchemaOf.{schema_tree}
use Rattle.rule_cycles.specs.Labels.{targets}
use Rattle.rule_cycles.specs.UseNumbers.{uses_at}
use Rattle.rule_cycles.specs.UseViews.{use_view}
use Rattle.rule_cycles.proofs.UseFacts.{target_more}
use Rattle.rule_cycles.proofs.flat.lead_to_nothing.Goals as goal

pub loop-reference-preserved : goal.loop-reference-preserved
loop-reference-preserved c = λ node there.
    elim (target_more use_view c.args.references.now c.loop-reference.reference-index c.reference-item.result (omega arith) c.reference-item.is node there) [
      | inl before ↦ c.loop-reference.invariant node before
      | inr is ↦ subst (λ n. uses_at (schema_tree c.args.schema.now) n ≡ []) is (c.refers_to_nothing.ensures c.if-not-refers_to_nothing.false)
    ]

pub returns : goal.returns
returns c = λ all node there.
    let past : length c.args.references.now ≤ c.loop-reference.reference-index = omega arith in
    c.loop-reference.invariant node (subst (λ l. Contains (targets (map use_view l)) node) (sym (take_all c.loop-reference.reference-index c.args.references.now past)) there)
