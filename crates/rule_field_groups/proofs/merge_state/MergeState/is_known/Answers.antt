use Rattle.std.proofs.Common.{◌∙◌, sym, true≢false, arith}
use Rattle.std.proofs.lemmas.Bool.{leb-true}
use Rattle.rule_field_groups.proofs.Remembering.{known_so}
use Rattle.rule_field_groups.proofs.merge_state.MergeState.is_known.Goals.{then-bound-fields, else-bound-fields, then-bound-fields-2, else-bound-fields-2}
use Rattle.rule_field_groups.proofs.merge_state.MergeState.is_known.Goals as goal

pub returns-then-bound-sets : goal.returns-then-bound-sets
returns-then-bound-sets c = λ last. elim c.if-bound-fields-2.branch [
  | then-bound-fields-2 v ↦ elim c.if-bound-fields.branch [
    | then-bound-fields w ↦ known_so c.args.fields c.args.sets c.args.self.now c.bound.result w.bound-then-bound-fields.result v.bound-then-bound-fields-2.result c.bound-then-bound-sets.result
        c.bound.ensures w.bound-then-bound-fields.ensures v.bound-then-bound-fields-2.ensures c.bound-then-bound-sets.ensures
        w.if-bound-fields.true (leb-true w.bound-then-bound-fields.result c.args.fields (sym w.value-is ∙ v.if-bound-fields-2.true))
        (leb-true v.bound-then-bound-fields-2.result c.args.sets (sym v.value-is ∙ c.if-bound-sets.true)) (leb-true c.bound-then-bound-sets.result c.args.sets last)
    | else-bound-fields w ↦ absurd (omega (arith, leb-true c.bound.result c.args.fields (sym w.value-is ∙ v.if-bound-fields-2.true), w.if-bound-fields.false))
  ]
  | else-bound-fields-2 v ↦ absurd (true≢false (sym c.if-bound-sets.true ∙ v.value-is ∙ v.if-bound-fields-2.false))
]
