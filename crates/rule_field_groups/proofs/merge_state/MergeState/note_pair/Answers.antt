use Rattle.std.proofs.lemmas.Result.{IfOk-weaker}
use Rattle.list_interner.specs.NumberPairs.{pairs_kept}
use Rattle.rule_field_sets.specs.Read.{set_at}
use Rattle.rule_field_groups.specs.MergeState.{kept_of}
use Rattle.rule_field_groups.proofs.Remembering.{looks}
use Rattle.rule_field_groups.proofs.merge_state.MergeState.note_pair.Goals as goal

pub returns-clause-looks : goal.returns-clause-looks
returns-clause-looks c =
    let w = c.args.sets.now in
    let old = c.args.self.now in
    IfOk-weaker c.remember.result _ _
    (λ is_new keeps. looks w (kept_of w old) (pairs_kept old.looked) (pairs_kept c.remember.new.self) c.in_ok-number_of.field-0 c.in_ok-number_of-2.field-0 (set_at w c.args.one) (set_at w c.args.other) is_new
    c.in_ok-number_of.ensures c.in_ok-number_of-2.ensures keeps)
    c.remember.ensures.keeps
