use Rattle.std.proofs.lemmas.Result.{IfOk-weaker}
use Rattle.list_interner.specs.NumberLists.{list_of, lists_kept}
use Rattle.rule_field_groups.specs.Members.{contents_of_two}
use Rattle.rule_field_groups.specs.MergeState.{kept_of}
use Rattle.rule_field_groups.proofs.Remembering.{remembers, two_read}
use Rattle.rule_field_groups.proofs.merge_state.MergeState.remember_two.Goals as goal

pub returns-clause-remembers : goal.returns-clause-remembers
returns-clause-remembers c =
    let old = c.args.self.now in
    let one = c.args.one in
    let other = c.args.other in
    IfOk-weaker c.remember_two.result _ _
    (λ is_new keeps w are has so. remembers w are (kept_of w old) (lists_kept old.lists) (lists_kept c.remember_two.new.self) (list_of (one.number, other.number)) (contents_of_two one other) is_new (two_read w are one other has so) keeps)
    c.remember_two.ensures.keeps
