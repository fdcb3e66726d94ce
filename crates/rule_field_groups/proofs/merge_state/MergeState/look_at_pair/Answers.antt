use Rattle.std.proofs.Common.{◌∷◌, [], true, subst}
use Rattle.rule_field_sets.specs.Read.{set_at}
use Rattle.rule_field_groups.specs.Members.{read_sets}
use Rattle.rule_field_groups.specs.MergeState.{kept_of, LooksAt}
use Rattle.rule_field_groups.specs.Under.{Sets}
use Rattle.rule_field_groups.proofs.Looking.{looks_new, looks_known, pushed}
use Rattle.rule_field_groups.proofs.merge_state.MergeState.look_at_pair.Goals as goal

pub returns-in_ok-push-clause-looks : goal.returns-in_ok-push-clause-looks
returns-in_ok-push-clause-looks c =
    let w = c.args.sets.now in
    let two : Sets = set_at w c.args.one ∷ set_at w c.args.other ∷ [] in
    let old = kept_of w c.args.self.now in
    let mid = kept_of w c.note_pair.new.self in
    let is : LooksAt old (read_sets two) true mid = subst (λ b. LooksAt old (read_sets two) b mid) c.if-is_new.true c.in_ok-is_new.ensures.looks in
    looks_new two old mid _ is (λ i. record mid { pairs = pushed w c.note_pair.new.self.pairs.items c.push.new.self.items c.in_ok-pair.pair c.args.one c.args.other c.in_ok-pair.ensures c.in_ok-push.ensures.items i })

pub returns-else-is_new-clause-looks : goal.returns-else-is_new-clause-looks
returns-else-is_new-clause-looks c =
    let w = c.args.sets.now in
    let two : Sets = set_at w c.args.one ∷ set_at w c.args.other ∷ [] in
    let old = kept_of w c.args.self.now in
    let new = kept_of w c.note_pair.new.self in
    looks_known two old new (subst (λ b. LooksAt old (read_sets two) b new) c.if-is_new.false c.in_ok-is_new.ensures.looks)
