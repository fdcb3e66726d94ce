use Rattle.std.proofs.lemmas.Result.{IfOk-weaker}
use Rattle.list_interner.specs.NumberLists.{lists_kept}
use Rattle.rule_field_groups.specs.Members.{meant_sets, read_sets}
use Rattle.rule_field_groups.proofs.Remembering.{expands}
use Rattle.rule_field_groups.proofs.merge_state.MergeState.expand.Goals as goal

pub returns-clause-expands : goal.returns-clause-expands
returns-clause-expands c =
    let w = c.args.sets.now in
    IfOk-weaker c.remember.result _ _
    (λ is_new keeps. expands w (lists_kept c.args.expanded.now) (lists_kept c.remember.new.self) c.in_ok-numbers.numbers.items (read_sets (meant_sets w c.args.nodes.now)) is_new c.in_ok-numbers.ensures keeps)
    c.remember.ensures.keeps
