use Rattle.std.proofs.Common.{sym, subst}
use Rattle.std.proofs.lemmas.Result.{IfOk-weaker}
use Rattle.rule_reach.specs.Passed.{read_of_set, map_read, IsLed}
use Rattle.rule_reach.proofs.Leveling.{level_begun}
use Rattle.rule_reach.proofs.lone_keys.keys_differ.Goals as goal

pub returns : goal.returns
returns c =
    let fs = map_read c.args.document.now.fragments in
    let s = read_of_set c.args.set.now in
    let begun = subst (IsLed fs s) (sym c.in_ok-level.ensures) (level_begun fs s) in
    IfOk-weaker c.do_walk.result _ _ (λ differ lone is. lone is s begun) c.do_walk.ensures
