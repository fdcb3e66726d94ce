use Rattle.std.proofs.Common.{sym, subst}
use Rattle.rule_reach.specs.Reach.{meant_fragments}
use Rattle.rule_selections.specs.Settled.{MayReplace}
use Rattle.rule_selections.specs.Telling.{terms_of}
use Rattle.rule_selections.proofs.Standing.{replaces_itself, copied}
use Rattle.rule_selections.proofs.settled.settled_under.Goals as goal

pub loop-name-init : goal.loop-name-init
loop-name-init c =
    let s = terms_of c.args.common.now in
    let fs = meant_fragments c.args.document.now.fragments in
    subst (MayReplace s fs) (sym (copied c.args.document.now.fragments.entries c.in_ok-instead.instead.entries c.in_ok-instead.ensures.cases)) (replaces_itself s fs)

pub loop-name-preserved : goal.loop-name-preserved
loop-name-preserved c = c.in_ok-settle.ensures c.loop-name.invariant

pub returns : goal.returns
returns c = c.loop-name.invariant
