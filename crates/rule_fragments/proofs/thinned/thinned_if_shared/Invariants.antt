use Rattle.rule_reach.specs.Reach.{meant_fragments}
use Rattle.rule_fragments.specs.Thinned.{MayReplace}
use Rattle.rule_fragments.proofs.thinned.thinned_if_shared.Given as goal

abbrev pub invariant-loop-name : goal.invariant-loop-name
invariant-loop-name l = MayReplace l.deferred (meant_fragments l.document.fragments) (meant_fragments l.instead)
