use Rattle.std.proofs.Common.{◌≡◌, map, take}
use Rattle.rule_reach.specs.Reach.{meant_fragments}
use Rattle.rule_reach.specs.Gathered.{lent_fragments, fragments_under}
use Rattle.rule_reach.proofs.reaching.fragments_named.Given as goal

abbrev pub invariant-loop-name : goal.invariant-loop-name
invariant-loop-name l = lent_fragments l.named ≡ fragments_under (meant_fragments l.fragments) (map (λ k. k.now.text) (take l.name-index l.name-items))
