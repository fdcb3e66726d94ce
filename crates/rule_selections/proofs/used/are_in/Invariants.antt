use Rattle.std.proofs.Common.{ℕ, List, map, take, Contains}
use Rattle.rule_reach.specs.NotedNames.{noted_names}
use Rattle.rule_selections.proofs.used.are_in.Given as goal

abbrev pub invariant-loop-name : goal.invariant-loop-name
invariant-loop-name l = (n : List ℕ) → Contains (map (λ k. k.text) (take l.name-index l.name-items)) n → Contains (noted_names l.set) n
