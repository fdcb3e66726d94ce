use Rattle.std.proofs.Common.{◌≡◌, ℕ, ◌<◌, false}
use Rattle.rule_cycle_search.specs.NodeSteps.{is_in}
use Rattle.rule_cycle_search.specs.Parts.{nowhere, IsParted}
use Rattle.rule_cycle_search.proofs.parts.find_parts.Given as goal

abbrev pub invariant-loop-node : goal.invariant-loop-node
invariant-loop-node l = IsParted l.graph l.parts.toward.items l.parts.from.items

abbrev pub invariant-loop-node-2 : goal.invariant-loop-node-2
invariant-loop-node-2 l = record {
  parted : IsParted l.graph l.parts.toward.items l.parts.from.items;
  settled : (n : ℕ) → n < l.node → is_in l.parts.from.items (nowhere l.graph) n ≡ false;
}
