use Rattle.std.proofs.Common.{◌≡◌, ℕ, Some, slice_get, take}
use Rattle.std.specs.List.{AllZip}
use Rattle.rule_field_sets.specs.Nodes.{fragment_nodes}
use Rattle.rule_field_groups.proofs.nodes.starts_of.Given as goal

abbrev pub invariant-loop-fragment : goal.invariant-loop-fragment
invariant-loop-fragment l = AllZip (λ (p n : ℕ). slice_get (fragment_nodes l.sets) p ≡ Some n) (take l.fragment-index l.fragments) l.starts.items
