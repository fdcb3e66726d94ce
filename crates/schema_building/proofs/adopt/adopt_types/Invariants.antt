use Rattle.std.proofs.Common.{◌≡◌, ◌++◌, map, length}
use Rattle.schema_built_in.specs.in_fold.ListedView.{listed_view}
use Rattle.schema_building.specs.Settling.{unnumbered, empty_of}
use Rattle.schema_building.specs.Waiting.{orphan_kinds, left_kinds}
use Rattle.schema_building.proofs.adopt.adopt_types.Given as goal

abbrev pub invariant-loop-name : goal.invariant-loop-name
invariant-loop-name l = map listed_view l.list.items ++ map (λ k. unnumbered (empty_of k)) (left_kinds l.waiting) ≡ map listed_view l.fn.list.items ++ map (λ k. unnumbered (empty_of k)) (orphan_kinds l.index)

abbrev pub decreases-loop-name : goal.decreases-loop-name
decreases-loop-name l = length (left_kinds l.waiting)
