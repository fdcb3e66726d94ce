use Rattle.std.proofs.Common.{◌≡◌, ◌∷◌, map, take}
use Rattle.std.specs.List.{flat_map}
use Rattle.schema_fold_index.specs.in_fold.ListedView.{listed_view}
use Rattle.schema_fold_index.specs.Index.{listed_at}
use Rattle.schema_fold_types.proofs.extensions.gather.Given as goal

abbrev pub invariant-loop-position : goal.invariant-loop-position
invariant-loop-position l = map listed_view l.gathered.items ≡ flat_map (listed_at (map listed_view l.texts)) (l.filed.first ∷ take l.position-index l.filed.others.items)
