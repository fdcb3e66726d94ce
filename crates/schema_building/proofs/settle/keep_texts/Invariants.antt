use Rattle.std.proofs.Common.{◌≡◌, ◌++◌, map, take}
use Rattle.std.specs.List.{filter}
use Rattle.schema_built_in.specs.in_fold.ListedView.{listed_view}
use Rattle.schema_building.specs.Settling.{is_kept}
use Rattle.schema_building.proofs.settle.keep_texts.Given as goal

abbrev pub invariant-loop-listed : goal.invariant-loop-listed
invariant-loop-listed l = map listed_view l.list.items ≡ map listed_view l.fn.list.items ++ filter (is_kept l.ignores) (map listed_view (take l.listed-index l.texts))
