use Rattle.std.proofs.Common.{◌≡◌, ◌∷◌, map, take, None}
use Rattle.std.specs.List.{flat_map}
use Rattle.schema_fold.specs.Components.{extension_here}
use Rattle.schema_fold.specs.PartsView.{parts_view}
use Rattle.schema_fold.specs.ListedView.{listed_view}
use Rattle.schema_fold.specs.Collected.{collected, collected_from}
use Rattle.schema_fold.proofs.gather.collect_type.Given as goal

abbrev pub invariant-loop-listed : goal.invariant-loop-listed
invariant-loop-listed l = collected l.all ≡ collected_from (record { extension = None; it = parts_view l.defined } ∷ flat_map (extension_here (parts_view l.defined)) (map listed_view (take l.listed-index l.list)))
