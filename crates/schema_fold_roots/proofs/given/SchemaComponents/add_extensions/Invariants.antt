use Rattle.std.proofs.Common.{map, take}
use Rattle.std.specs.List.{flat_map}
use Rattle.schema_fold.specs.SchemaFold.{extends_schema}
use Rattle.schema_fold.specs.ListedView.{listed_view}
use Rattle.schema_fold_roots.specs.RootFold.{CollectsParts}
use Rattle.schema_fold_roots.specs.RootsView.{all_of_schema}
use Rattle.schema_fold_roots.proofs.given.SchemaComponents.add_extensions.Given as goal

abbrev pub invariant-loop-listed : goal.invariant-loop-listed
invariant-loop-listed l = CollectsParts (all_of_schema l.fn.self) (flat_map extends_schema (map listed_view (take l.listed-index l.list))) (all_of_schema l.self)
