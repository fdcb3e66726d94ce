use Rattle.std.proofs.Common.{map, take}
use Rattle.schema_fold.specs.NumberedDefinition.{directives_in, definitions_of}
use Rattle.schema_fold.specs.ListedView.{listed_view}
use Rattle.schema_fold_roots.specs.DirectiveFold.{Chooses}
use Rattle.schema_fold_roots.specs.DirectivesView.{entries_view}
use Rattle.schema_fold_roots.proofs.directives.choose_all.Given as goal

abbrev pub invariant-loop-listed : goal.invariant-loop-listed
invariant-loop-listed l = Chooses (entries_view l.own) (directives_in (definitions_of (map listed_view (take l.listed-index l.list)))) (entries_view l.fn.chosen) (entries_view l.chosen)
