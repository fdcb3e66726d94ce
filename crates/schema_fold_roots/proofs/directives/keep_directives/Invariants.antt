use Rattle.std.proofs.Common.{◌≡◌, ◌++◌, map, take}
use Rattle.schema_fold.specs.Components.{keyed_firsts}
use Rattle.schema_fold.specs.FaultView.{faults_of}
use Rattle.schema_fold.specs.NumberedDefinition.{directive_name, directives_in, definitions_of}
use Rattle.schema_fold.specs.ListedView.{listed_view}
use Rattle.schema_fold_roots.specs.DirectiveFold.{directive_faults}
use Rattle.schema_fold_roots.specs.DirectivesView.{entries_view}
use Rattle.schema_fold_roots.proofs.directives.keep_directives.Given as goal

abbrev pub invariant-loop-listed : goal.invariant-loop-listed
invariant-loop-listed l = record {
  kept : entries_view l.kept ≡ keyed_firsts directive_name (directives_in (definitions_of (map listed_view (take l.listed-index l.list))));
  told : faults_of l.faults ≡ faults_of l.fn.faults ++ directive_faults (directives_in (definitions_of (map listed_view (take l.listed-index l.list))));
}
