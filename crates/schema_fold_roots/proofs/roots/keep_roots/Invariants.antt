use Rattle.std.proofs.Common.{◌≡◌, ◌++◌, take}
use Rattle.schema_fold.specs.FaultView.{faults_of}
use Rattle.schema_fold_roots.specs.ListFold.{root_faults}
use Rattle.schema_fold_roots.specs.RootFold.{first_roots}
use Rattle.schema_fold_roots.specs.RootsView.{root_names, roots_given_by}
use Rattle.schema_fold_roots.proofs.roots.keep_roots.Given as goal

abbrev pub invariant-loop-root : goal.invariant-loop-root
invariant-loop-root l = record {
  kept : root_names l.kept ≡ first_roots (roots_given_by (take l.root-index l.all));
  told : faults_of l.faults ≡ faults_of l.fn.faults ++ root_faults (roots_given_by (take l.root-index l.all));
}
