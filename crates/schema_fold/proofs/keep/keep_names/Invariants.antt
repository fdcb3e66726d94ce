use Rattle.std.proofs.Common.{◌≡◌, ◌++◌, map, take}
use Rattle.schema_types.specs.in_components.Lists.{firsts, repeats}
use Rattle.schema_types.specs.in_components.Given.{component_name_tree, given_name}
use Rattle.schema_fold.specs.FaultView.{faults_of}
use Rattle.schema_fold.specs.Keeping.{name_fault}
use Rattle.schema_fold.proofs.keep.keep_names.Given as goal

abbrev pub invariant-loop-component : goal.invariant-loop-component
invariant-loop-component l = record {
  kept : map component_name_tree l.kept.keys ≡ firsts given_name (map component_name_tree (take l.component-index l.all));
  told : faults_of l.faults ≡ faults_of l.fn.faults ++ map (name_fault l.repeat l.type_name.text) (repeats given_name (map component_name_tree (take l.component-index l.all)));
}
