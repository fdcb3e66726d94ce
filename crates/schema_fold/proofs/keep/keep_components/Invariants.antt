use Rattle.std.proofs.Common.{◌≡◌, ◌++◌, map, take}
use Rattle.schema_types.specs.in_components.Lists.{repeats}
use Rattle.schema_types.specs.in_components.Names.{entries_of}
use Rattle.schema_types.specs.in_components.Given.{component_tree}
use Rattle.schema_types.specs.TypeView.{name_text}
use Rattle.schema_fold.specs.Components.{keyed_firsts}
use Rattle.schema_fold.specs.FaultView.{faults_of}
use Rattle.schema_fold.specs.PartsView.{itself, given_contents}
use Rattle.schema_fold.specs.Keeping.{content_key, component_fault}
use Rattle.schema_fold.proofs.keep.keep_components.Given as goal

abbrev pub invariant-loop-component : goal.invariant-loop-component
invariant-loop-component g l = record {
  kept : entries_of name_text (component_tree itself) l.kept ≡ keyed_firsts (content_key g.T.Keyed.key_of) (given_contents (take l.component-index l.all));
  told : faults_of l.faults ≡ faults_of l.fn.faults ++ map (component_fault g.T.Keyed.key_of l.repeat l.type_name.text) (repeats (content_key g.T.Keyed.key_of) (given_contents (take l.component-index l.all)));
}
