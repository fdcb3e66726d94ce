use Rattle.std.proofs.Common.{map, take}
use Rattle.schema_fold.specs.NumberedDefinition.{definitions_of}
use Rattle.schema_fold.specs.ListedView.{listed_view}
use Rattle.schema_fold_index.specs.Index.{IsIndexOf}
use Rattle.schema_fold_index.proofs.index.Index.file_rest.Given as goal

abbrev pub invariant-loop-position : goal.invariant-loop-position
invariant-loop-position l =
    IsIndexOf (take l.from (definitions_of (map listed_view l.list))) l.initial.self → IsIndexOf (take l.position (definitions_of (map listed_view l.list))) l.self
