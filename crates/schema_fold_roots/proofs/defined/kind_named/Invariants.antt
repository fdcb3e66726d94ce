use Rattle.std.proofs.Common.{◌≡◌, drop, map}
use Rattle.schema_fold.specs.NumberedDefinition.{definitions_of}
use Rattle.schema_fold.specs.ListedView.{listed_view}
use Rattle.schema_fold_roots.specs.KindNamed.{kind_named}
use Rattle.schema_fold_roots.proofs.defined.kind_named.Given as goal

abbrev pub invariant-loop-listed : goal.invariant-loop-listed
invariant-loop-listed l = kind_named l.name (definitions_of (map listed_view (drop l.listed-index l.list))) ≡ kind_named l.name (definitions_of (map listed_view l.list))
