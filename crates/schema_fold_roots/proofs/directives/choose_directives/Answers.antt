use Rattle.std.proofs.Common.{[], map, ap}
use Rattle.schema_fold.specs.NumberedDefinition.{directives_in, definitions_of}
use Rattle.schema_fold.specs.ListedView.{listed_view}
use Rattle.schema_fold_roots.proofs.Choosing.{entry_view}
use Rattle.schema_fold_roots.proofs.directives.choose_directives.Goals as goal

pub returns : goal.returns
returns c =
    c.in_ok-choose_all-2.ensures (directives_in (definitions_of (map listed_view c.args.built_in.now)))
    (c.in_ok-choose_all.ensures [] (ap (map entry_view) c.new-chosen.ensures.empty))
