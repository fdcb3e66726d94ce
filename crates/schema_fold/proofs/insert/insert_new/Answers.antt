use Rattle.std.proofs.Common.{ap, ◌∙◌}
use Rattle.indexmap.specs.IndexMap.{insert_entry}
use Rattle.indexmap.proofs.CallerLemmas.{insert_entry-new}
use Rattle.schema_types.specs.in_components.Names.{same_text}
use Rattle.schema_types.specs.TypeView.{name_text}
use Rattle.schema_fold.proofs.insert.insert_new.Goals as goal

pub returns : goal.returns
returns g c =
    let old = c.args.map.now in
    c.in_ok-insert.ensures.entries ∙ ap (λ n. insert_entry (same_text name_text) old.entries n c.args.value) c.in_ok-name.ensures.same ∙ insert_entry-new (same_text name_text) old c.args.name.now c.args.value c.requires
