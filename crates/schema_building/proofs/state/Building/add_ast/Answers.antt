use Rattle.std.proofs.Common.{true, refl}
use Rattle.schema_built_in.specs.in_definitions.DefinitionTree.{document_tree}
use Rattle.schema_building.specs.KeptView.{definitions, first_number}
use Rattle.schema_building.specs.SettingsView.{settings_view}
use Rattle.schema_building.specs.SourcesView.{sources_view}
use Rattle.schema_building.proofs.Keeping.{from_kept, to_kept, kept_added, added_definitions, same_first, refused_is}
use Rattle.schema_building.proofs.state.Building.add_ast.Goals as goal

pub invariant_of-self : goal.invariant_of-self
invariant_of-self c =
    let old = c.args.self.now in
    let new = c.add_document.new in
    record {
      kept = λ running. to_kept new.texts
          (kept_added old.texts new.texts (document_tree c.args.document.now) (from_kept old.texts (old.kept running)) c.in-Ok.ensures.texts c.in-Ok.ensures.filed);
    }

pub returns-in-Ok-clause-added : goal.returns-in-Ok-clause-added
returns-in-Ok-clause-added c =
    let old = c.args.self.now in
    let new = c.add_document.new in
    let kept = from_kept old.texts (old.kept c.if-self.false) in
    let more = document_tree c.args.document.now in
    λ i. record {
      first = same_first old.texts new.texts more kept c.in-Ok.ensures.texts c.in-Ok.ensures.filed i;
      texts = added_definitions old.texts new.texts more kept c.in-Ok.ensures.texts c.in-Ok.ensures.filed i;
      sources = c.in-Ok.ensures.sources i;
      settings = settings_view old.settings;
      failed = old.failed;
    }

pub returns-in-Err-clause-refused : goal.returns-in-Err-clause-refused
returns-in-Err-clause-refused c =
    let old = c.args.self.now in
    let new = c.add_document.new in
    refused_is old (record { first = first_number new.texts; texts = definitions new.texts; sources = sources_view new.sources; settings = settings_view old.settings; failed = true })
    (document_tree c.args.document.now) c.in-Err.refusal c.if-self.false refl (from_kept old.texts (old.kept c.if-self.false)) c.in-Err.ensures.refused
