use Rattle.std.proofs.Common.{◌≡◌, ◌+◌, ◌++◌, ◌∷◌, ℕ, List, []}
use Rattle.std.specs.Rc.{rc_str_bytes}
use Rattle.std.proofs.lemmas.Result.{on_ok_weaker}
use Rattle.tree_definitions.specs.DefinitionTree.{document_tree}
use Rattle.tree_definitions.specs.Sources.{sources_of}
use Rattle.verdict_definitions.specs.in_read.Reads.{NestingBound}
use Rattle.verdict_definitions.specs.in_read.ReadFaults.{unnamed_source}
use Rattle.verdict_definitions.specs.in_faults.DetailsView.{diagnostics_of}
use Rattle.verdict_definitions.specs.Texts.{ReadsText}
use Rattle.checker_calls.specs.Added.{IsToldAfter}
use Rattle.checker_calls.specs.TextsView.{texts_of, IsReadingOf}
use Rattle.checker_calls.proofs.TextsReading.{reading_of, unread_kept}
use Rattle.checker_calls.proofs.schema_texts.SchemaTexts.read_numbered.Goals as goal

pub returns-in-Ok-clause-reading : goal.returns-in-Ok-clause-reading
returns-in-Ok-clause-reading c =
    let kept : ((text : List ℕ) → ReadsText c.args.file.0 text (document_tree c.in-Ok.document) → (NestingBound c.args.self.now.nesting text → ⊥)
    → sources_of c.in-Ok.document ≡ (c.args.file.0, unnamed_source text) ∷ [] → IsReadingOf (texts_of c.args.self.now ++ text ∷ []) c.keep.new.self)
    → IsReadingOf (texts_of c.args.self.now ++ (rc_str_bytes c.args.text.now) ∷ []) c.keep.new.self =
    λ h. h (rc_str_bytes c.args.text.now) c.in-Ok.ensures.tree c.in-Ok.ensures.within c.in-Ok.ensures.sources in
    on_ok_weaker c.keep.result kept c.keep.ensures.reading

pub returns-in-Err-clause-reading : goal.returns-in-Err-clause-reading
returns-in-Err-clause-reading c =
    let old = c.args.self.now in
    let told : IsToldAfter c.in-Err.unread (diagnostics_of old.unread) (diagnostics_of c.tell.new.list) → IsReadingOf (texts_of old ++ (rc_str_bytes c.args.text.now) ∷ []) (record old { unread = c.tell.new.list }) =
    λ h. reading_of (texts_of old ++ (rc_str_bytes c.args.text.now) ∷ []) (record old { unread = c.tell.new.list }) (c.args.file.0 + 1) c.requires.number
    (unread_kept old c.args.file c.requires (rc_str_bytes c.args.text.now) c.in-Err.unread c.in-Err.ensures.unread (diagnostics_of c.tell.new.list) h) in
    on_ok_weaker c.tell.result told c.tell.ensures
