use Rattle.std.proofs.Common.{◌≡◌, ◌++◌, ◌∷◌, []}
use Rattle.std.specs.Rc.{rc_str_bytes}
use Rattle.std.proofs.lemmas.Result.{on_ok_weaker}
use Rattle.verdict_definitions.specs.in_faults.DetailsView.{diagnostics_of}
use Rattle.verdict_definitions.specs.Says.{spent}
use Rattle.checker_calls.specs.TextsView.{texts_of, IsReadingOf}
use Rattle.checker_calls.proofs.TextsReading.{reading_of, before_next, spent_kept}
use Rattle.checker_calls.proofs.schema_texts.SchemaTexts.read_next.Goals as goal

pub read_numbered-requires : goal.read_numbered-requires
read_numbered-requires c = before_next c.args.self.now c.next.new.self c.in-Ok.file c.requires c.in-Ok.ensures.given c.in-Ok.ensures.goes_on c.in-Ok.ensures.not_spent

pub returns-in-Err-clause-reading : goal.returns-in-Err-clause-reading
returns-in-Err-clause-reading c =
    let old = c.args.self.now in
    let new = record old { files = c.next.new.self; unread = c.push.new.self } in
    let told : diagnostics_of c.push.new.self ≡ diagnostics_of old.unread ++ spent ∷ [] → IsReadingOf (texts_of old ++ (rc_str_bytes c.args.text.now) ∷ []) new =
    λ h. reading_of (texts_of old ++ (rc_str_bytes c.args.text.now) ∷ []) new old.files c.in-Err.ensures.unchanged (spent_kept old c.requires c.in-Err.ensures.spent (rc_str_bytes c.args.text.now) (diagnostics_of c.push.new.self) h) in
    on_ok_weaker c.push.result told c.push.ensures.added
