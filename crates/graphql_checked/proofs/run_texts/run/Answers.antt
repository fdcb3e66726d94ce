use Rattle.std.proofs.Common.{map, ap, sym, subst}
use Rattle.std.specs.Rc.{rc_str_bytes}
use Rattle.std.specs.Prelude.{IsUtf8}
use Rattle.std.specs.List.{All}
use Rattle.std.proofs.lemmas.Result.{err_from_is_err_and}
use Rattle.std.proofs.lemmas.Str.{IsUtf8-string_bytes}
use Rattle.checker_calls.specs.Layouts.{prefix_of}
use Rattle.checker_calls.specs.Parts.{parts_bytes}
use Rattle.checker_calls.specs.Devices.{AreTextsOf, IsTextOf}
use Rattle.graphql_checked.specs.Verdicts.{first_terms}
use Rattle.graphql_checked.proofs.Completing.{reader_fault, certain_fault, certain_outcome, certain_here, all_utf8, put_due, none_failed}
use Rattle.graphql_checked.proofs.run_texts.run.Goals as goal

pub returns-in_err-texts-clause-complete : goal.returns-in_err-texts-clause-complete
returns-in_err-texts-clause-complete g c =
    let p = err_from_is_err_and c.from_residual.result c.from_residual.ensures.1 in
    rw (p.1, p.2) (λ tell. reader_fault g.R.Read.remaining c.args.schemas.now c.read_texts.new.devices tell.texts c.in_err-texts.field-0.0 c.in_err-texts.ensures.fault tell.schemas_tell)

pub returns-in_err-outcome-clause-complete : goal.returns-in_err-outcome-clause-complete
returns-in_err-outcome-clause-complete g c =
    let p = err_from_is_err_and c.from_residual-in_err-outcome.result c.from_residual-in_err-outcome.ensures.1 in
    rw (p.1, p.2) (λ tell. certain_fault c.in_err-outcome.field-0.0 c.in_err-outcome.ensures.answer)

pub returns-in_err-put-clause-fault : goal.returns-in_err-put-clause-fault
returns-in_err-put-clause-fault g c =
    let p = err_from_is_err_and c.from_residual-in_err-put.result c.from_residual-in_err-put.ensures.1 in
    let are = c.in_ok-texts.ensures.texts in
    let is = subst (IsTextOf g.D.Read.remaining c.args.document.now) (sym c.deref.ensures) c.in-Ok.ensures.text in
    let utf8 = all_utf8 c.in_ok-texts.texts.items in
    let text_utf8 = subst IsUtf8 (sym c.deref.ensures) (IsUtf8-string_bytes c.in-Ok.text) in
    rw (p.1, p.2) (put_due g.R.Read.remaining g.D.Read.remaining g.W.Write.contents (prefix_of c.args.layout) (first_terms c.args.limits.nesting) c.args.schemas.now _ c.args.document.now _ _ _ _ _ c.in_ok-outcome.outcome _ _
    are is utf8 text_utf8 (c.in_ok-texts.ensures.end, c.in-Ok.ensures.end) c.in_ok-outcome.ensures.answer.1 c.in_err-put.ensures.fault)

pub put-requires : goal.put-requires
put-requires g c = c.in_ok-outcome.ensures.answer.0

pub returns-clause-complete : goal.returns-clause-complete
returns-clause-complete g c =
    let texts = map rc_str_bytes c.in_ok-texts.texts.items in
    let are = c.in_ok-texts.ensures.texts in
    let is = subst (IsTextOf g.D.Read.remaining c.args.document.now) (sym c.deref.ensures) c.in-Ok.ensures.text in
    λ tell. certain_outcome c.in_ok-outcome.outcome c.in_ok-outcome.bytes (c.in_ok-outcome.ensures.complete
    (certain_here g.R.Read.remaining g.D.Read.remaining (first_terms c.args.limits.nesting) c.args.schemas.now c.args.document.now texts c.deref.result.now are is tell))

pub returns-clause-schemas_running : goal.returns-clause-schemas_running
returns-clause-schemas_running g c = none_failed c.args.schemas.now c.read_texts.new.devices c.in_ok-texts.ensures.running c.requires.schemas_run

pub returns-clause-answers : goal.returns-clause-answers
returns-clause-answers g c = record {
  texts = map rc_str_bytes c.in_ok-texts.texts.items;
  text = c.deref.result.now;
  bytes = parts_bytes c.in_ok-outcome.bytes;
  schemas_are = c.in_ok-texts.ensures.texts;
  document_is = subst (IsTextOf g.D.Read.remaining c.args.document.now) (sym c.deref.ensures) c.in-Ok.ensures.text;
  schemas_are_utf8 = all_utf8 c.in_ok-texts.texts.items;
  document_is_utf8 = subst IsUtf8 (sym c.deref.ensures) (IsUtf8-string_bytes c.in-Ok.text);
  answers = c.in_ok-outcome.ensures.answer.1;
  put = c.in_ok-put.ensures.whole;
}
