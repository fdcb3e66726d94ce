use Rattle.std.proofs.Common.{List, false, codes, sym, subst, ◌∙◌}
use Rattle.graphql_checked_c.specs.declared.held.HeldText.{HeldText}
use Rattle.graphql_checked_c.specs.HeldTexts.{AreHeld, IsHeldFault}
use Rattle.graphql_checked_c.specs.CallResults.{TellsRefusal}
use Rattle.graphql_checked_c.proofs.Answers.{texts_not_utf8, texts_refused}
use Rattle.graphql_checked_c.proofs.opening.kept_of_texts.Goals as goal

pub returns-in-Err-NotUtf8-clause-answer : goal.returns-in-Err-NotUtf8-clause-answer
returns-in-Err-NotUtf8-clause-answer c =
    texts_not_utf8 c.args.json c.args.nesting c.args.names.now c.args.name_ends.now c.args.texts.now c.args.ends.now c.bare-in-Err-NotUtf8.result.status c.bare-in-Err-NotUtf8.result.bytes.items
    (subst (IsHeldFault c.args.names.now c.args.name_ends.now c.args.texts.now c.args.ends.now) c.in-Err-NotUtf8.field-0-is c.in-Err-NotUtf8.ensures.fault)
    c.bare-in-Err-NotUtf8.ensures.status c.bare-in-Err-NotUtf8.ensures.bytes

pub returns-in-Err-clause-answer : goal.returns-in-Err-clause-answer
returns-in-Err-clause-answer c =
    texts_refused c.args.json c.args.nesting c.args.names.now c.args.name_ends.now c.args.texts.now c.args.ends.now c.refusal_answer.result.status c.refusal_answer.result.bytes.items
    c.deref.result.now
    (subst (AreHeld c.args.names.now c.args.name_ends.now c.args.texts.now c.args.ends.now) (sym c.deref.ensures.value) c.in-Ok.ensures.texts)
    c.in-Err.refusal c.in-Err.ensures.refused c.in-Err.ensures.complete
    (subst (λ (held : List HeldText). TellsRefusal c.args.json false held (codes "schema") (codes "") c.in-Err.refusal c.refusal_answer.result.status c.refusal_answer.result.bytes.items) (c.deref-in-Err.ensures.value ∙ sym c.deref.ensures.value) c.refusal_answer.ensures)
