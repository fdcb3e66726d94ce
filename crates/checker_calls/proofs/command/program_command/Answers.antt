-- Each argument is added with its rule, since none is global.
use Rattle.std.proofs.Common.{◌∙◌, ◌≡◌, ap₂, codes, refl, rules}
use Rattle.std.proofs.lemmas.Result.{IfOk-weaker}
use Rattle.clap.specs.Words.{app_of, new_app, rule_of, with_rule}
use Rattle.checker_calls.specs.Program.{layout_rule, nesting_rule, document_rule, schemas_rule}
use Rattle.checker_calls.proofs.Arguments.{local_arg}
use Rattle.checker_calls.proofs.command.program_command.Goals as goal

pub returns : goal.returns
returns c =
    let names = c.layout_option.ensures.0 in
    let layout_is : rule_of c.layout_option.result ≡ layout_rule names = c.layout_option.ensures.2 in
    let begun : app_of c.about.result ≡ new_app (codes "graphql-checked") = search rules in
    let one = c.in_ok-arg.ensures.shape (local_arg c.layout_option.result (layout_rule names) layout_is refl) ∙ ap₂ with_rule begun layout_is in
    let two = c.in_ok-arg-2.ensures.shape (local_arg c.nesting_option.result nesting_rule c.nesting_option.ensures refl) ∙ ap₂ with_rule one c.nesting_option.ensures in
    let three = c.in_ok-arg-3.ensures.shape (local_arg c.document_argument.result document_rule c.document_argument.ensures refl) ∙ ap₂ with_rule two c.document_argument.ensures in
    IfOk-weaker c.arg-4.result _ _ (λ made added. (
      names,
      c.layout_option.ensures.1,
      added.shape (local_arg c.schemas_argument.result schemas_rule c.schemas_argument.ensures refl) ∙ ap₂ with_rule three c.schemas_argument.ensures,
    )) c.arg-4.ensures
