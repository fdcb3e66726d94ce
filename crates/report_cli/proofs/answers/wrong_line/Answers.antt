use Rattle.std.proofs.Common.{◌≡◌, ◌++◌, codes, decimal, option_map, refl, sym, ap, ◌∙◌}
use Rattle.report_cli.specs.Answers.{begun_text, id_or_null, why_words, wrong_text}
use Rattle.report_cli.proofs.Texts.{wrong_made, shown_id, made_as}
use Rattle.report_cli.proofs.answers.wrong_line.Goals.{in-NotJson, in-NotUtf8, in-NoId, in-WrongId, in-NoDocument, in-WrongDocument, in-Both, in-WrongSchema, in-EmptySchema, in-NoSchema}
use Rattle.report_cli.proofs.answers.wrong_line.Goals as goal

pub returns : goal.returns
returns c =
    let words : c.match-why.why.now ≡ why_words c.args.why = elim c.match-why.branch [
      | in-NotJson w ↦ ap (λ t. t.now) w.why-is ∙ ap why_words (sym w.in-NotJson.is)
      | in-NotUtf8 w ↦ ap (λ t. t.now) w.why-is ∙ ap why_words (sym w.in-NotUtf8.is)
      | in-NoId w ↦ ap (λ t. t.now) w.why-is ∙ ap why_words (sym w.in-NoId.is)
      | in-WrongId w ↦ ap (λ t. t.now) w.why-is ∙ ap why_words (sym w.in-WrongId.is)
      | in-NoDocument w ↦ ap (λ t. t.now) w.why-is ∙ ap why_words (sym w.in-NoDocument.is)
      | in-WrongDocument w ↦ ap (λ t. t.now) w.why-is ∙ ap why_words (sym w.in-WrongDocument.is)
      | in-Both w ↦ ap (λ t. t.now) w.why-is ∙ ap why_words (sym w.in-Both.is)
      | in-WrongSchema w ↦ ap (λ t. t.now) w.why-is ∙ ap why_words (sym w.in-WrongSchema.is)
      | in-EmptySchema w ↦ ap (λ t. t.now) w.why-is ∙ ap why_words (sym w.in-EmptySchema.is)
      | in-NoSchema w ↦ ap (λ t. t.now) w.why-is ∙ ap why_words (sym w.in-NoSchema.is)
    ] in
    let id : c.unwrap_or-id.result.now ≡ id_or_null (option_map (λ text. text.now) c.args.id) = ap (λ t. t.now) c.unwrap_or-id.ensures ∙ shown_id c.args.id _ refl in
    let number = decimal c.args.number in
    made_as c.format.result
    (codes "{\"id\":" ++ (c.unwrap_or-id.result.now ++ (codes ",\"accepted\":false,\"line\":" ++ (number ++ (codes ",\"error\":\"" ++ (c.match-why.why.now ++ codes "\"}\n"))))))
    (wrong_text (option_map (λ text. text.now) c.args.id) c.args.number c.args.why)
    (wrong_made c.unwrap_or-id.result.now c.args.number c.match-why.why.now
    ∙ ap (λ i. begun_text i ++ codes "false,\"line\":" ++ number ++ codes ",\"error\":\"" ++ c.match-why.why.now ++ codes "\"}\n") id
    ∙ ap (λ w. begun_text (id_or_null (option_map (λ text. text.now) c.args.id)) ++ codes "false,\"line\":" ++ number ++ codes ",\"error\":\"" ++ w ++ codes "\"}\n") words)
    c.format.ensures.ok
