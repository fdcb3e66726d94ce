use Rattle.std.proofs.Common.{◌++◌, codes, decimal, ap, sym, ◌∙◌}
use Rattle.report_forms.specs.Forms.{position_text}
use Rattle.report_forms.proofs.Texts.{four, made_as}
use Rattle.report_forms.proofs.short_form.located.Goals as goal

pub returns-in-Some : goal.returns-in-Some
returns-in-Some c =
    let path = c.args.path.now in
    let line = decimal c.in-Some.start.line in
    let column = decimal c.in-Some.start.column in
    made_as c.format.result (path ++ (codes ":" ++ (line ++ (codes ":" ++ column)))) (path ++ position_text c.args.start)
    (ap (λ l. path ++ l) (four (codes ":") line (codes ":") column) ∙ ap (λ start. path ++ position_text start) (sym c.in-Some.is)) c.format.ensures.ok
