use Rattle.std.proofs.Common.{◌≡◌, ◌++◌, codes, string_bytes}
use Rattle.std.proofs.lemmas.Result.{IfOk-weaker}
use Rattle.report_forms.specs.Forms.{IsOneLine}
use Rattle.report_forms.proofs.entry.Entry.json.Goals as goal

pub returns-clause-line : goal.returns-clause-line
returns-clause-line c =
    let object = string_bytes c.in_ok-object.object in
    IfOk-weaker c.format.result (λ text. string_bytes text ≡ object ++ codes "\n") (λ text. IsOneLine (string_bytes text))
    (λ text e. record { line = object; feed = e; plain = c.in_ok-object.ensures.plain }) c.format.ensures.ok
