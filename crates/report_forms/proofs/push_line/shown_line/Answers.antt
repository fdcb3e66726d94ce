use Rattle.std.proofs.Common.{◌≡◌, ◌++◌, codes, string_bytes}
use Rattle.std.proofs.lemmas.Result.{IfOk-weaker}
use Rattle.std.proofs.lemmas.Str.{IsUtf8-string_bytes}
use Rattle.report_forms.specs.Shown.{HasOnlyLineFeeds}
use Rattle.report_forms.proofs.Clean.{clean-line}
use Rattle.report_forms.proofs.push_line.shown_line.Goals as goal

pub returns-clause-clean : goal.returns-clause-clean
returns-clause-clean c =
    let line = c.in_ok-line.line in
    IfOk-weaker c.format.result (λ made. string_bytes made ≡ string_bytes line ++ codes "\n") (λ made. HasOnlyLineFeeds (string_bytes made))
    (λ made e. clean-line (string_bytes line) (string_bytes made) (IsUtf8-string_bytes line) e c.in_ok-line.ensures.clean) c.format.ensures.ok
