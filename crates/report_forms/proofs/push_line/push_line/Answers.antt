use Rattle.std.proofs.Common.{◌≡◌, string_bytes, rules}
use Rattle.std.proofs.lemmas.Str.{IsUtf8-string_bytes}
use Rattle.report_forms.proofs.Clean.{clean-pushed}
use Rattle.report_forms.proofs.push_line.push_line.Goals as goal

pub returns-clause-clean : goal.returns-clause-clean
returns-clause-clean c =
    let line : c.deref.result.now ≡ string_bytes c.in_ok-line.line = search rules in
    clean-pushed c.push_str.result (string_bytes c.args.out.now) (string_bytes c.in_ok-line.line) c.deref.result.now (string_bytes c.push_str.new.self)
    (IsUtf8-string_bytes c.args.out.now) line c.in_ok-line.ensures.clean c.push_str.ensures.bytes
