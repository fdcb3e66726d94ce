use Rattle.std.proofs.Common.{◌++◌, codes, string_bytes, ap, ◌∙◌}
use Rattle.json.specs.Print.{quoted}
use Rattle.report_cli.specs.Answers.{unread_text}
use Rattle.report_cli.proofs.Texts.{unread_made, made_as}
use Rattle.report_cli.proofs.answers.unread_record.Goals as goal

pub returns : goal.returns
returns c =
    let kind = c.args.kind.now in
    let path = c.args.path.now in
    let reason = string_bytes c.in_ok-reason.reason in
    made_as c.format.result (codes "{\"" ++ (kind ++ (codes "\":" ++ (string_bytes c.in_ok-path.path ++ (codes ",\"read\":false,\"error\":" ++ (reason ++ codes "}\n"))))))
    (unread_text kind path c.args.reason.now)
    (ap (λ p. codes "{\"" ++ (kind ++ (codes "\":" ++ (p ++ (codes ",\"read\":false,\"error\":" ++ (reason ++ codes "}\n")))))) c.in_ok-path.ensures
    ∙ ap (λ r. codes "{\"" ++ (kind ++ (codes "\":" ++ (quoted path ++ (codes ",\"read\":false,\"error\":" ++ (r ++ codes "}\n")))))) c.in_ok-reason.ensures
    ∙ unread_made kind path c.args.reason.now)
    c.format.ensures.ok
