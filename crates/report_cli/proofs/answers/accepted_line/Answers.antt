use Rattle.std.proofs.Common.{◌++◌, codes, string_bytes, ap, ◌∙◌}
use Rattle.report_cli.specs.Answers.{accepted_text}
use Rattle.report_cli.proofs.Texts.{accepted_made, made_as}
use Rattle.report_cli.proofs.answers.accepted_line.Goals as goal

pub returns : goal.returns
returns c =
    let members = c.args.members.now in
    made_as c.format.result (codes "{\"id\":" ++ (c.args.id.now ++ (codes ",\"accepted\":true,\"written\":" ++ (string_bytes c.in_ok-written.written ++ (members ++ codes "}\n")))))
    (accepted_text c.args.id.now c.args.written.now members)
    (ap (λ written. codes "{\"id\":" ++ (c.args.id.now ++ (codes ",\"accepted\":true,\"written\":" ++ (written ++ (members ++ codes "}\n"))))) c.in_ok-written.ensures
    ∙ accepted_made c.args.id.now c.args.written.now members)
    c.format.ensures.ok
