use Rattle.std.proofs.Common.{◌≡◌, ◌++◌, codes, decimal, string_bytes, ap, ◌∙◌, rules}
use Rattle.report_cli.specs.Answers.{count_member, summary_text}
use Rattle.report_cli.specs.Counts.{counted_at}
use Rattle.report_cli.proofs.Texts.{summary_made, made_as}
use Rattle.report_cli.proofs.answers.summary_record.Goals as goal

pub returns : goal.returns
returns c =
    let t = c.args.tally in
    let warnings = string_bytes c.in_ok-warnings.warnings in
    let is : warnings ≡ count_member (counted_at t.lints t.warnings) = search rules in
    made_as c.format.result
    (codes "{\"summary\":{\"documents\":" ++ (decimal t.documents ++ (codes ",\"refused\":" ++ (decimal t.refused ++ (codes ",\"unread\":"
    ++ (decimal t.unread ++ (codes ",\"faults\":" ++ (decimal t.faults ++ (warnings ++ codes "}}\n")))))))))
    (summary_text t)
    (summary_made t warnings
    ∙ ap (λ w. codes "{\"summary\":{\"documents\":" ++ decimal t.documents ++ codes ",\"refused\":" ++ decimal t.refused ++ codes ",\"unread\":" ++ decimal t.unread
    ++ codes ",\"faults\":" ++ decimal t.faults ++ w ++ codes "}}\n") is)
    c.format.ensures.ok
