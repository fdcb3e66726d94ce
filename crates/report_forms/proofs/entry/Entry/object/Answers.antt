use Rattle.std.proofs.Common.{◌++◌, string_bytes, ap, ◌∙◌}
use Rattle.report_forms.specs.Objects.{object}
use Rattle.report_forms.proofs.OneLine.{one_line-same, one_line-object}
use Rattle.report_forms.proofs.entry.Entry.object.Goals as goal

pub returns-clause-plain : goal.returns-clause-plain
returns-clause-plain c =
    let e = c.args.self.now in
    one_line-same (string_bytes c.push_object.new.out) (object e) (c.in_ok-push_object.ensures ∙ ap (λ l. l ++ object e) c.new-out.ensures.bytes) (one_line-object e)
