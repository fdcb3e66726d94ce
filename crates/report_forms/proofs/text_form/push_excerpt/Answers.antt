use Rattle.std.proofs.Common.{string_bytes}
use Rattle.report_forms.specs.Shown.{HasOnlyLineFeeds}
use Rattle.report_forms.proofs.Clean.{clean-then}
use Rattle.report_forms.proofs.text_form.push_excerpt.Goals as goal

pub returns-clause-clean : goal.returns-clause-clean
returns-clause-clean c = clean-then (HasOnlyLineFeeds (string_bytes c.push_line-2.new.out)) c.push_line-2.result c.in_ok-push_line.ensures.clean c.push_line-2.ensures.clean
