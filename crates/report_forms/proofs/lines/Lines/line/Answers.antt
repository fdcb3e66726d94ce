use Rattle.std.proofs.Common.{ℕ, List, subst, sym}
use Rattle.report_forms.specs.LineTexts.{IsNumberedStart}
use Rattle.report_forms.proofs.LineStarts.{boundary_at_start}
use Rattle.report_forms.proofs.lines.Lines.line.Goals as goal

pub range_from-requires : goal.range_from-requires
range_from-requires c =
    let start = subst (λ (t : List ℕ). IsNumberedStart t c.args.number c.in_ok-start.start) (sym c.text-text.ensures) c.in_ok-start.ensures.start in
    λ above. boundary_at_start c.text-text.result.now c.in_ok-start.start c.text-text.utf8 start.begins start.within
