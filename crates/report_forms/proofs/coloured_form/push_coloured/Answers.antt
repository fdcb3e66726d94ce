use Rattle.std.proofs.Common.{◌++◌, flat_map, string_bytes, ap, ◌∙◌, rules}
use Rattle.std.proofs.lemmas.Iterator.Splits.{YieldsList-from_lines}
use Rattle.std.proofs.lemmas.Iterator.Consumers.{YieldsList-end}
use Rattle.report_forms.specs.Colours.{coloured_line}
use Rattle.report_forms.proofs.coloured_form.push_coloured.Goals as goal

pub returns : goal.returns
returns c =
    let end = YieldsList-end (YieldsList-from_lines c.args.text.now (search rules)) c.loop-line.yielded _ c.loop-line.yielded_by _ _ c.in-None.is c.next.ensures.steps in
    c.loop-line.invariant ∙ ap (λ ls. string_bytes c.args.out.now ++ flat_map (coloured_line c.args.severity) ls) end.0
