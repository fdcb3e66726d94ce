use Rattle.std.proofs.Common.{take}
use Rattle.report_forms.specs.Noted.{others, AreRelated}
use Rattle.report_forms.proofs.noted.related.Given as goal

abbrev pub invariant-loop-one : goal.invariant-loop-one
invariant-loop-one l = AreRelated l.sources (others l.own (take l.one-index l.noted)) l.all.items
