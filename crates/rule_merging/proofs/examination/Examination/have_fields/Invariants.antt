use Rattle.std.proofs.Common.{false, map, take}
use Rattle.list_interner.specs.NumberRows.{rows_of}
use Rattle.rule_field_groups.specs.Members.{meant_sets}
use Rattle.rule_merging.specs.Examined.{document_of, sets_of, HaveFields}
use Rattle.rule_merging.proofs.examination.Examination.have_fields.Given as goal

abbrev pub invariant-loop-place : goal.invariant-loop-place
invariant-loop-place l = HaveFields (document_of l.self) false (map (meant_sets (sets_of l.self)) (take l.place (rows_of l.level)))
