use Rattle.std.proofs.Common.{take}
use Rattle.rule_field_groups.specs.Members.{fields_of, meant_sets}
use Rattle.rule_field_groups.specs.Under.{AreFurther, AreNumbered}
use Rattle.rule_field_groups.proofs.below.further_sets.Given as goal

abbrev pub invariant-loop-field : goal.invariant-loop-field
invariant-loop-field l = record {
  further : AreFurther (fields_of (take l.field-index l.fields)) (meant_sets l.sets l.others.nodes.items) (meant_sets l.sets l.found.nodes.items);
  numbered : AreNumbered l.sets l.found;
}
