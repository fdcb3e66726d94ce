use Rattle.std.proofs.Common.{take}
use Rattle.rule_field_sets.specs.Nodes.{AreSets}
use Rattle.rule_field_sets.specs.Added.{OnlyNumbers, PassesFields}
use Rattle.rule_field_sets.proofs.field_sets.FieldSets.add_each.Given as goal

abbrev pub invariant-loop-field : goal.invariant-loop-field
invariant-loop-field l = record {
  sets : AreSets l.self;
  same : OnlyNumbers l.fn.self l.self;
  added : PassesFields l.fn.self l.fn.fields (take l.field-index l.found) l.self l.fields;
}
