use Rattle.std.proofs.Common.{◌<◌, length, arith}
use Rattle.rule_field_groups.proofs.Sets.{sets_begun, sets_step, none_numbered}
use Rattle.rule_field_groups.proofs.below.sets_of.Goals as goal

pub loop-field-init : goal.loop-field-init
loop-field-init c = record {
  sets = sets_begun c.args.sets.now c.new-found.result.nodes.items c.new-found.ensures.nodes;
  numbered = none_numbered c.args.sets.now c.new-found.result c.new-found.ensures.numbers c.new-found.ensures.nodes;
}

pub loop-field-preserved : goal.loop-field-preserved
loop-field-preserved c =
    let i = c.loop-field.field-index in
    let h : i < length c.args.fields.now = omega arith in
    record {
      sets = sets_step c.args.sets.now c.args.fields.now c.loop-field.found.nodes.items c.note_set.new.found.nodes.items i c.field-item.result h c.field-item.is c.in_ok-note_set.ensures.notes c.loop-field.invariant.sets;
      numbered = c.in_ok-note_set.ensures.numbered;
    }
