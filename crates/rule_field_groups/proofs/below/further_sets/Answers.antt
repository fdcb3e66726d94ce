use Rattle.std.proofs.Common.{◌<◌, length, arith}
use Rattle.rule_field_groups.specs.Members.{meant_sets}
use Rattle.rule_field_groups.proofs.Sets.{none_numbered}
use Rattle.rule_field_groups.proofs.Under.{further_begun, further_step}
use Rattle.rule_field_groups.proofs.below.further_sets.Goals as goal

pub loop-field-init : goal.loop-field-init
loop-field-init c = record {
  further = further_begun c.args.sets.now (meant_sets c.args.sets.now c.args.others.now.nodes.items) c.new-found.result.nodes.items c.new-found.ensures.nodes;
  numbered = none_numbered c.args.sets.now c.new-found.result c.new-found.ensures.numbers c.new-found.ensures.nodes;
}

pub loop-field-preserved : goal.loop-field-preserved
loop-field-preserved c =
    let i = c.loop-field.field-index in
    let h : i < length c.args.fields.now = omega arith in
    record {
      further = further_step c.args.sets.now (meant_sets c.args.sets.now c.args.others.now.nodes.items) c.args.fields.now c.loop-field.found.nodes.items c.note_further.new.found.nodes.items i c.field-item.result h c.field-item.is c.in_ok-note_further.ensures.notes c.loop-field.invariant.further;
      numbered = c.in_ok-note_further.ensures.numbered;
    }
