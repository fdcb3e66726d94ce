use Rattle.std.proofs.Common.{◌<◌, length, subst, arith}
use Rattle.std.proofs.lemmas.List.{take_all}
use Rattle.rule_field_groups.specs.NodeWalk.{state_of, IsWalk}
use Rattle.rule_field_groups.proofs.Walking.{walk_begun, one_more, found_are_members, part_found, all_found}
use Rattle.rule_field_groups.proofs.node_walk.merged_list.Goals as goal

pub loop-node-init : goal.loop-node-init
loop-node-init c = walk_begun c.args.sets.now _ c.new.ensures.items c.new-2.ensures c.new-3.ensures.empty

pub loop-node-preserved : goal.loop-node-preserved
loop-node-preserved c =
    let i = c.loop-node.node-index in
    let h : i < length c.args.nodes.now = omega arith in
    one_more c.args.sets.now c.args.nodes.now i (state_of c.loop-node.walk) (state_of c.walk.new.self) h c.in_ok-walk.ensures c.loop-node.invariant

pub returns : goal.returns
returns c =
    let w = c.args.sets.now in
    let s = state_of c.loop-node.walk in
    let walk : IsWalk w c.args.nodes.now s = subst (λ l. IsWalk w l s) (take_all c.loop-node.node-index c.args.nodes.now c.loop-node-test.false) c.loop-node.invariant in
    record {
      whole = λ whole d same. all_found w c.requires.sets c.args.nodes.now s walk c.requires.starts d same whole;
      part = λ d same. part_found w c.requires.sets c.args.nodes.now s walk c.requires.starts d same;
      members = found_are_members w c.requires.sets c.args.nodes.now s walk;
    }
