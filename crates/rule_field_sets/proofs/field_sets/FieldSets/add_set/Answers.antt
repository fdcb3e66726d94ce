use Rattle.rule_field_sets.proofs.Kept.{sets_grow_both, nodes_sets, starts_still}
use Rattle.rule_field_sets.proofs.field_sets.FieldSets.add_set.Goals as goal

pub returns : goal.returns
returns c =
    let a = c.args.self.now in
    let b = c.add_fragments.new.self in
    let w = c.add_nodes.new.self in
    record {
      sets = c.add_nodes.ensures.sets;
      grown = sets_grow_both a b w c.add_fragments.ensures.grown (nodes_sets b w c.add_nodes.ensures.grown);
      starts = starts_still c.add_nodes.result b w c.add_nodes.ensures.grown c.in_ok-add_fragments.ensures.starts;
      node = c.add_nodes.ensures.node;
    }
