use Rattle.std.proofs.Common.{[]}
use Rattle.rule_field_sets.specs.Numbered.{tables_of, nodes_of}
use Rattle.rule_field_sets.specs.Nodes.{set_nodes}
use Rattle.rule_field_sets.proofs.Passing.{none_passed}
use Rattle.rule_field_sets.proofs.field_sets.FieldSets.fields_of.Goals as goal

pub returns : goal.returns
returns c =
    let w = c.args.self.now in
    record {
      sets = c.add_each.ensures.sets;
      same = c.add_each.ensures.same;
      added = c.in_ok-add_each.ensures.added []
          (none_passed (tables_of w.numbers) (nodes_of w.numbers) w.begun (set_nodes w) c.new-2.result.items c.new.result.items c.requires.fresh c.new-2.ensures.items c.new.ensures.items);
    }
