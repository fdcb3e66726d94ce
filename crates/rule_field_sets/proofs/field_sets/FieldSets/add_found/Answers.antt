use Rattle.std.proofs.Common.{◌≡◌, ◌∙◌, ◌++◌, ◌∷◌, [], ap, arith}
use Rattle.std.specs.Prelude.{option_to_list}
use Rattle.std.proofs.lemmas.List.{nil_from_length}
use Rattle.rule_field_sets.specs.Nodes.{set_nodes}
use Rattle.rule_field_sets.proofs.Kept.{nodes_same, nodes_on}
use Rattle.rule_field_sets.proofs.Putting.{all_left, ready_now, one_put, fewer_left, first_put}
use Rattle.rule_field_sets.proofs.field_sets.FieldSets.add_found.Goals as goal

pub loop-next-init : goal.loop-next-init
loop-next-init c = record {
  sets = c.requires.sets;
  grown = nodes_same c.args.self.now;
  left = all_left (set_nodes c.args.self.now) c.args.last c.args.found.now.items c.requires.last;
}

pub add_node-requires : goal.add_node-requires
add_node-requires c =
    let popped : c.loop-next.found.items ≡ c.pop.new.self.items ++ c.in-Some.next ∷ [] = c.pop.ensures.items ∙ ap (λ o. c.pop.new.self.items ++ option_to_list o) c.in-Some.is in
    record {
      sets = c.loop-next.invariant.sets;
      ready = ready_now (set_nodes c.loop-next.self) c.args.last c.args.found.now.items c.loop-next.found.items c.pop.new.self.items c.in-Some.next popped c.loop-next.invariant.left c.requires.found.0 c.requires.found.1;
    }

pub loop-next-preserved : goal.loop-next-preserved
loop-next-preserved c =
    let popped : c.loop-next.found.items ≡ c.pop.new.self.items ++ c.in-Some.next ∷ [] = c.pop.ensures.items ∙ ap (λ o. c.pop.new.self.items ++ option_to_list o) c.in-Some.is in
    let n = c.in_ok-add_node.ensures.node in
    record {
      sets = c.add_node.ensures.sets;
      grown = nodes_on c.args.self.now c.loop-next.self c.add_node.new.self c.loop-next.invariant.grown c.add_node.ensures.grown;
      left = one_put (set_nodes c.loop-next.self) c.args.last c.args.found.now.items c.loop-next.found.items c.pop.new.self.items c.in-Some.next popped c.loop-next.invariant.left (set_nodes c.add_node.new.self) n.0 n.1.0 n.1.1;
    }

pub loop-next-smaller : goal.loop-next-smaller
loop-next-smaller c =
    let popped : c.loop-next.found.items ≡ c.pop.new.self.items ++ c.in-Some.next ∷ [] = c.pop.ensures.items ∙ ap (λ o. c.pop.new.self.items ++ option_to_list o) c.in-Some.is in
    fewer_left (set_nodes c.loop-next.self) c.args.last c.args.found.now.items c.loop-next.found.items c.pop.new.self.items c.in-Some.next popped c.loop-next.invariant.left

pub returns-in_err-add_node-clause-sets : goal.returns-in_err-add_node-clause-sets
returns-in_err-add_node-clause-sets c = c.add_node.ensures.sets

pub returns-in_err-add_node-clause-grown : goal.returns-in_err-add_node-clause-grown
returns-in_err-add_node-clause-grown c = nodes_on c.args.self.now c.loop-next.self c.add_node.new.self c.loop-next.invariant.grown c.add_node.ensures.grown

pub returns : goal.returns
returns c =
    let none : c.loop-next.found.items ≡ [] = nil_from_length c.loop-next.found.items (omega (arith, c.in_default.ensures.cases.0)) in
    record {
      sets = c.loop-next.invariant.sets;
      grown = c.loop-next.invariant.grown;
      node = first_put (set_nodes c.loop-next.self) c.args.last c.args.found.now.items c.loop-next.found.items none c.loop-next.invariant.left;
    }
