use Rattle.std.proofs.Common.{◌++◌, ◌∷◌, []}
use Rattle.rule_field_groups.specs.NodeWalk.{state_of}
use Rattle.rule_field_groups.proofs.Walking.{ok_so, node_over}
use Rattle.rule_field_groups.proofs.node_walk.NodeWalk.walk.Goals as goal

pub returns : goal.returns
returns c =
    ok_so c.pass_fragments.result
    (λ on nodes walk. on (nodes ++ c.args.node ∷ [])
    (node_over c.args.sets.now nodes c.args.node c.len-entered.result c.in_ok-start.start.now (state_of c.args.self.now) (state_of c.pass_node.new.self) c.len-entered.ensures.len c.in_ok-start.ensures c.in_ok-pass_node.ensures walk))
    c.pass_fragments.ensures
