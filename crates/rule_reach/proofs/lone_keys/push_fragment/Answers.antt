use Rattle.document_typed_operations.proofs.Standings.{ok_so}
use Rattle.rule_reach.specs.Passed.{members_left}
use Rattle.rule_reach.proofs.Walking.{no_fragment, a_fragment}
use Rattle.rule_reach.proofs.lone_keys.push_fragment.Goals as goal

pub returns-in-None : goal.returns-in-None
returns-in-None c = no_fragment c.args.fragments.now c.args.name.now (members_left c.args.left.now.items) c.in-None.ensures.value

pub returns-in-Some : goal.returns-in-Some
returns-in-Some c =
    ok_so c.push_selections.result
    (λ pushed. a_fragment c.args.fragments.now c.args.name.now c.in-Some.fragment.now c.content.result.now (members_left c.args.left.now.items) (members_left c.push_selections.new.left.items) c.in-Some.ensures.value c.content.ensures pushed)
    c.push_selections.ensures
