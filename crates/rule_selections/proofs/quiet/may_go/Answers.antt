use Rattle.rule_selections.proofs.quiet.may_go.Goals as goal

pub returns : goal.returns
returns c = λ yes. c.in_ok-is_quiet.ensures c.if-not-branch.false
