use Rattle.std.proofs.lemmas.Result.{on_ok_weaker}
use Rattle.rule_field_groups.specs.Members.{field_of, meant_sets}
use Rattle.rule_field_groups.proofs.Sets.{member_bare, member_below, bare_noted, set_noted, numbered_more}
use Rattle.rule_field_groups.proofs.below.note_set.Goals as goal

pub returns-in-None-clause-notes : goal.returns-in-None-clause-notes
returns-in-None-clause-notes c =
    bare_noted (field_of c.args.field) (meant_sets c.args.sets.now c.args.found.now.nodes.items) (member_bare c.args.sets.now c.requires.sets c.args.field c.requires.member c.in-None.is)

pub returns-in_ok-number_of-in-Some-clause-notes : goal.returns-in_ok-number_of-in-Some-clause-notes
returns-in_ok-number_of-in-Some-clause-notes c =
    let w = c.args.sets.now in
    on_ok_weaker c.add.result
    (λ adds. set_noted w c.args.found.now c.add.new.self _ c.in-Some.node adds c.requires.numbered c.in_ok-number_of-in-Some.ensures (field_of c.args.field) (member_below w c.requires.sets c.args.field c.requires.member c.in-Some.node c.in-Some.is))
    c.add.ensures

pub returns-in_ok-number_of-in-Some-clause-numbered : goal.returns-in_ok-number_of-in-Some-clause-numbered
returns-in_ok-number_of-in-Some-clause-numbered c =
    on_ok_weaker c.add.result (λ adds. numbered_more c.args.sets.now c.args.found.now c.add.new.self _ c.in-Some.node adds c.requires.numbered c.in_ok-number_of-in-Some.ensures) c.add.ensures
