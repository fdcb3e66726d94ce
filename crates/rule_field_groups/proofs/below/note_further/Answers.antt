use Rattle.std.proofs.Common.{sym, ◌∙◌}
use Rattle.std.proofs.lemmas.Result.{on_ok_weaker}
use Rattle.rule_field_groups.specs.Members.{field_of, meant_sets}
use Rattle.rule_field_groups.proofs.Sets.{member_bare, member_below, bare_noted, set_noted, numbered_more, number_among, read_there}
use Rattle.rule_field_groups.proofs.Under.{further_known, further_noted}
use Rattle.rule_field_groups.proofs.below.note_further.Goals as goal

pub returns-in_default-clause-notes : goal.returns-in_default-clause-notes
returns-in_default-clause-notes c =
    let w = c.args.sets.now in
    let field = field_of c.args.field in
    let others = meant_sets w c.args.others.now.nodes.items in
    let found = meant_sets w c.args.found.now.nodes.items in
    further_noted field others found found (bare_noted field found (member_bare w c.requires.sets c.args.field c.requires.member c.in_default.is))

pub returns-then-contains-clause-notes : goal.returns-then-contains-clause-notes
returns-then-contains-clause-notes c =
    let w = c.args.sets.now in
    let others = c.args.others.now in
    let node = c.in-Some.node in
    further_known (field_of c.args.field) (meant_sets w others.nodes.items) (meant_sets w c.args.found.now.nodes.items)
    (read_there w others c.requires.others _ node (number_among others.numbers.keys _ (sym c.contains.ensures ∙ c.if-contains.true)) c.in_ok-number.ensures
    (member_below w c.requires.sets c.args.field c.requires.member node c.in-Some.is))

pub returns-clause-notes : goal.returns-clause-notes
returns-clause-notes c =
    let w = c.args.sets.now in
    let field = field_of c.args.field in
    let node = c.in-Some.node in
    on_ok_weaker c.add.result
    (λ adds. further_noted field (meant_sets w c.args.others.now.nodes.items) (meant_sets w c.args.found.now.nodes.items) (meant_sets w c.add.new.self.nodes.items)
    (set_noted w c.args.found.now c.add.new.self _ node adds c.requires.numbered c.in_ok-number.ensures field (member_below w c.requires.sets c.args.field c.requires.member node c.in-Some.is)))
    c.add.ensures

pub returns-clause-numbered : goal.returns-clause-numbered
returns-clause-numbered c =
    on_ok_weaker c.add.result (λ adds. numbered_more c.args.sets.now c.args.found.now c.add.new.self _ c.in-Some.node adds c.requires.numbered c.in_ok-number.ensures) c.add.ensures
