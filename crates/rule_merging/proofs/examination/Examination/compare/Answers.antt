use Rattle.rule_merging.specs.Examined.{schema_of, sets_of}
use Rattle.rule_merging.proofs.Agreeing.{nothing_told}
use Rattle.rule_merging.proofs.examination.Examination.compare.Goals as goal

pub returns-then-all_agree-clause-told : goal.returns-then-all_agree-clause-told
returns-then-all_agree-clause-told c =
    let e = c.args.self.now in
    nothing_told (sets_of e) c.requires.sets.are (schema_of e) c.requires.sets.schema e.pass c.args.fields.now c.requires.members (c.all_agree.ensures c.if-all_agree.true) c.args.breaches.now
