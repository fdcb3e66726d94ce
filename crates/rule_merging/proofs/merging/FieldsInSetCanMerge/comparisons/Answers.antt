use Rattle.rule_field_groups.specs.in_document_definitions.Selected.{operations}
use Rattle.rule_merging.specs.Merger.{merger_of, fields_written}
use Rattle.rule_merging.proofs.Counting.{members_few, comparisons_few}
use Rattle.rule_merging.proofs.Written.{last_written}
use Rattle.rule_merging.proofs.merging.FieldsInSetCanMerge.comparisons.Goals as goal

pub returns-clause-few : goal.returns-clause-few
returns-clause-few c os all counted has =
    let m = merger_of c.args.self.now in
    (comparisons_few m.document os all has m.lists m.met m.paid counted.1 m.comparisons counted.0, members_few m.document os all has m.lists m.met m.paid counted.1)

pub returns-clause-in_document : goal.returns-clause-in_document
returns-clause-in_document c counted =
    let m = merger_of c.args.self.now in
    let os = operations m.document in
    let all = fields_written m.document in (
      comparisons_few m.document os all (last_written m.document) m.lists m.met m.paid counted.1 m.comparisons counted.0,
      members_few m.document os all (last_written m.document) m.lists m.met m.paid counted.1,
    )
