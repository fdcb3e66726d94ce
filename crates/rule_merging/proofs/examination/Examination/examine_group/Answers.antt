use Rattle.std.proofs.Common.{map}
use Rattle.std.proofs.lemmas.Result.{on_ok_weaker}
use Rattle.rule_field_groups.specs.Members.{fields_of}
use Rattle.rule_field_groups.specs.KeyGroups.{parts_of}
use Rattle.rule_merging.specs.Examined.{schema_of, document_of}
use Rattle.rule_merging.proofs.Examining.{key_examined}
use Rattle.rule_merging.proofs.examination.Examination.examine_group.Goals as goal

pub returns-clause-examined : goal.returns-clause-examined
returns-clause-examined c =
    let e = c.args.self.now in
    let told = c.in_ok-check_key_group.ensures.told in
    on_ok_weaker c.push_lists_below.result
    (λ h. (told.0, (h.0, (told.1.0, (h.1.0, key_examined e.pass (schema_of e) (document_of e) (map fields_of (parts_of c.args.group.now)) told.0 h.0 told.1.1 h.1.1)))))
    c.push_lists_below.ensures
