use Rattle.std.proofs.Common.{◌∙◌, sym}
use Rattle.rule_field_groups.specs.Members.{meant_sets}
use Rattle.rule_merging.specs.Examined.{schema_of, document_of, sets_of}
use Rattle.rule_merging.proofs.Examining.{emptied, filled, none_here, some_here}
use Rattle.rule_merging.proofs.examination.Examination.selects_fields.Goals as goal

pub returns-then-not-is_empty : goal.returns-then-not-is_empty
returns-then-not-is_empty c =
    let e = c.args.self.now in
    let list = c.in_ok-list.list.members in
    some_here e.pass (schema_of e) (document_of e) (meant_sets (sets_of e) c.args.nodes.now) list.items (c.in_ok-list.ensures.part (document_of e) (sym c.requires.sets.fragments))
    (filled list.items list.len list.ok.0 (sym c.is_empty.ensures ∙ c.if-not-is_empty.true))

pub returns-then-list : goal.returns-then-list
returns-then-list c =
    let e = c.args.self.now in
    let list = c.in_ok-list.list.members in
    none_here e.pass (schema_of e) (document_of e) (meant_sets (sets_of e) c.args.nodes.now) list.items (c.in_ok-list.ensures.whole c.if-list.true (document_of e) (sym c.requires.sets.fragments))
    (emptied list.items list.len list.ok.0 (sym c.is_empty.ensures ∙ c.if-not-is_empty.false))
