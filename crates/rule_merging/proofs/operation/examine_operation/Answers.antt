use Rattle.std.proofs.Common.{false}
use Rattle.std.proofs.lemmas.Result.{IfOk-weaker}
use Rattle.rule_field_groups.specs.in_sets.in_schema.SchemaOf.{schema_tree}
use Rattle.rule_field_groups.specs.in_sets.in_reach.in_typed_operations.DocumentView.{document_meant, operation_meant}
use Rattle.rule_field_groups.specs.in_definitions.Judged.{judged}
use Rattle.rule_merging.specs.Verdict.{ExaminesOperation, account_in}
use Rattle.rule_merging.proofs.Operating.{nothing_grows, either_left}
use Rattle.rule_merging.proofs.Alone.{lone_examined, asked_examined}
use Rattle.rule_merging.proofs.operation.examine_operation.Goals as goal

pub returns-in_err-is_lone-clause-counted : goal.returns-in_err-is_lone-clause-counted
returns-in_err-is_lone-clause-counted c os there counted = counted

pub returns-then-is_lone-clause-counted : goal.returns-then-is_lone-clause-counted
returns-then-is_lone-clause-counted c os there counted = counted

pub returns-in_err-is_lone-clause-grown : goal.returns-in_err-is_lone-clause-grown
returns-in_err-is_lone-clause-grown c = nothing_grows (account_in c.args.examined.now)

pub returns-then-is_lone-clause-grown : goal.returns-then-is_lone-clause-grown
returns-then-is_lone-clause-grown c = nothing_grows (account_in c.args.examined.now)

pub returns-then-is_lone-clause-examined : goal.returns-then-is_lone-clause-examined
returns-then-is_lone-clause-examined c =
    let s = judged (schema_tree c.args.schema.now) in
    let d = document_meant c.args.document.now in
    let o = operation_meant c.args.operation.now in
    let old = c.args.examined.now in
    let told = c.args.breaches.now in
    either_left c.left_in_either.result false false (ExaminesOperation s d o old (record old { may_be_lone = c.in_ok-is_lone.is_lone }) told told) c.left_in_either.ensures.left
    (lone_examined s d o old c.in_ok-is_lone.is_lone (c.in_ok-is_lone.ensures c.if-is_lone.true) told)

pub returns-clause-examined : goal.returns-clause-examined
returns-clause-examined c =
    let s = judged (schema_tree c.args.schema.now) in
    let d = document_meant c.args.document.now in
    let o = operation_meant c.args.operation.now in
    let old = c.args.examined.now in
    let asks = c.in_ok-is_lone.is_lone in
    let new = c.examine_lists.new.examined in
    let before = c.args.breaches.now in
    let told = c.examine_lists.new.breaches in
    IfOk-weaker c.examine_lists.result (ExaminesOperation s d o (record old { may_be_lone = asks }) new before told) (ExaminesOperation s d o old new before told)
    (λ left h. asked_examined s d o old asks new before told left h) c.examine_lists.ensures.examined
