use Rattle.rule_field_groups.specs.in_sets.in_schema.SchemaOf.{schema_tree}
use Rattle.rule_field_groups.specs.in_sets.in_reach.in_typed_operations.DocumentView.{document_meant, operation_meant}
use Rattle.rule_field_groups.specs.in_definitions.Judged.{judged}
use Rattle.rule_field_groups.specs.in_sets.in_reach.Broken.{brokens_of}
use Rattle.rule_field_groups.specs.in_sets.Read.{set_at}
use Rattle.rule_merging.specs.Verdict.{account_in, ExaminesOperation}
use Rattle.rule_merging.proofs.Counting.{starting_listed}
use Rattle.rule_merging.proofs.Operating.{sets_for, has_sets, starts, begun_counted, begun_grows, nothing_grows, then_counted, then_grown, either_left, after, operation_step}
use Rattle.rule_merging.proofs.operation.examine_lists.Goals as goal

pub returns-in_err-start-clause-sets : goal.returns-in_err-start-clause-sets
returns-in_err-start-clause-sets c =
    sets_for (judged (schema_tree c.args.schema.now)) (document_meant c.args.document.now) c.args.examined.now.sets c.begin.new.examined.sets c.requires.sets c.begin.ensures.begun.are c.begin.ensures.begun.grown

pub returns-in_err-start-clause-counted : goal.returns-in_err-start-clause-counted
returns-in_err-start-clause-counted c os there counted = begun_counted (document_meant c.args.document.now) os c.args.examined.now c.begin.new.examined c.begin.ensures.begun counted

pub returns-in_err-start-clause-grown : goal.returns-in_err-start-clause-grown
returns-in_err-start-clause-grown c = begun_grows c.args.examined.now c.begin.new.examined (account_in c.begin.new.examined) c.begin.ensures.begun (nothing_grows (account_in c.begin.new.examined))

pub examine_all-requires : goal.examine_all-requires
examine_all-requires c =
    record {
      sets = has_sets _
          (sets_for (judged (schema_tree c.args.schema.now)) (document_meant c.args.document.now) c.args.examined.now.sets c.begin.new.examined.sets c.requires.sets c.begin.ensures.begun.are c.begin.ensures.begun.grown)
          c.in_ok-start.ensures.node.1;
    }

pub returns-in_err-left-clause-sets : goal.returns-in_err-left-clause-sets
returns-in_err-left-clause-sets c =
    sets_for (judged (schema_tree c.args.schema.now)) (document_meant c.args.document.now) c.args.examined.now.sets c.begin.new.examined.sets c.requires.sets c.begin.ensures.begun.are c.begin.ensures.begun.grown

pub returns-in_err-left-clause-counted : goal.returns-in_err-left-clause-counted
returns-in_err-left-clause-counted c =
    let d = document_meant c.args.document.now in
    let o = operation_meant c.args.operation.now in
    let start = set_at c.begin.new.examined.sets c.in_ok-start.start in
    let is = starts c.args.operation.now c.content.result.now start c.content.ensures c.in_ok-start.ensures.node.0 in
    then_counted d o c.args.examined.now c.begin.new.examined c.begin.ensures.begun start is c.examine_all.new.examined c.examine_all.ensures.counted
    (λ os there. starting_listed d os o start there is)

pub returns-in_err-left-clause-grown : goal.returns-in_err-left-clause-grown
returns-in_err-left-clause-grown c =
    let d = document_meant c.args.document.now in
    let o = operation_meant c.args.operation.now in
    let start = set_at c.begin.new.examined.sets c.in_ok-start.start in
    let is = starts c.args.operation.now c.content.result.now start c.content.ensures c.in_ok-start.ensures.node.0 in
    then_grown d o c.args.examined.now c.begin.new.examined c.begin.ensures.begun start is c.examine_all.new.examined c.examine_all.ensures.counted

pub examine_all-requires-2 : goal.examine_all-requires-2
examine_all-requires-2 c =
    record {
      sets = has_sets _
          (sets_for (judged (schema_tree c.args.schema.now)) (document_meant c.args.document.now) c.args.examined.now.sets c.begin.new.examined.sets c.requires.sets c.begin.ensures.begun.are c.begin.ensures.begun.grown)
          c.in_ok-start.ensures.node.1;
    }

pub returns-in_err-too-clause-sets : goal.returns-in_err-too-clause-sets
returns-in_err-too-clause-sets c =
    sets_for (judged (schema_tree c.args.schema.now)) (document_meant c.args.document.now) c.args.examined.now.sets c.begin.new.examined.sets c.requires.sets c.begin.ensures.begun.are c.begin.ensures.begun.grown

pub returns-in_err-too-clause-counted : goal.returns-in_err-too-clause-counted
returns-in_err-too-clause-counted c =
    let d = document_meant c.args.document.now in
    let o = operation_meant c.args.operation.now in
    let start = set_at c.begin.new.examined.sets c.in_ok-start.start in
    let is = starts c.args.operation.now c.content.result.now start c.content.ensures c.in_ok-start.ensures.node.0 in
    then_counted d o c.args.examined.now c.begin.new.examined c.begin.ensures.begun start is c.examine_all.new.examined c.examine_all.ensures.counted
    (λ os there. starting_listed d os o start there is)

pub returns-in_err-too-clause-grown : goal.returns-in_err-too-clause-grown
returns-in_err-too-clause-grown c =
    let d = document_meant c.args.document.now in
    let o = operation_meant c.args.operation.now in
    let start = set_at c.begin.new.examined.sets c.in_ok-start.start in
    let is = starts c.args.operation.now c.content.result.now start c.content.ensures c.in_ok-start.ensures.node.0 in
    then_grown d o c.args.examined.now c.begin.new.examined c.begin.ensures.begun start is c.examine_all.new.examined c.examine_all.ensures.counted

pub returns-clause-sets : goal.returns-clause-sets
returns-clause-sets c =
    sets_for (judged (schema_tree c.args.schema.now)) (document_meant c.args.document.now) c.args.examined.now.sets c.begin.new.examined.sets c.requires.sets c.begin.ensures.begun.are c.begin.ensures.begun.grown

pub returns-clause-counted : goal.returns-clause-counted
returns-clause-counted c =
    let d = document_meant c.args.document.now in
    let o = operation_meant c.args.operation.now in
    let start = set_at c.begin.new.examined.sets c.in_ok-start.start in
    let is = starts c.args.operation.now c.content.result.now start c.content.ensures c.in_ok-start.ensures.node.0 in
    then_counted d o c.args.examined.now c.begin.new.examined c.begin.ensures.begun start is c.examine_all.new.examined c.examine_all.ensures.counted
    (λ os there. starting_listed d os o start there is)

pub returns-clause-grown : goal.returns-clause-grown
returns-clause-grown c =
    let d = document_meant c.args.document.now in
    let o = operation_meant c.args.operation.now in
    let start = set_at c.begin.new.examined.sets c.in_ok-start.start in
    let is = starts c.args.operation.now c.content.result.now start c.content.ensures c.in_ok-start.ensures.node.0 in
    then_grown d o c.args.examined.now c.begin.new.examined c.begin.ensures.begun start is c.examine_all.new.examined c.examine_all.ensures.counted

pub returns-clause-examined : goal.returns-clause-examined
returns-clause-examined c =
    let s = judged (schema_tree c.args.schema.now) in
    let d = document_meant c.args.document.now in
    let o = operation_meant c.args.operation.now in
    let old = c.args.examined.now in
    let mid = c.begin.new.examined in
    let shapes = c.examine_all.new.examined in
    let selections = c.examine_all-2.new.examined in
    let start = set_at mid.sets c.in_ok-start.start in
    let is = starts c.args.operation.now c.content.result.now start c.content.ensures c.in_ok-start.ensures.node.0 in
    let left = c.in_ok-left.left in
    let too = c.in_ok-too.too in
    either_left c.left_in_either.result left too (ExaminesOperation s d o old (after mid shapes selections) c.args.breaches.now c.examine_all-2.new.breaches) c.left_in_either.ensures.left
    (operation_step s d o old mid c.begin.ensures.begun shapes selections (brokens_of c.args.breaches.now) (brokens_of c.examine_all.new.breaches) (brokens_of c.examine_all-2.new.breaches) left too
    (c.in_ok-left.ensures.examined o is) (c.in_ok-too.ensures.examined o is))
