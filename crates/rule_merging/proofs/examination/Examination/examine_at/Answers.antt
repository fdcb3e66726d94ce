use Rattle.std.proofs.Common.{◌∙◌, ◌∷◌, [], sym, subst}
use Rattle.std.specs.Result.{OnOk}
use Rattle.rule_field_groups.specs.Members.{meant_sets}
use Rattle.rule_merging.specs.Examined.{sets_of, GrowsOver}
use Rattle.rule_merging.specs.OfProgram.{ExaminesThese}
use Rattle.rule_merging.proofs.examination.Examination.examine_at.Goals as goal

pub returns-then-skips-clause-examined : goal.returns-then-skips-clause-examined
returns-then-skips-clause-examined c =
    let e = c.args.self.now in
    subst (λ l. OnOk c.examine_two.result (ExaminesThese e l c.args.examined.now c.examine_two.new.examined c.args.breaches.now c.examine_two.new.breaches)) (sym c.in-Some.ensures) c.examine_two.ensures.examined

pub returns-then-skips-clause-counted : goal.returns-then-skips-clause-counted
returns-then-skips-clause-counted c =
    let e = c.args.self.now in
    subst (λ l. GrowsOver e (meant_sets (sets_of e) l ∷ []) c.args.examined.now c.examine_two.new.examined) (sym c.in-Some.ensures) c.examine_two.ensures.counted

pub returns-clause-examined : goal.returns-clause-examined
returns-clause-examined c =
    let e = c.args.self.now in
    subst (λ l. OnOk c.examine_once.result (ExaminesThese e l c.args.examined.now c.examine_once.new.examined c.args.breaches.now c.examine_once.new.breaches)) (c.deref.ensures.value ∙ c.in_ok-read.ensures) c.examine_once.ensures.examined

pub returns-clause-counted : goal.returns-clause-counted
returns-clause-counted c =
    let e = c.args.self.now in
    subst (λ l. GrowsOver e (meant_sets (sets_of e) l ∷ []) c.args.examined.now c.examine_once.new.examined) (c.deref.ensures.value ∙ c.in_ok-read.ensures) c.examine_once.ensures.counted
