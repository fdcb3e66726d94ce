use Rattle.std.proofs.Common.{◌∙◌, sym, subst, true≢false}
use Rattle.std.proofs.lemmas.Result.{on_ok_weaker}
use Rattle.rule_field_groups.specs.Members.{field_of}
use Rattle.rule_field_groups.specs.declared.pass.Pass.{Pass}
use Rattle.rule_field_groups.specs.Passes.{AddsTwo}
use Rattle.rule_field_groups.specs.Conflicts.{judged_by}
use Rattle.rule_field_groups.proofs.InOrder.{adds_of_names, adds_of_arguments}
use Rattle.rule_field_groups.proofs.conflicts.check_two.Goals as goal

pub returns-then-have_one_name-clause-told : goal.returns-then-have_one_name-clause-told
returns-then-have_one_name-clause-told c =
    let s = judged_by c.args.comparing.now in
    let f = field_of c.args.first in
    let g = field_of c.args.other in
    let old = c.args.breaches.now in
    let new = c.conflicting_field_argument.new.breaches in
    on_ok_weaker c.conflicting_field_argument.result
    (λ adds. subst (λ (p : Pass). AddsTwo p s f g old new) (sym c.in-Selections.is) (adds_of_arguments s f g old new (c.have_one_name.ensures.0 c.if-have_one_name.true) adds))
    c.conflicting_field_argument.ensures

pub returns-else-have_one_name-clause-told : goal.returns-else-have_one_name-clause-told
returns-else-have_one_name-clause-told c =
    let s = judged_by c.args.comparing.now in
    let f = field_of c.args.first in
    let g = field_of c.args.other in
    let old = c.args.breaches.now in
    let new = c.conflicting_field_name.new.breaches in
    on_ok_weaker c.conflicting_field_name.result
    (λ adds. subst (λ (p : Pass). AddsTwo p s f g old new) (sym c.in-Selections.is)
    (adds_of_names s f g old new (λ same. true≢false (sym (c.have_one_name.ensures.1 same) ∙ c.if-have_one_name.false)) adds))
    c.conflicting_field_name.ensures
