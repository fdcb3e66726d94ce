use Rattle.std.proofs.Common.{None, Some, sym, append-nil, ◌∙◌, true≢false}
use Rattle.std.proofs.lemmas.Result.{on_ok_weaker}
use Rattle.rule_selection_queries.specs.in_document_definitions.Merging.{SameName}
use Rattle.rule_field_sets.specs.in_reach.Broken.{brokens_of}
use Rattle.rule_field_groups.specs.Members.{field_of}
use Rattle.rule_field_groups.specs.Passes.{name_conflict}
use Rattle.rule_field_groups.proofs.InOrder.{told_in_order}
use Rattle.rule_field_groups.proofs.conflicts.conflicting_field_name.Goals as goal

pub returns-then-have_one_name : goal.returns-then-have_one_name
returns-then-have_one_name c = (None, (sym (append-nil (brokens_of c.args.breaches.now)), c.have_one_name.ensures.0 c.if-have_one_name.true))

pub returns : goal.returns
returns c =
    let never : SameName (field_of c.args.first) (field_of c.args.other) → ⊥ = λ same. true≢false (sym (c.have_one_name.ensures.1 same) ∙ c.if-have_one_name.false) in
    on_ok_weaker c.push_breach.result
    (λ adds. (
      Some _,
      (
        adds,
        told_in_order (λ f g. SameName f g → ⊥) name_conflict _ c.args.first c.args.other c.in_text_order.result c.in_text_order.ensures
            never (λ same. never (sym same)) c.in_ok-conflict.ensures,
      ),
    ))
    c.push_breach.ensures.told
