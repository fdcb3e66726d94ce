use Rattle.std.proofs.Common.{◌≡◌, None, Some, sym, ap, subst, append-nil, ◌∙◌}
use Rattle.std.proofs.lemmas.Option.{MatchOption-at_none, MatchOption-at_some}
use Rattle.std.proofs.lemmas.Result.{on_ok_weaker}
use Rattle.document_typed_selections.specs.declared.selection.Field.{Field}
use Rattle.rule_selection_queries.specs.in_document_definitions.SameValues.{SameArguments, SameGiven, plain_given}
use Rattle.rule_field_sets.specs.in_reach.Broken.{brokens_of}
use Rattle.rule_field_groups.specs.Members.{field_of}
use Rattle.rule_field_groups.proofs.InOrder.{arguments_in_order}
use Rattle.rule_selection_queries.specs.Tests.{arguments_of}
use Rattle.rule_field_groups.proofs.conflicts.conflicting_field_argument.Goals as goal

pub returns-in-None : goal.returns-in-None
returns-in-None c =
    let f = field_of c.args.first in
    let g = field_of c.args.other in
    let given : arguments_of c.as_slice-given.result.now ≡ f.head.arguments = ap arguments_of c.as_slice-given.ensures.value ∙ ap (λ (x : Field). arguments_of x.arguments.items) c.content.ensures in
    let others : arguments_of c.as_slice.result.now ≡ g.head.arguments = ap arguments_of c.as_slice.ensures.value ∙ ap (λ (x : Field). arguments_of x.arguments.items) c.content-2.ensures in
    let same = MatchOption-at_none _ _ c.in-None.is c.in_ok-differing.ensures.same in
    (None, (sym (append-nil (brokens_of c.args.breaches.now)), subst (λ l. SameArguments l g.head.arguments) given (subst (λ l. SameArguments (arguments_of c.as_slice-given.result.now) l) others same)))

pub returns-in_ok-conflict-in-Some : goal.returns-in_ok-conflict-in-Some
returns-in_ok-conflict-in-Some c =
    let f = field_of c.args.first in
    let g = field_of c.args.other in
    let n = c.in-Some.name.text in
    let given : arguments_of c.as_slice-given.result.now ≡ f.head.arguments = ap arguments_of c.as_slice-given.ensures.value ∙ ap (λ (x : Field). arguments_of x.arguments.items) c.content.ensures in
    let others : arguments_of c.as_slice.result.now ≡ g.head.arguments = ap arguments_of c.as_slice.ensures.value ∙ ap (λ (x : Field). arguments_of x.arguments.items) c.content-2.ensures in
    let differs = MatchOption-at_some _ _ c.in-Some.name c.in-Some.is c.in_ok-differing.ensures.differs in
    let never = subst (λ l. SameGiven (plain_given n l) (plain_given n g.head.arguments) → ⊥) given (subst (λ l. SameGiven (plain_given n (arguments_of c.as_slice-given.result.now)) (plain_given n l) → ⊥) others differs) in
    on_ok_weaker c.push_breach.result
    (λ adds. (
      Some _,
      (
        adds,
        arguments_in_order n _ c.args.first c.args.other c.in_text_order.result c.in_text_order.ensures never c.in_ok-conflict-in-Some.ensures,
      ),
    ))
    c.push_breach.ensures.told
