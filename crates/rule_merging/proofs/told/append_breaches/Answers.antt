use Rattle.std.proofs.Common.{◌≡◌, ◌∷◌, [], ◌++◌, length, sym, ap, ◌∙◌, append_assoc, arith}
use Rattle.std.specs.Vec.Iter.{into_iter_items}
use Rattle.graphql_names.specs.Placed.{Place}
use Rattle.graphql_faults.specs.in_document_errors.declared.build_error.BuildError.{BuildError}
use Rattle.rule_field_groups.specs.in_document_definitions.DocumentFaults.{OfDocument}
use Rattle.graphql_faults.proofs.Growing.{grown_more, grown_all, grown_kept}
use Rattle.rule_field_groups.specs.in_sets.in_reach.Broken.{broken_of}
use Rattle.graphql_faults.specs.DetailsTree.{of_document}
use Rattle.rule_merging.proofs.told.append_breaches.Goals as goal

pub loop-place-preserved : goal.loop-place-preserved
loop-place-preserved c =
    let at = c.loop-place in
    let x : Place × BuildError = (c.in-Some.place, c.in-Some.breach) in
    let steps : into_iter_items at.place-iterator ≡ x ∷ into_iter_items c.next.new.self = c.in-Some.ensures.steps.0 in (
      grown_more broken_of (λ b. of_document (OfDocument b)) _ _ _ at.yielded x at.invariant.0 c.in_ok-push.ensures.added,
      at.invariant.1 ∙ ap (λ r. at.yielded ++ r) steps ∙ sym (append_assoc at.yielded (x ∷ []) (into_iter_items c.next.new.self)),
      let was = at.invariant.2 in
          let gone = c.in-Some.ensures.steps.1 in
          let short = ap length steps in
          omega arith,
    )

pub returns-in_err-push-clause-begins : goal.returns-in_err-push-clause-begins
returns-in_err-push-clause-begins c =
    grown_kept broken_of (λ b. of_document (OfDocument b)) _ _ _ _ c.loop-place.yielded c.loop-place.invariant.0 c.in_err-push.ensures.kept

pub returns-clause-added : goal.returns-clause-added
returns-clause-added c =
    let at = c.loop-place in
    grown_all broken_of (λ b. of_document (OfDocument b)) _ _ c.args.breaches.items at.yielded _ at.invariant.0 at.invariant.1 (sym at.invariant.2 ∙ c.in-None.ensures.steps.0)
