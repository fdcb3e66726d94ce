use Rattle.std.proofs.Common.{◌≡◌, ◌<◌, ◌∙◌, slice_index_or, None, refl, sym, subst, inl, inr, arith}
use Rattle.std.proofs.lemmas.Bool.{cases_lt}
use Rattle.std.proofs.lemmas.List.{get_or_default, same_lists}
use Rattle.graphql_faults.specs.TracePlaces.{trace_places}
use Rattle.graphql_faults.proofs.Parts.{place_decides, not_different}
use Rattle.graphql_faults.proofs.data.are_at_same_places.Goals as goal

pub loop-index-preserved : goal.loop-index-preserved
loop-index-preserved c = λ k low.
    elim (cases_lt k c.loop-index.index) [
      | inl before ↦ c.loop-index.invariant k before
      | inr following ↦
          let here : c.loop-index.index ≡ k = omega arith in
          let one = c.trace_place.ensures in
          let other = c.trace_place-in-loop-index.ensures in
          let same = not_different _ _ c.ne.ensures c.if-ne.false (place_decides c.trace_place.result c.trace_place-in-loop-index.result) in
          subst (λ n. slice_index_or (trace_places c.args.one.now) n None ≡ slice_index_or (trace_places c.args.other.now) n None) here (sym one ∙ same ∙ other)
    ]

pub returns : goal.returns
returns c =
    let ones = trace_places c.args.one.now in
    let others = trace_places c.args.other.now in
    let count = c.if-count-trace_len.false in
    let long = sym c.trace_len-count.ensures ∙ c.if-count-trace_len.false ∙ c.trace_len.ensures in
    let at = c.loop-index.invariant in (
      (λ h. same_lists ones others long (λ k d within.
          let low : k < c.loop-index.index = omega (arith, c.trace_len-count.ensures) in
          get_or_default ones k d None within ∙ at k low ∙ get_or_default others k None d (omega (arith, long)))),
      (λ r. refl),
    )
