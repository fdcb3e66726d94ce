use Rattle.std.proofs.Common.{◌∙◌, sym, true≢false}
use Rattle.graphql_faults.proofs.DataEquality.{data_same}
use Rattle.graphql_faults.proofs.data.is_same_data.Goals as goal

pub returns-then-eq : goal.returns-then-eq
returns-then-eq c =
    let same = data_same c.args.one.now c.args.other.now in
    let at = c.are_at_same_places.ensures in
    ((λ h. same.0 (sym c.eq.ensures ∙ c.if-eq.true) (at.0 h)), (λ r. at.1 (same.1 r).1))

pub returns-else-eq : goal.returns-else-eq
returns-else-eq c =
    let same = data_same c.args.one.now c.args.other.now in
    ((λ h. absurd (true≢false (sym h ∙ c.if-eq.false))), (λ r. c.eq.ensures ∙ (same.1 r).0))
