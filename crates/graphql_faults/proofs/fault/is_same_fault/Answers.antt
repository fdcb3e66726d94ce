use Rattle.std.proofs.Common.{◌∙◌, List, sym, ap, true≢false}
use Rattle.graphql_names.specs.Placed.{Place}
use Rattle.rule_definitions.specs.Diagnostics.{Diagnostic}
use Rattle.rule_definitions.specs.Faults.{FaultAt, wrong}
use Rattle.graphql_faults.proofs.Parts.{place_decides}
use Rattle.graphql_faults.proofs.fault.is_same_fault.Goals as goal

abbrev place_of : FaultAt Place (List Place) → Place
place_of fault = fault.place

abbrev said : FaultAt Place (List Place) → Diagnostic Place (List Place)
said fault = fault.breach

pub returns-then-eq : goal.returns-then-eq
returns-then-eq c =
    let place = (place_decides c.args.one.now.location c.args.other.now.location).0 (sym c.eq.ensures ∙ c.if-eq.true) in
    ((λ h i. wrong (place i) (c.is_same_data.ensures.0 h i)), (λ r. c.is_same_data.ensures.1 (ap said r)))

pub returns-else-eq : goal.returns-else-eq
returns-else-eq c =
    ((λ h. absurd (true≢false (sym h ∙ c.if-eq.false))), (λ r. c.eq.ensures ∙ (place_decides c.args.one.now.location c.args.other.now.location).1 (ap place_of r)))
