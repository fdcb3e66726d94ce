use Rattle.std.proofs.Common.{◌∙◌, sym, ap, true≢false}
use Rattle.graphql_names.specs.Placed.{Place}
use Rattle.fault_document_errors.specs.DocumentBreaches.{DocumentBreach}
use Rattle.rule_document_definitions.specs.DocumentFaults.{Broken, broken}
use Rattle.graphql_faults.proofs.Parts.{place_decides}
use Rattle.graphql_faults.proofs.breach.Tuple2OptionSourceSpanBuildErrorTold.is_same.Goals as goal

abbrev place_of : Broken Place → Place
place_of breach = breach.place

abbrev said : Broken Place → DocumentBreach Place
said breach = breach.it

pub returns-then-eq : goal.returns-then-eq
returns-then-eq c =
    let place = (place_decides c.args.self.now.0 c.args.other.now.0).0 (sym c.eq.ensures ∙ c.if-eq.true) in
    ((λ h i. broken (place i) (c.is_same_breach.ensures.0 h i)), (λ r. c.is_same_breach.ensures.1 (ap said r)))

pub returns-else-eq : goal.returns-else-eq
returns-else-eq c =
    ((λ h. absurd (true≢false (sym h ∙ c.if-eq.false))), (λ r. c.eq.ensures ∙ (place_decides c.args.self.now.0 c.args.other.now.0).1 (ap place_of r)))
