-- From lists of faults to what a check adds.
use Rattle.std.proofs.Common.{◌≡◌, List, ◌++◌, ap, ◌∙◌, ◌⊎◌, Vec}
use Rattle.std.specs.declared.alloc.Global.{Global}
use Rattle.fault_data.specs.FaultView.{faults_of}
use Rattle.fault_data.specs.Room.{◌⊕◌}
use Rattle.fault_data.specs.declared.fault.Fault.{Fault}
use Rattle.fault_data.specs.in_rule_definitions.PlacedFaults.{PlacedFault}
use Rattle.fault_data.specs.Adds.{Adds}
use Rattle.fault_data.proofs.Room.{room_both}
use Rattle.rule_values.proofs.Tells.{Tells, tells_both}

-- what is told at the end is added
pub adds_told : (old new : Vec Fault Global) (l : List PlacedFault) (R : PlacedFault → Type 0) → Tells l R → faults_of new ≡ faults_of old ⊕ l → Adds old new R
adds_told old new l R tells e = (l, (e, tells))

-- one check after another
pub adds_both : (old next new : Vec Fault Global) (R Q : PlacedFault → Type 0) → Adds old next R → Adds next new Q → Adds old new (λ f. R f ⊎ Q f)
adds_both old next new R Q (l, (is, tells)) (m, (is', tells')) =
    (l ++ m, (is' ∙ ap (λ k. k ⊕ m) is ∙ room_both (faults_of old) l m, tells_both l m R Q tells tells'))
