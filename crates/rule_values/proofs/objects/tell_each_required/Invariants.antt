use Rattle.std.proofs.Common.{◌≡◌, map}
use Rattle.fault_data.specs.FaultView.{faults_of}
use Rattle.fault_data.specs.Room.{◌⊕◌}
use Rattle.rule_values.specs.Wanting.{is_not_provided, required_among}
use Rattle.rule_values.proofs.objects.tell_each_required.Given as goal

abbrev pub invariant-loop-field_name : goal.invariant-loop-field_name
invariant-loop-field_name l =
    faults_of l.faults ≡ faults_of l.fn.faults ⊕ required_among (is_not_provided l.given.nulls.now) l.given.name.now.text l.given.location (map (λ e. (e.0.now, e.1.now)) l.yielded)
