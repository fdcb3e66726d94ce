use Rattle.std.proofs.Common.{◌≡◌, take}
use Rattle.fault_data.specs.FaultView.{faults_of}
use Rattle.fault_data.specs.Room.{◌⊕◌}
use Rattle.rule_values.specs.Wanting.{is_not_provided, required_among}
use Rattle.rule_values.proofs.objects.tell_each_listed.Given as goal

abbrev pub invariant-loop-field : goal.invariant-loop-field
invariant-loop-field l = faults_of l.faults ≡ faults_of l.fn.faults ⊕ required_among (is_not_provided l.given.nulls.now) l.given.name.now.text l.given.location (take l.field-index l.fields)
