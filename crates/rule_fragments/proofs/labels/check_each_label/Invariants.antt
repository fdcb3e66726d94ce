use Rattle.std.proofs.Common.{◌≡◌, take}
use Rattle.std.specs.List.{flat_map}
use Rattle.schema_components.specs.Lists.{each_place}
use Rattle.rule_definitions.specs.Room.{◌⊕◌}
use Rattle.rule_fragments.specs.Broken.{brokens_of}
use Rattle.rule_fragments.specs.Labels.{values_meant, string_label, label_breaks, AreFirstPlaces}
use Rattle.rule_fragments.proofs.labels.check_each_label.Given as goal

abbrev pub invariant-loop-label : goal.invariant-loop-label
invariant-loop-label l = record {
  told : brokens_of l.breaches ≡ brokens_of l.fn.breaches ⊕ each_place label_breaks (values_meant (take l.label-index l.labels));
  noted : AreFirstPlaces l.places (flat_map string_label (values_meant (take l.label-index l.labels)));
}
