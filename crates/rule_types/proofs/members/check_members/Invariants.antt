use Rattle.std.proofs.Common.{◌≡◌, map, take}
use Rattle.std.specs.List.{flat_map}
use Rattle.schema_components.specs.Given.{component_name_tree}
use Rattle.schema_types.specs.TypeView.{extended_type}
use Rattle.fault_data.specs.FaultView.{faults_of}
use Rattle.fault_data.specs.Room.{◌⊕◌}
use Rattle.rule_types.specs.FaultLists.{empty_member_set, member_faults}
use Rattle.rule_types.specs.Trees.{schema_of}
use Rattle.rule_types.proofs.members.check_members.Given as goal

abbrev pub invariant-loop-member : goal.invariant-loop-member
invariant-loop-member l = faults_of l.faults ≡ (faults_of l.fn.faults ⊕ empty_member_set l.name.text (extended_type l.ty) l.members.keys) ⊕ flat_map (λ g. member_faults (schema_of l.judging) g.it) (map component_name_tree (take l.member-index l.member-items))
