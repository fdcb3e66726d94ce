use Rattle.std.proofs.Common.{◌≡◌, map, ap, ◌∙◌}
use Rattle.std.specs.List.{flat_map}
use Rattle.std.proofs.lemmas.Result.{IfOk-equal}
use Rattle.graphql_names.specs.Node.{content, place}
use Rattle.graphql_names.specs.Placed.{name_tree}
use Rattle.schema_components.specs.Given.{component_name_tree}
use Rattle.schema_types.specs.TypeView.{extended_type, interface_type}
use Rattle.schema_types.specs.declared.kinds.InterfaceType.{InterfaceType}
use Rattle.fault_data.specs.FaultView.{faults_of}
use Rattle.fault_data.specs.Room.{◌⊕◌}
use Rattle.fault_data.proofs.Room.{room_both}
use Rattle.rule_types.specs.InterfaceFaults.{transitive_implemented_interfaces, each_field_faults, fields_faults}
use Rattle.rule_types.specs.InterfaceTrees.{schema_of}
use Rattle.rule_types.proofs.InterfacesWhole.{fields_same}
use Rattle.rule_types.proofs.interface_check.check_over.Goals as goal

pub returns : goal.returns
returns c =
    let own = c.args.implementer.now in
    let s = schema_of c.args.judging.now in
    let n = own.name.now.text in
    let t = extended_type own.ty.now in
    let i = name_tree own.interface.now.name in
    let over = content c.args.over.now in
    let old = faults_of c.args.faults.now in
    let keys : c.as_slice-listed.result.now ≡ over.implements_interfaces.keys = c.as_slice-listed.ensures.keys ∙ ap (λ (x : InterfaceType). x.implements_interfaces.keys) c.content-over.ensures in
    let listed = c.in_ok-check_transitive.ensures ∙ ap (λ ks. old ⊕ flat_map (λ g. transitive_implemented_interfaces n t i g.it) (map component_name_tree ks)) keys in
    let fields = ap (λ (x : InterfaceType). each_field_faults s n t i x.fields.entries) c.content-over.ensures ∙ fields_same s n t i over.fields.entries in
    IfOk-equal c.check_each_field.result _ _ _ c.check_each_field.ensures
    ((λ j. listed j ⊕ fields j)
    ∙ room_both old (flat_map (λ g. transitive_implemented_interfaces n t i g.it) (map component_name_tree over.implements_interfaces.keys)) (fields_faults s n t i (interface_type (place c.args.over.now) over).fields))
