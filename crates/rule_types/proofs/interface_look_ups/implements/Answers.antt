use Rattle.std.proofs.Common.{sym, ap, ◌∙◌, map}
use Rattle.schema_components.specs.Lists.{is_among}
use Rattle.schema_components.specs.Given.{component_name_tree, given_name}
use Rattle.schema_types.specs.TypeView.{extended_type}
use Rattle.schema_types.specs.declared.extended_type.ExtendedType.{ExtendedType}
use Rattle.schema_types.specs.declared.kinds.ObjectType.{ObjectType}
use Rattle.schema_types.specs.declared.kinds.InterfaceType.{InterfaceType}
use Rattle.rule_types.proofs.Listed.{among_listed}
use Rattle.rule_types.proofs.interface_look_ups.implements.Goals as goal

pub returns-in-Object : goal.returns-in-Object
returns-in-Object c =
    c.contains.ensures
    ∙ among_listed c.args.interface.now.name c.content.result.now.implements_interfaces.keys
    ∙ ap (λ (t : ObjectType). is_among c.args.interface.now.name.text (map given_name (map component_name_tree t.implements_interfaces.keys))) c.content.ensures
    ∙ ap (λ (t : ExtendedType). is_among c.args.interface.now.name.text (map given_name (extended_type t).interfaces)) (sym c.in-Object.is)

pub returns-in-Interface : goal.returns-in-Interface
returns-in-Interface c =
    c.contains-in-Interface.ensures
    ∙ among_listed c.args.interface.now.name c.content-in-Interface.result.now.implements_interfaces.keys
    ∙ ap (λ (t : InterfaceType). is_among c.args.interface.now.name.text (map given_name (map component_name_tree t.implements_interfaces.keys))) c.content-in-Interface.ensures
    ∙ ap (λ (t : ExtendedType). is_among c.args.interface.now.name.text (map given_name (extended_type t).interfaces)) (sym c.in-Interface.is)
