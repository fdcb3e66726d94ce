use Rattle.std.proofs.Common.{sym, subst}
use Rattle.std.specs.List.{IsDistinct}
use Rattle.std.specs.Map.{keys_of}
use Rattle.std.specs.Str.{bytes_eq}
use Rattle.graphql_names.specs.Node.{content, place}
use Rattle.schema_components.specs.Names.{same_text}
use Rattle.schema_building.specs.in_schema_types.TypeView.{name_text, extended_type}
use Rattle.schema_building.specs.in_schema_types.declared.extended_type.ExtendedType.{ExtendedType}
use Rattle.schema_building.specs.in_schema_types.declared.kinds.ObjectType.{ObjectType}
use Rattle.schema_building.specs.in_schema_types.declared.kinds.InterfaceType.{InterfaceType}
use Rattle.schema_building.specs.in_schema_types.declared.kinds.UnionType.{UnionType}
use Rattle.schema_building.specs.in_schema_types.declared.kinds.EnumType.{EnumType}
use Rattle.schema_building.specs.in_schema_types.declared.kinds.InputObjectType.{InputObjectType}
use Rattle.schema_building.specs.in_schema_types.Distinct.{ArePartsDistinct}
use Rattle.graphql_schema.proofs.DistinctFacts.{scalar_parts, object_parts, interface_parts, union_parts, enum_parts, input_parts}
use Rattle.graphql_schema.proofs.distinct.parts_differ.Goals as goal

pub returns-in-Scalar : goal.returns-in-Scalar
returns-in-Scalar c =
    let own = c.in-Scalar.field-0 in
    subst (λ (t : ExtendedType). ArePartsDistinct (extended_type t)) (sym c.in-Scalar.is) (scalar_parts (place own) (content own))

pub returns-in-Object : goal.returns-in-Object
returns-in-Object c =
    let own = c.in-Object.own in
    subst (λ (t : ExtendedType). ArePartsDistinct (extended_type t)) (sym c.in-Object.is)
    (object_parts (place own) (content own) (subst (λ (t : ObjectType). IsDistinct (same_text name_text) (keys_of t.fields.entries)) c.content-own.ensures c.len-in-Object.ensures.unique)
    (subst (λ (t : ObjectType). IsDistinct (λ a b. bytes_eq a.name.text b.name.text) t.implements_interfaces.keys) c.content-own.ensures c.len.ensures.unique))

pub returns-in-Interface : goal.returns-in-Interface
returns-in-Interface c =
    let own = c.in-Interface.own in
    subst (λ (t : ExtendedType). ArePartsDistinct (extended_type t)) (sym c.in-Interface.is)
    (interface_parts (place own) (content own) (subst (λ (t : InterfaceType). IsDistinct (same_text name_text) (keys_of t.fields.entries)) c.content-own-in-Interface.ensures c.len-in-Interface-2.ensures.unique)
    (subst (λ (t : InterfaceType). IsDistinct (λ a b. bytes_eq a.name.text b.name.text) t.implements_interfaces.keys) c.content-own-in-Interface.ensures c.len-in-Interface.ensures.unique))

pub returns-in-Union : goal.returns-in-Union
returns-in-Union c =
    let own = c.in-Union.own in
    subst (λ (t : ExtendedType). ArePartsDistinct (extended_type t)) (sym c.in-Union.is)
    (union_parts (place own) (content own) (subst (λ (t : UnionType). IsDistinct (λ a b. bytes_eq a.name.text b.name.text) t.members.keys) c.content.ensures c.len-in-Union.ensures.unique))

pub returns-in-Enum : goal.returns-in-Enum
returns-in-Enum c =
    let own = c.in-Enum.own in
    subst (λ (t : ExtendedType). ArePartsDistinct (extended_type t)) (sym c.in-Enum.is)
    (enum_parts (place own) (content own) (subst (λ (t : EnumType). IsDistinct (same_text name_text) (keys_of t.values.entries)) c.content-in-Enum.ensures c.len-in-Enum.ensures.unique))

pub returns-in-InputObject : goal.returns-in-InputObject
returns-in-InputObject c =
    let own = c.in-InputObject.own in
    subst (λ (t : ExtendedType). ArePartsDistinct (extended_type t)) (sym c.in-InputObject.is)
    (input_parts (place own) (content own) (subst (λ (t : InputObjectType). IsDistinct (same_text name_text) (keys_of t.fields.entries)) c.content-in-InputObject.ensures c.len-in-InputObject.ensures.unique))
