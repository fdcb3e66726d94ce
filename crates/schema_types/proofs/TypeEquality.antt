-- `==` of types and schema definitions decides whether they are the same without places, origins and order.
use Rattle.std.proofs.Common.{◌≡◌, ap, refl, arith}
use Rattle.std.specs.Bool.{Decides}
use Rattle.graphql_names.specs.Node.{content, place}
use Rattle.graphql_names.specs.declared.node.Node.{Node}
use Rattle.graphql_names.specs.Placed.{Place, text_tree, unplaced_text}
use Rattle.schema_components.specs.in_directives.DirectiveTree.{input_value_tree, unplaced_input_value}
use Rattle.schema_components.proofs.in_operations.Decided.{through, pair_decides, options_decide, name_decides, text_decides}
use Rattle.schema_components.proofs.in_operations.DirectiveEquality.{input_value_eq-Decides}
use Rattle.spec_tree.specs.in_type_members.TypeSystemTree.{field_definition_tree, unplaced_field_definition, enum_value_tree, unplaced_enum_value}
use Rattle.spec_tree.proofs.MemberEquality.{field_definition_eq-Decides, enum_value_eq-Decides}
use Rattle.schema_components.specs.Given.{component_tree, component_name_tree, plain_given, given_name}
use Rattle.schema_components.proofs.NamedEquality.{maps_decide, sets_decide}
use Rattle.schema_components.proofs.ComponentEquality.{component_text, component_name_eq-Decides, directives_eq-Decides}
use Rattle.schema_types.specs.SchemaTree.{kind_number}
use Rattle.schema_types.specs.TypeView.{name_text, scalar_type, object_type, interface_type, union_type, enum_type, input_object_type, extended_type, schema_roots}
use Rattle.schema_types.specs.Plain.{PlainType, plain_type, plain_roots}
use Rattle.schema_types.specs.declared.extended_type.ExtendedType.{ExtendedType}
use Rattle.schema_types.specs.declared.extended_type.ExtendedType.TheVariants as rust
use Rattle.schema_types.specs.declared.schema_definition.SchemaDefinition.{SchemaDefinition}
use Rattle.schema_types.specs.contracts.extended_type.ExtendedTypePartialEq.TheImpl as any_impl
use Rattle.schema_types.specs.contracts.schema_definition.SchemaDefinitionPartialEq.TheImpl as roots_impl
use Rattle.schema_types.specs.declared.kinds.ScalarType.{ScalarType}
use Rattle.schema_types.specs.contracts.kinds.ScalarTypePartialEq.TheImpl as scalar_impl
use Rattle.schema_types.specs.declared.kinds.ObjectType.{ObjectType}
use Rattle.schema_types.specs.contracts.kinds.ObjectTypePartialEq.TheImpl as object_impl
use Rattle.schema_types.specs.declared.kinds.InterfaceType.{InterfaceType}
use Rattle.schema_types.specs.contracts.kinds.InterfaceTypePartialEq.TheImpl as interface_impl
use Rattle.schema_types.specs.declared.kinds.UnionType.{UnionType}
use Rattle.schema_types.specs.contracts.kinds.UnionTypePartialEq.TheImpl as union_impl
use Rattle.schema_types.specs.declared.kinds.EnumType.{EnumType}
use Rattle.schema_types.specs.contracts.kinds.EnumTypePartialEq.TheImpl as enum_impl
use Rattle.schema_types.specs.declared.kinds.InputObjectType.{InputObjectType}
use Rattle.schema_types.specs.contracts.kinds.InputObjectTypePartialEq.TheImpl as input_object_impl

scalar_eq-Decides : (p q : Place) (a : ScalarType) (b : ScalarType) → Decides (scalar_impl.ghosts.eq a b) (plain_type (scalar_type p a) ≡ plain_type (scalar_type q b))
scalar_eq-Decides p q a b =
    through
    (pair_decides _ _ (options_decide _ unplaced_text text_tree text_decides a.description b.description)
    (pair_decides _ _ (name_decides a.name b.name)
    (directives_eq-Decides a.directives b.directives)))
    (λ h i. record { kind = (plain_type (scalar_type p a)).kind; description = h.0 i; name = h.1.0 i; directives = h.1.1 i; interfaces = (plain_type (scalar_type p a)).interfaces; fields = (plain_type (scalar_type p a)).fields; members = (plain_type (scalar_type p a)).members; values = (plain_type (scalar_type p a)).values; inputs = (plain_type (scalar_type p a)).inputs })
    (λ e. (ap (λ (t : PlainType). t.description) e, (ap (λ (t : PlainType). t.name) e, ap (λ (t : PlainType). t.directives) e)))

object_eq-Decides : (p q : Place) (a : ObjectType) (b : ObjectType) → Decides (object_impl.ghosts.eq a b) (plain_type (object_type p a) ≡ plain_type (object_type q b))
object_eq-Decides p q a b =
    through
    (pair_decides _ _ (options_decide _ unplaced_text text_tree text_decides a.description b.description)
    (pair_decides _ _ (name_decides a.name b.name)
    (pair_decides _ _ (sets_decide component_text given_name component_name_tree (λ c. refl) a.implements_interfaces b.implements_interfaces)
    (pair_decides _ _ (directives_eq-Decides a.directives b.directives)
    (maps_decide name_text _ (plain_given unplaced_field_definition) (component_tree field_definition_tree) (λ x y. field_definition_eq-Decides (content x.node) (content y.node)) a.fields b.fields)))))
    (λ h i. record { kind = (plain_type (object_type p a)).kind; description = h.0 i; name = h.1.0 i; directives = h.1.1.1.0 i; interfaces = h.1.1.0 i; fields = h.1.1.1.1 i; members = (plain_type (object_type p a)).members; values = (plain_type (object_type p a)).values; inputs = (plain_type (object_type p a)).inputs })
    (λ e. (ap (λ (t : PlainType). t.description) e, (ap (λ (t : PlainType). t.name) e, (ap (λ (t : PlainType). t.interfaces) e, (ap (λ (t : PlainType). t.directives) e, ap (λ (t : PlainType). t.fields) e)))))

interface_eq-Decides : (p q : Place) (a : InterfaceType) (b : InterfaceType) → Decides (interface_impl.ghosts.eq a b) (plain_type (interface_type p a) ≡ plain_type (interface_type q b))
interface_eq-Decides p q a b =
    through
    (pair_decides _ _ (options_decide _ unplaced_text text_tree text_decides a.description b.description)
    (pair_decides _ _ (name_decides a.name b.name)
    (pair_decides _ _ (sets_decide component_text given_name component_name_tree (λ c. refl) a.implements_interfaces b.implements_interfaces)
    (pair_decides _ _ (directives_eq-Decides a.directives b.directives)
    (maps_decide name_text _ (plain_given unplaced_field_definition) (component_tree field_definition_tree) (λ x y. field_definition_eq-Decides (content x.node) (content y.node)) a.fields b.fields)))))
    (λ h i. record { kind = (plain_type (interface_type p a)).kind; description = h.0 i; name = h.1.0 i; directives = h.1.1.1.0 i; interfaces = h.1.1.0 i; fields = h.1.1.1.1 i; members = (plain_type (interface_type p a)).members; values = (plain_type (interface_type p a)).values; inputs = (plain_type (interface_type p a)).inputs })
    (λ e. (ap (λ (t : PlainType). t.description) e, (ap (λ (t : PlainType). t.name) e, (ap (λ (t : PlainType). t.interfaces) e, (ap (λ (t : PlainType). t.directives) e, ap (λ (t : PlainType). t.fields) e)))))

union_eq-Decides : (p q : Place) (a : UnionType) (b : UnionType) → Decides (union_impl.ghosts.eq a b) (plain_type (union_type p a) ≡ plain_type (union_type q b))
union_eq-Decides p q a b =
    through
    (pair_decides _ _ (options_decide _ unplaced_text text_tree text_decides a.description b.description)
    (pair_decides _ _ (name_decides a.name b.name)
    (pair_decides _ _ (directives_eq-Decides a.directives b.directives)
    (sets_decide component_text given_name component_name_tree (λ c. refl) a.members b.members))))
    (λ h i. record { kind = (plain_type (union_type p a)).kind; description = h.0 i; name = h.1.0 i; directives = h.1.1.0 i; interfaces = (plain_type (union_type p a)).interfaces; fields = (plain_type (union_type p a)).fields; members = h.1.1.1 i; values = (plain_type (union_type p a)).values; inputs = (plain_type (union_type p a)).inputs })
    (λ e. (ap (λ (t : PlainType). t.description) e, (ap (λ (t : PlainType). t.name) e, (ap (λ (t : PlainType). t.directives) e, ap (λ (t : PlainType). t.members) e))))

enum_eq-Decides : (p q : Place) (a : EnumType) (b : EnumType) → Decides (enum_impl.ghosts.eq a b) (plain_type (enum_type p a) ≡ plain_type (enum_type q b))
enum_eq-Decides p q a b =
    through
    (pair_decides _ _ (options_decide _ unplaced_text text_tree text_decides a.description b.description)
    (pair_decides _ _ (name_decides a.name b.name)
    (pair_decides _ _ (directives_eq-Decides a.directives b.directives)
    (maps_decide name_text _ (plain_given unplaced_enum_value) (component_tree enum_value_tree) (λ x y. enum_value_eq-Decides (content x.node) (content y.node)) a.values b.values))))
    (λ h i. record { kind = (plain_type (enum_type p a)).kind; description = h.0 i; name = h.1.0 i; directives = h.1.1.0 i; interfaces = (plain_type (enum_type p a)).interfaces; fields = (plain_type (enum_type p a)).fields; members = (plain_type (enum_type p a)).members; values = h.1.1.1 i; inputs = (plain_type (enum_type p a)).inputs })
    (λ e. (ap (λ (t : PlainType). t.description) e, (ap (λ (t : PlainType). t.name) e, (ap (λ (t : PlainType). t.directives) e, ap (λ (t : PlainType). t.values) e))))

input_object_eq-Decides : (p q : Place) (a : InputObjectType) (b : InputObjectType) → Decides (input_object_impl.ghosts.eq a b) (plain_type (input_object_type p a) ≡ plain_type (input_object_type q b))
input_object_eq-Decides p q a b =
    through
    (pair_decides _ _ (options_decide _ unplaced_text text_tree text_decides a.description b.description)
    (pair_decides _ _ (name_decides a.name b.name)
    (pair_decides _ _ (directives_eq-Decides a.directives b.directives)
    (maps_decide name_text _ (plain_given unplaced_input_value) (component_tree input_value_tree) (λ x y. input_value_eq-Decides (content x.node) (content y.node)) a.fields b.fields))))
    (λ h i. record { kind = (plain_type (input_object_type p a)).kind; description = h.0 i; name = h.1.0 i; directives = h.1.1.0 i; interfaces = (plain_type (input_object_type p a)).interfaces; fields = (plain_type (input_object_type p a)).fields; members = (plain_type (input_object_type p a)).members; values = (plain_type (input_object_type p a)).values; inputs = h.1.1.1 i })
    (λ e. (ap (λ (t : PlainType). t.description) e, (ap (λ (t : PlainType). t.name) e, (ap (λ (t : PlainType). t.directives) e, ap (λ (t : PlainType). t.inputs) e))))

pub type_eq-Decides : (a b : ExtendedType) → Decides (any_impl.ghosts.eq a b) (plain_type (extended_type a) ≡ plain_type (extended_type b))
type_eq-Decides (rust.Scalar m) (rust.Scalar n) = scalar_eq-Decides (place m) (place n) (content m) (content n)
type_eq-Decides (rust.Object m) (rust.Object n) = object_eq-Decides (place m) (place n) (content m) (content n)
type_eq-Decides (rust.Interface m) (rust.Interface n) = interface_eq-Decides (place m) (place n) (content m) (content n)
type_eq-Decides (rust.Union m) (rust.Union n) = union_eq-Decides (place m) (place n) (content m) (content n)
type_eq-Decides (rust.Enum m) (rust.Enum n) = enum_eq-Decides (place m) (place n) (content m) (content n)
type_eq-Decides (rust.InputObject m) (rust.InputObject n) = input_object_eq-Decides (place m) (place n) (content m) (content n)
type_eq-Decides _ _ = (λ h. cc, λ e. let k = ap (λ (t : PlainType). kind_number t.kind) e in absurd (omega arith))

pub roots_eq-Decides : (m n : Node SchemaDefinition) → Decides (roots_impl.ghosts.eq (content m) (content n)) (plain_roots (schema_roots m) ≡ plain_roots (schema_roots n))
roots_eq-Decides m n =
    let a = content m in
    let b = content n in
    through
    (pair_decides _ _ (options_decide _ unplaced_text text_tree text_decides a.description b.description)
    (pair_decides _ _ (directives_eq-Decides a.directives b.directives)
    (pair_decides _ _ (options_decide _ given_name component_name_tree component_name_eq-Decides a.query b.query)
    (pair_decides _ _ (options_decide _ given_name component_name_tree component_name_eq-Decides a.mutation b.mutation)
    (options_decide _ given_name component_name_tree component_name_eq-Decides a.subscription b.subscription)))))
    (λ h i. record { description = h.0 i; directives = h.1.0 i; query = h.1.1.0 i; mutation = h.1.1.1.0 i; subscription = h.1.1.1.1 i })
    (λ e. (ap (λ t. t.description) e, (ap (λ t. t.directives) e, (ap (λ t. t.query) e, (ap (λ t. t.mutation) e, ap (λ t. t.subscription) e)))))

pub ruleset equality = (type_eq-Decides, roots_eq-Decides)
