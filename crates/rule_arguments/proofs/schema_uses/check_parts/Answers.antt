use Rattle.std.proofs.Common.{◌≡◌, ◌⊎◌, [], inl, inr, refl, sym, ap, ◌∙◌, subst, OnOk}
use Rattle.std.proofs.lemmas.Result.{on_ok_weaker}
use Rattle.graphql_names.specs.Node.{content, place}
use Rattle.graphql_names.specs.Placed.{Place}
use Rattle.graphql_names.specs.declared.node.Node.{Node}
use Rattle.tree_directives.specs.DirectiveTree.{input_value_tree}
use Rattle.tree_type_members.specs.TypeSystemTree.{field_definition_tree, enum_value_tree}
use Rattle.schema_components.specs.Names.{entries_of}
use Rattle.schema_components.specs.Given.{component_tree}
use Rattle.rule_values.specs.in_schema.in_schema_types.TypeView.{name_text, extended_type, object_type, interface_type, enum_type, input_object_type}
use Rattle.rule_values.specs.in_schema.in_schema_types.declared.extended_type.ExtendedType.{ExtendedType}
use Rattle.rule_values.specs.in_schema.in_schema_types.declared.extended_type.ExtendedType.TheVariants as kind
use Rattle.rule_values.specs.in_schema.in_schema_types.SchemaTree.{SchemaTree}
use Rattle.rule_values.specs.in_schema.in_schema_types.declared.kinds.ScalarType.{ScalarType}
use Rattle.rule_values.specs.in_schema.in_schema_types.declared.kinds.UnionType.{UnionType}
use Rattle.rule_values.specs.in_rule_definitions.PlacedFaults.{PlacedFault}
use Rattle.rule_values.specs.in_schema.in_schema_types.declared.kinds.ObjectType.{ObjectType}
use Rattle.rule_values.specs.in_schema.in_schema_types.declared.kinds.InterfaceType.{InterfaceType}
use Rattle.rule_values.specs.in_schema.in_schema_types.declared.kinds.EnumType.{EnumType}
use Rattle.rule_values.specs.in_schema.in_schema_types.declared.kinds.InputObjectType.{InputObjectType}
use Rattle.rule_values.specs.in_schema.SchemaOf.{schema_tree}
use Rattle.rule_values.specs.in_fault_data.FaultView.{faults_of}
use Rattle.rule_values.specs.in_fault_data.Adds.{Adds}
use Rattle.rule_arguments.specs.SchemaUses.{FieldsUses, ValuesUses, InputsUses, PartsUses}
use Rattle.rule_values.proofs.in_fault_data.Adding.{gains_same, gains_nothing}
use Rattle.rule_arguments.proofs.SchemaSteps.{only_fields, only_values, only_inputs, no_parts}
use Rattle.rule_arguments.proofs.schema_uses.check_parts.Goals as goal

pub returns-in-Object : goal.returns-in-Object
returns-in-Object c =
    let s = schema_tree c.args.schema.now in
    let own = c.in-Object.own in
    let t = object_type (place own) (content own) in
    subst (λ (x : ExtendedType). OnOk c.check_fields.result (Adds c.args.faults.now c.check_fields.new.faults (PartsUses s (extended_type x)))) (sym c.in-Object.is)
    (on_ok_weaker c.check_fields.result
    (λ h. gains_same (faults_of c.args.faults.now) (faults_of c.check_fields.new.faults) (only_fields s t refl refl)
    (subst (λ (x : ObjectType). Adds c.args.faults.now c.check_fields.new.faults (FieldsUses s (entries_of name_text (component_tree field_definition_tree) x.fields))) c.content.ensures h))
    c.check_fields.ensures)

pub returns-in-Interface : goal.returns-in-Interface
returns-in-Interface c =
    let s = schema_tree c.args.schema.now in
    let own = c.in-Interface.own in
    let t = interface_type (place own) (content own) in
    subst (λ (x : ExtendedType). OnOk c.check_fields-in-Interface.result (Adds c.args.faults.now c.check_fields-in-Interface.new.faults (PartsUses s (extended_type x)))) (sym c.in-Interface.is)
    (on_ok_weaker c.check_fields-in-Interface.result
    (λ h. gains_same (faults_of c.args.faults.now) (faults_of c.check_fields-in-Interface.new.faults) (only_fields s t refl refl)
    (subst (λ (x : InterfaceType). Adds c.args.faults.now c.check_fields-in-Interface.new.faults (FieldsUses s (entries_of name_text (component_tree field_definition_tree) x.fields))) c.content-in-Interface.ensures h))
    c.check_fields-in-Interface.ensures)

pub returns-in-Enum : goal.returns-in-Enum
returns-in-Enum c =
    let s = schema_tree c.args.schema.now in
    let own = c.in-Enum.own in
    let t = enum_type (place own) (content own) in
    subst (λ (x : ExtendedType). OnOk c.check_values.result (Adds c.args.faults.now c.check_values.new.faults (PartsUses s (extended_type x)))) (sym c.in-Enum.is)
    (on_ok_weaker c.check_values.result
    (λ h. gains_same (faults_of c.args.faults.now) (faults_of c.check_values.new.faults) (only_values s t refl refl)
    (subst (λ (x : EnumType). Adds c.args.faults.now c.check_values.new.faults (ValuesUses s (entries_of name_text (component_tree enum_value_tree) x.values))) c.content-in-Enum.ensures h))
    c.check_values.ensures)

pub returns-in-InputObject : goal.returns-in-InputObject
returns-in-InputObject c =
    let s = schema_tree c.args.schema.now in
    let own = c.in-InputObject.own in
    let t = input_object_type (place own) (content own) in
    subst (λ (x : ExtendedType). OnOk c.check_inputs.result (Adds c.args.faults.now c.check_inputs.new.faults (PartsUses s (extended_type x)))) (sym c.in-InputObject.is)
    (on_ok_weaker c.check_inputs.result
    (λ h. gains_same (faults_of c.args.faults.now) (faults_of c.check_inputs.new.faults) (only_inputs s t refl refl)
    (subst (λ (x : InputObjectType). Adds c.args.faults.now c.check_inputs.new.faults (InputsUses s (entries_of name_text (component_tree input_value_tree) x.fields))) c.content-in-InputObject.ensures h))
    c.check_inputs.ensures)

-- a scalar and a union have no parts
no_parts_in : (s : SchemaTree Place) (ty : ExtendedType) (x : ExtendedType) → ty ≡ x → (extended_type x).fields ≡ [] → (extended_type x).values ≡ [] → (extended_type x).inputs ≡ []
    → (f : PlacedFault) → PartsUses s (extended_type ty) f → ⊥
no_parts_in s ty x same v i n =
    no_parts s (extended_type ty)
    (ap (λ (y : ExtendedType). (extended_type y).fields) same ∙ v)
    (ap (λ (y : ExtendedType). (extended_type y).values) same ∙ i)
    (ap (λ (y : ExtendedType). (extended_type y).inputs) same ∙ n)

no_parts_there : (s : SchemaTree Place) (ty : ExtendedType) → ((x : Node ScalarType) × (ty ≡ kind.Scalar x)) ⊎ ((x : Node UnionType) × (ty ≡ kind.Union x))
    → (f : PlacedFault) → PartsUses s (extended_type ty) f → ⊥
no_parts_there s ty (inl q) = no_parts_in s ty (kind.Scalar q.0) q.1 refl refl refl
no_parts_there s ty (inr q) = no_parts_in s ty (kind.Union q.0) q.1 refl refl refl

pub returns-in-Scalar : goal.returns-in-Scalar
returns-in-Scalar c =
    let s = schema_tree c.args.schema.now in
    gains_nothing (faults_of c.args.faults.now) (PartsUses s (extended_type c.args.ty.now)) (no_parts_there s c.args.ty.now c.in-Scalar.is)

pub returns-in-Scalar-2 : goal.returns-in-Scalar-2
returns-in-Scalar-2 c =
    let s = schema_tree c.args.schema.now in
    gains_nothing (faults_of c.args.faults.now) (PartsUses s (extended_type c.args.ty.now)) (no_parts_there s c.args.ty.now c.in-Scalar.is)
