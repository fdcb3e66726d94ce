use Rattle.std.proofs.Common.{◌≡◌, ℕ, List, Some, Bor, sym, ap, ◌∙◌}
use Rattle.std.specs.Prelude.{option_and_then}
use Rattle.std.specs.Option.{option_map, option_or}
use Rattle.graphql_names.specs.NameValue.{NameValue}
use Rattle.graphql_names.specs.Placed.{Place}
use Rattle.tree_type_members.specs.TypeSystemTree.{field_definition_tree}
use Rattle.tree_type_members.specs.declared.field_definition.FieldDefinition.{FieldDefinition}
use Rattle.schema_components.specs.Given.{component_tree}
use Rattle.schema_components.specs.declared.component.Component.{Component}
use Rattle.schema_building.specs.in_schema_types.SchemaTree.{SchemaType, SchemaTree}
use Rattle.schema_building.specs.in_schema_types.Addresses.{under, type_at}
use Rattle.schema_building.specs.in_schema_types.TypeView.{extended_type}
use Rattle.schema_building.specs.in_schema_types.declared.extended_type.ExtendedType.{ExtendedType}
use Rattle.graphql_schema.specs.SchemaOf.{schema_tree}
use Rattle.graphql_schema.specs.LookUps.{meta_field_on, field_on, field_named}
use Rattle.graphql_schema.proofs.Lookups.{got_pair, found_key}
use Rattle.graphql_schema.proofs.schema.Schema.type_field.Goals as goal

abbrev type_of : Bor NameValue × Bor ExtendedType → SchemaType Place
type_of p = extended_type p.1.now

-- the field of a type that is there
on_type : (s : SchemaTree Place) (n m : List ℕ) (t : SchemaType Place) → type_at s n ≡ Some t → field_named s n m ≡ field_on s n t m
on_type s n m t at = ap (λ o. option_or (option_and_then (λ (t : SchemaType Place). under m t.fields) o) (option_and_then (λ (t : SchemaType Place). meta_field_on s n t m) o)) at

pub returns-in_default-clause-missing : goal.returns-in_default-clause-missing
returns-in_default-clause-missing c =
    sym (got_pair extended_type c.args.type_name.now c.args.self.now.types c.get_key_value.result c.get_key_value.ensures.value) ∙ ap (option_map type_of) c.in_default.is

pub returns-in-None-clause-missing : goal.returns-in-None-clause-missing
returns-in-None-clause-missing c =
    let at : type_at (schema_tree c.args.self.now) c.args.type_name.now.text ≡ Some (extended_type c.in-Some.ty.now) =
    sym (got_pair extended_type c.args.type_name.now c.args.self.now.types c.get_key_value.result c.get_key_value.ensures.value) ∙ ap (option_map type_of) c.in-Some.is in (
      found_key c.args.type_name.now c.in-Some.name.now c.args.self.now.types.entries (sym (ap (option_map (λ (p : Bor NameValue × Bor ExtendedType). p.0.now)) c.in-Some.is) ∙ c.get_key_value.ensures.key),
      (
        at,
        on_type (schema_tree c.args.self.now) c.args.type_name.now.text c.args.field_name.now.text (extended_type c.in-Some.ty.now) at ∙ sym c.field_on.ensures
            ∙ ap (option_map (λ (f : Bor (Component FieldDefinition)). component_tree field_definition_tree f.now)) c.in-None.is,
      ),
    )

pub returns-in-Some-field_on-clause-found : goal.returns-in-Some-field_on-clause-found
returns-in-Some-field_on-clause-found c =
    let at : type_at (schema_tree c.args.self.now) c.args.type_name.now.text ≡ Some (extended_type c.in-Some.ty.now) =
    sym (got_pair extended_type c.args.type_name.now c.args.self.now.types c.get_key_value.result c.get_key_value.ensures.value) ∙ ap (option_map type_of) c.in-Some.is in
    on_type (schema_tree c.args.self.now) c.args.type_name.now.text c.args.field_name.now.text (extended_type c.in-Some.ty.now) at ∙ sym c.field_on.ensures
    ∙ ap (option_map (λ (f : Bor (Component FieldDefinition)). component_tree field_definition_tree f.now)) c.in-Some-field_on.is
