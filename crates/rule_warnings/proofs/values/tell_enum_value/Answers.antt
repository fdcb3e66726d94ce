use Rattle.std.proofs.Common.{◌∙◌, ap, sym}
use Rattle.std.specs.Option.{option_map}
use Rattle.std.proofs.lemmas.Result.{on_ok_weaker}
use Rattle.graphql_names.specs.Placed.{name_tree}
use Rattle.tree_directives.specs.DirectiveTree.{directives_tree, unplaced_directives}
use Rattle.tree_type_members.specs.TypeSystemTree.{EnumValueTree, enum_value_tree, unplaced_enum_value}
use Rattle.tree_type_members.specs.declared.enum_value.EnumValueDefinition.{EnumValueDefinition}
use Rattle.schema_components.specs.Given.{component_tree, plain_given}
use Rattle.schema_coordinates.specs.Coordinate.{OfAttribute}
use Rattle.graphql_schema.specs.SchemaOf.{schema_tree}
use Rattle.rule_definitions.specs.Judged.{judged}
use Rattle.rule_definitions.specs.Room.{◌⊕◌}
use Rattle.rule_warnings.specs.Deprecated.{deprecation, enum_value}
use Rattle.rule_warnings.specs.Views.{uses_of}
use Rattle.rule_warnings.specs.Told.{use_of}
use Rattle.rule_warnings.specs.declared.deprecated_use.UseKind.TheVariants as kind
use Rattle.rule_warnings.proofs.Found.{nothing_told, found_told}
use Rattle.rule_warnings.proofs.values.tell_enum_value.Goals as goal

pub returns-in-None : goal.returns-in-None
returns-in-None c =
    let n = name_tree c.args.name.now in
    nothing_told (λ (v : EnumValueTree (Unit {0})). use_of kind.EnumValue (OfAttribute c.args.ty.now.text n.it) (deprecation v.directives) n) (uses_of c.args.uses.now)
    (enum_value (judged (schema_tree c.args.schema.now)) c.args.ty.now.text n.it)
    (sym c.enum_value.ensures ∙ ap (option_map (λ v. plain_given unplaced_enum_value (component_tree enum_value_tree v.now))) c.in-None.is)

pub returns-in-Some : goal.returns-in-Some
returns-in-Some c =
    let n = name_tree c.args.name.now in
    let ty = c.args.ty.now.text in
    let old = uses_of c.args.uses.now in
    on_ok_weaker c.tell_use.result
    (λ told. found_told (λ (v : EnumValueTree (Unit {0})). use_of kind.EnumValue (OfAttribute ty n.it) (deprecation v.directives) n) old
    (enum_value (judged (schema_tree c.args.schema.now)) ty n.it) (plain_given unplaced_enum_value (component_tree enum_value_tree c.in-Some.value.now)) _
    (sym c.enum_value.ensures ∙ ap (option_map (λ v. plain_given unplaced_enum_value (component_tree enum_value_tree v.now))) c.in-Some.is)
    (told ∙ ap (λ (d : EnumValueDefinition). old ⊕ use_of kind.EnumValue (OfAttribute ty n.it) (deprecation (unplaced_directives (directives_tree d.directives))) n) c.content.ensures))
    c.tell_use.ensures
