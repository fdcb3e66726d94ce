use Rattle.std.proofs.Common.{ap, subst}
use Rattle.std.specs.Option.{option_map}
use Rattle.std.proofs.lemmas.Result.{on_ok_weaker}
use Rattle.graphql_names.specs.Placed.{name_tree}
use Rattle.tree_directives.specs.DirectiveTree.{directives_tree, unplaced_directives}
use Rattle.tree_type_members.specs.TypeSystemTree.{field_definition_tree, unplaced_field_definition}
use Rattle.tree_type_members.specs.declared.field_definition.FieldDefinition.{FieldDefinition}
use Rattle.schema_components.specs.Given.{component_tree, plain_given}
use Rattle.schema_coordinates.specs.Coordinate.{OfAttribute, OfArgument}
use Rattle.document_typed_selections.specs.TypedParts.{typed_head}
use Rattle.graphql_schema.specs.SchemaOf.{schema_tree}
use Rattle.graphql_schema.specs.LookUps.{IsFieldNamed, FieldIsMissing}
use Rattle.rule_definitions.specs.Judged.{judged}
use Rattle.rule_warnings.specs.Deprecated.{deprecation, field_definition}
use Rattle.rule_warnings.specs.Views.{uses_of}
use Rattle.rule_warnings.specs.Told.{use_of, given_uses, defined_uses}
use Rattle.rule_warnings.specs.Telling.{plain_definitions, given_arguments}
use Rattle.rule_warnings.specs.declared.deprecated_use.UseKind.TheVariants as kind
use Rattle.rule_warnings.proofs.Found.{nothing_told, found_told, both_told}
use Rattle.rule_warnings.proofs.Walked.{missing_field}
use Rattle.rule_warnings.proofs.selections.tell_field.Goals as goal

pub arguments_of_field-defined-requires : goal.arguments_of_field-defined-requires
arguments_of_field-defined-requires c =
    subst (λ x. IsFieldNamed (schema_tree x) c.args.parent.now.text c.args.field.now.name.text (component_tree field_definition_tree c.in-Ok.definition.now)) c.schema.ensures c.in-Ok.ensures.found

pub returns-in-Err : goal.returns-in-Err
returns-in-Err c =
    let t = schema_tree c.args.schema.now in
    let ty = c.args.parent.now.text in
    let f = c.args.field.now in
    let missing = subst (λ x. FieldIsMissing (schema_tree x) ty f.name.text c.in-Err.field-0) c.schema.ensures c.in-Err.ensures.missing in
    nothing_told (defined_uses (judged t) ty (typed_head f)) (uses_of c.args.uses.now) (field_definition t ty f.name.text)
    (ap (option_map (plain_given unplaced_field_definition)) (missing_field t ty f.name.text c.in-Err.field-0 missing))

pub returns-in_ok-tell_use-in-Ok : goal.returns-in_ok-tell_use-in-Ok
returns-in_ok-tell_use-in-Ok c =
    let t = schema_tree c.args.schema.now in
    let s = judged t in
    let ty = c.args.parent.now.text in
    let f = c.args.field.now in
    let n = name_tree f.name in
    let old = uses_of c.args.uses.now in
    let new = uses_of c.tell_given.new.uses in
    let component = component_tree field_definition_tree c.in-Ok.definition.now in
    let found = subst (λ x. IsFieldNamed (schema_tree x) ty f.name.text component) c.schema.ensures c.in-Ok.ensures.found in
    on_ok_weaker c.tell_given.result
    (λ told. found_told (defined_uses s ty (typed_head f)) old (field_definition t ty f.name.text) (plain_given unplaced_field_definition component) new
    (ap (option_map (plain_given unplaced_field_definition)) found)
    (both_told old (uses_of c.tell_use.new.uses) new _ _ _ _ c.in_ok-tell_use-in-Ok.ensures told
    (ap (λ (d : FieldDefinition). use_of kind.Field (OfAttribute ty n.it) (deprecation (unplaced_directives (directives_tree d.directives))) n) c.content.ensures)
    (λ i. given_uses s kind.Argument (OfArgument ty n.it) (plain_definitions (c.arguments_of_field-defined.ensures i)) (given_arguments (c.as_slice.ensures.value i)))))
    c.tell_given.ensures
