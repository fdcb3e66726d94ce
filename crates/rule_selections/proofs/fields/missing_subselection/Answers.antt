use Rattle.std.proofs.Common.{◌∙◌, ◌∷◌, [], ap, sym}
use Rattle.std.proofs.lemmas.Result.{IfOk-equal}
use Rattle.graphql_schema.specs.SchemaOf.{schema_tree}
use Rattle.schema_types.specs.Addresses.{type_at}
use Rattle.std.specs.Option.{option_map}
use Rattle.graphql_names.specs.Node.{content}
use Rattle.document_typed_selections.specs.TypedTree.{typed_set_tree, holds_none}
use Rattle.document_typed_selections.specs.declared.selection.Field.{Field}
use Rattle.fault_data.specs.FaultView.{faults_of}
use Rattle.rule_definitions.specs.Room.{◌⊕◌}
use Rattle.rule_selections.specs.SelectionFaults.{standing_field}
use Rattle.rule_selections.proofs.FieldKinds.{none_meant, output_name, missing_none, missing_told, missing_fine}
use Rattle.rule_selections.proofs.fields.missing_subselection.Goals as goal

pub returns-in_ok-told_missing-in-Some : goal.returns-in_ok-told_missing-in-Some
returns-in_ok-told_missing-in-Some c =
    let s = schema_tree c.args.schema.now in
    let x = standing_field c.args.parent.now c.args.field.now in
    let is = c.content-selected.ensures in
    let none = none_meant (typed_set_tree (content c.args.field.now).selection_set) ∙ sym (ap (λ (f : Field). holds_none (typed_set_tree f.selection_set)) is) ∙ sym c.is_empty.ensures ∙ c.if-not-is_empty.false in
    let named = output_name c.args.field.now c.content-selected.result.now c.ty.result.now c.inner_named_type.result.now is c.ty.ensures c.inner_named_type.ensures in
    let kind = c.kind_named.ensures ∙ ap (λ n. option_map (λ t. t.kind) (type_at s n)) named in
    IfOk-equal c.tell.result _ _ _ c.tell.ensures.told
    (ap (λ l. faults_of c.args.faults.now ⊕ l)
    (ap (λ f. f ∷ []) c.in_ok-told_missing-in-Some.ensures
    ∙ missing_told s x none c.kind_named.result kind c.in-Some.kind c.in-Some.is (sym c.is_composite.ensures ∙ c.if-is_composite.true)))

pub returns-in_default : goal.returns-in_default
returns-in_default c =
    let s = schema_tree c.args.schema.now in
    let x = standing_field c.args.parent.now c.args.field.now in
    let is = c.content-selected.ensures in
    let none = none_meant (typed_set_tree (content c.args.field.now).selection_set) ∙ sym (ap (λ (f : Field). holds_none (typed_set_tree f.selection_set)) is) ∙ sym c.is_empty.ensures ∙ c.if-not-is_empty.false in
    let named = output_name c.args.field.now c.content-selected.result.now c.ty.result.now c.inner_named_type.result.now is c.ty.ensures c.inner_named_type.ensures in
    let kind = c.kind_named.ensures ∙ ap (λ n. option_map (λ t. t.kind) (type_at s n)) named in
    ap (λ l. faults_of c.args.faults.now ⊕ l) (missing_fine s x none c.kind_named.result kind c.in-Some.kind c.in-Some.is (sym c.is_composite.ensures ∙ c.if-is_composite.false))

pub returns-in_default-2 : goal.returns-in_default-2
returns-in_default-2 c =
    let s = schema_tree c.args.schema.now in
    let x = standing_field c.args.parent.now c.args.field.now in
    let is = c.content-selected.ensures in
    let none = none_meant (typed_set_tree (content c.args.field.now).selection_set) ∙ sym (ap (λ (f : Field). holds_none (typed_set_tree f.selection_set)) is) ∙ sym c.is_empty.ensures ∙ c.if-not-is_empty.false in
    let named = output_name c.args.field.now c.content-selected.result.now c.ty.result.now c.inner_named_type.result.now is c.ty.ensures c.inner_named_type.ensures in
    let kind = c.kind_named.ensures ∙ ap (λ n. option_map (λ t. t.kind) (type_at s n)) named in
    ap (λ l. faults_of c.args.faults.now ⊕ l) (missing_none s x none c.kind_named.result kind c.in_default.is)
