use Rattle.std.proofs.Common.{◌∙◌, ap, sym}
use Rattle.std.specs.Option.{option_map, option_copied}
use Rattle.std.proofs.lemmas.Result.{on_ok_weaker}
use Rattle.document_typed_selections.specs.TypedTree.{typed_selection_tree}
use Rattle.document_typed_selections.specs.TypedParts.{typed_field_node}
use Rattle.document_typed_selections.specs.declared.selection.Field.{Field}
use Rattle.graphql_schema.specs.SchemaOf.{schema_tree}
use Rattle.rule_definitions.specs.Room.{◌⊕◌}
use Rattle.rule_warnings.specs.Views.{uses_of}
use Rattle.rule_warnings.specs.Telling.{field_uses_of}
use Rattle.rule_warnings.proofs.Walked.{if_field, if_field_is}
use Rattle.rule_warnings.proofs.selections.tell_own.Goals as goal

pub returns-in-None : goal.returns-in-None
returns-in-None c =
    let s = schema_tree c.args.schema.now in
    let ty = c.args.parent.now.text in
    ap (λ l. uses_of c.args.uses.now ⊕ l)
    (ap (if_field s ty) (ap (λ o. option_map typed_field_node (option_copied o)) (sym c.in-None.is) ∙ c.as_field.ensures) ∙ if_field_is s ty (typed_selection_tree c.args.selection.now))

pub returns-in-Some : goal.returns-in-Some
returns-in-Some c =
    let s = schema_tree c.args.schema.now in
    let ty = c.args.parent.now.text in
    let old = uses_of c.args.uses.now in
    on_ok_weaker c.tell_field.result
    (λ told. told ∙ ap (λ (f : Field). old ⊕ field_uses_of s c.args.parent.now f) c.content.ensures
    ∙ ap (λ l. old ⊕ l)
    (ap (if_field s ty) (ap (λ o. option_map typed_field_node (option_copied o)) (sym c.in-Some.is) ∙ c.as_field.ensures) ∙ if_field_is s ty (typed_selection_tree c.args.selection.now)))
    c.tell_field.ensures
