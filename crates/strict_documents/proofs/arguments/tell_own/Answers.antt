use Rattle.std.proofs.Common.{◌∙◌, ap, sym}
use Rattle.std.specs.Option.{option_map, option_copied}
use Rattle.std.proofs.lemmas.Result.{on_ok_weaker}
use Rattle.document_typed_selections.specs.TypedTree.{typed_selection_tree}
use Rattle.document_typed_selections.specs.TypedParts.{typed_field_node}
use Rattle.document_typed_selections.specs.declared.selection.Field.{Field}
use Rattle.rule_definitions.specs.Room.{◌⊕◌}
use Rattle.strict_documents.specs.Given.{schema_of, variables_in, field_departures_of}
use Rattle.strict_documents.specs.DepartureViews.{departures_of}
use Rattle.strict_documents.proofs.Walked.{if_field, if_field_is}
use Rattle.strict_documents.proofs.arguments.tell_own.Goals as goal

pub returns-in-None : goal.returns-in-None
returns-in-None c =
    let s = schema_of c.args.strictness.now in
    let vs = variables_in c.args.strictness.now in
    let ty = c.args.parent.now.text in
    ap (λ l. departures_of c.args.departures.now ⊕ l)
    (ap (if_field s vs ty) (ap (λ o. option_map typed_field_node (option_copied o)) (sym c.in-None.is) ∙ c.as_field.ensures) ∙ if_field_is s vs ty (typed_selection_tree c.args.selection.now))

pub returns-in-Some : goal.returns-in-Some
returns-in-Some c =
    let s = schema_of c.args.strictness.now in
    let vs = variables_in c.args.strictness.now in
    let ty = c.args.parent.now.text in
    let old = departures_of c.args.departures.now in
    on_ok_weaker c.tell_field.result
    (λ told. told ∙ ap (λ (f : Field). old ⊕ field_departures_of c.args.strictness.now ty f) c.content.ensures
    ∙ ap (λ l. old ⊕ l)
    (ap (if_field s vs ty) (ap (λ o. option_map typed_field_node (option_copied o)) (sym c.in-Some.is) ∙ c.as_field.ensures) ∙ if_field_is s vs ty (typed_selection_tree c.args.selection.now)))
    c.tell_field.ensures
