use Rattle.std.proofs.Common.{◌∙◌, ◌++◌, List, ap, append-nil}
use Rattle.std.specs.Borrow.{Bor}
use Rattle.std.specs.List.{flat_map}
use Rattle.std.proofs.lemmas.Result.{on_ok_weaker}
use Rattle.graphql_names.specs.NameValue.{NameValue}
use Rattle.document_typed_selections.specs.TypedTree.{typed_set_tree}
use Rattle.document_typed_selections.specs.declared.selection.Selection.{Selection}
use Rattle.graphql_schema.specs.SchemaOf.{schema_tree}
use Rattle.spec_document.specs.MeantTree.{meant_of_set}
use Rattle.rule_definitions.specs.Room.{◌⊕◌}
use Rattle.rule_warnings.specs.Views.{uses_of}
use Rattle.rule_warnings.specs.Told.{members_in, with_below, selection_uses}
use Rattle.rule_warnings.specs.Telling.{waiting_members}
use Rattle.rule_warnings.proofs.selections.tell_set.Goals as goal

pub returns : goal.returns
returns c =
    let s = schema_tree c.args.schema.now in
    let all = members_in (meant_of_set (typed_set_tree c.args.set.now)) in
    let old = uses_of c.args.uses.now in
    on_ok_weaker c.tell_set_and.result
    (λ told. told
    ∙ ap (λ (l : List (Bor NameValue × Bor Selection)). old ⊕ flat_map (selection_uses s) (all ++ flat_map with_below (waiting_members l))) c.new-waiting.ensures.items
    ∙ ap (λ l. old ⊕ flat_map (selection_uses s) l) (append-nil all))
    c.tell_set_and.ensures
