use Rattle.std.proofs.Common.{◌∙◌, ◌++◌, ap}
use Rattle.std.specs.List.{flat_map}
use Rattle.std.proofs.lemmas.Grind.{flat_map-append}
use Rattle.std.proofs.lemmas.Result.{on_ok_weaker}
use Rattle.document_typed_selections.specs.TypedTree.{typed_set_tree}
use Rattle.graphql_schema.specs.SchemaOf.{schema_tree}
use Rattle.spec_document.specs.MeantTree.{meant_of_set}
use Rattle.rule_definitions.specs.Room.{◌⊕◌}
use Rattle.rule_warnings.specs.Views.{uses_of}
use Rattle.rule_warnings.specs.Told.{members_of, with_below, selection_uses}
use Rattle.rule_warnings.specs.Telling.{waiting_members}
use Rattle.rule_warnings.proofs.Waiting.{all_flat}
use Rattle.rule_warnings.proofs.selections.tell_set_and.Goals as goal

pub returns : goal.returns
returns c =
    let s = schema_tree c.args.schema.now in
    let v = meant_of_set (typed_set_tree c.args.set.now) in
    let old = waiting_members c.args.waiting.items in
    let all = ap (flat_map with_below) c.in_ok-push_members.ensures ∙ flat_map-append with_below (members_of v) old ∙ ap (λ l. l ++ flat_map with_below old) (all_flat v) in
    on_ok_weaker c.tell_waiting.result (λ told. told ∙ ap (λ l. uses_of c.args.uses.now ⊕ flat_map (selection_uses s) l) all) c.tell_waiting.ensures
