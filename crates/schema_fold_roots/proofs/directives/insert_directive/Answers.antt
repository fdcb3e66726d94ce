use Rattle.std.proofs.Common.{◌≡◌, ◌++◌, [], ◌∷◌, map, ap, ◌∙◌}
use Rattle.std.proofs.lemmas.List.{map-append}
use Rattle.std.proofs.lemmas.Result.{IfOk-weaker}
use Rattle.tree_directives.specs.DirectiveTree.{directive_definition_tree}
use Rattle.schema_fold_roots.specs.DirectivesView.{directive_view, entries_view}
use Rattle.schema_fold_roots.proofs.Choosing.{entry_view}
use Rattle.schema_fold_roots.proofs.directives.insert_directive.Goals as goal

pub returns : goal.returns
returns c =
    let es = c.args.kept.now.entries in
    let name = c.args.name.now in
    let shared = c.in_ok-shared.shared in
    let clone = c.in_ok-shared.ensures.cases in
    IfOk-weaker c.insert_new.result (λ _. c.insert_new.new.map.entries ≡ es ++ (name, shared) ∷ [])
    (λ _. entries_view c.insert_new.new.map ≡ map entry_view es ++ (name.text, directive_view c.args.node.now) ∷ [])
    (λ _ h. ap (map entry_view) h ∙ map-append entry_view es ((name, shared) ∷ [])
    ∙ (λ i. map entry_view es ++ (name.text, record { it = directive_definition_tree (clone.0 i); place = clone.1 i }) ∷ [])) c.insert_new.ensures
