use Rattle.std.proofs.Common.{◌++◌, [], ◌∷◌, map, is_some, sym, ap, ◌∙◌}
use Rattle.std.specs.Map.{lookup}
use Rattle.std.specs.Str.{bytes_eq}
use Rattle.std.proofs.lemmas.Result.{IfOk-weaker}
use Rattle.schema_fold.specs.BuildErrors.{DirectiveDefinitionCollision}
use Rattle.schema_fold.specs.FaultView.{faults_of}
use Rattle.schema_fold.specs.NumberedDefinition.{directive_name}
use Rattle.schema_fold.proofs.Keeping.{keeps_seen, keeps_new}
use Rattle.schema_fold_roots.specs.DirectiveFold.{directive_fault}
use Rattle.schema_fold_roots.specs.DirectivesView.{directive_view, entries_view}
use Rattle.schema_fold_roots.proofs.Choosing.{entry_view}
use Rattle.schema_fold_roots.proofs.directives.keep_directive.Goals as goal

pub returns-then-contains_key : goal.returns-then-contains_key
returns-then-contains_key c =
    let es = c.args.kept.now.entries in
    let faults = faults_of c.args.faults.now in
    let there = ap (λ d. is_some (lookup (λ k. bytes_eq d.name.text k.text) es)) (sym c.content.ensures) ∙ sym c.contains_key.ensures ∙ c.if-contains_key.true in
    IfOk-weaker _ _ _ (λ _ h. keeps_seen directive_name directive_fault directive_view es (directive_view c.args.node.now) faults (faults_of c.directive_definition_collision.new.faults) there
    (h ∙ (λ i. faults ++ record { place = c.location.ensures i; breach = DirectiveDefinitionCollision (c.content.ensures i).name.text } ∷ []))) c.directive_definition_collision.ensures

pub returns : goal.returns
returns c =
    let es = c.args.kept.now.entries in
    let absent = ap (λ d. is_some (lookup (λ k. bytes_eq d.name.text k.text) es)) (sym c.content.ensures) ∙ sym c.contains_key.ensures ∙ c.if-contains_key.false in
    IfOk-weaker _ _ _ (λ _ h. keeps_new directive_name directive_fault directive_view es (directive_view c.args.node.now) (entries_view c.insert_directive.new.kept) (faults_of c.args.faults.now) absent
    (h ∙ (λ i. map entry_view es ++ ((c.content.ensures i).name.text, directive_view c.args.node.now) ∷ []))) c.insert_directive.ensures
