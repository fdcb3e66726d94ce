use Rattle.std.proofs.Common.{◌++◌, [], ◌∷◌, map, is_some, sym, ap, ◌∙◌}
use Rattle.std.specs.Map.{lookup}
use Rattle.std.specs.Str.{bytes_eq}
use Rattle.std.proofs.lemmas.Result.{IfOk-weaker}
use Rattle.schema_fold_roots.specs.DirectivesView.{directive_view, entries_view}
use Rattle.schema_fold_roots.proofs.Choosing.{entry_view, chooses_seen, chooses_new}
use Rattle.schema_fold_roots.proofs.directives.choose.Goals as goal

pub returns-then-contains_key : goal.returns-then-contains_key
returns-then-contains_key c =
    let es = c.args.chosen.now.entries in
    let there = ap (λ d. is_some (lookup (λ k. bytes_eq d.name.text k.text) es)) (sym c.content.ensures) ∙ sym c.contains_key.ensures ∙ c.if-contains_key.true in
    chooses_seen (entries_view c.args.own.now) es (directive_view c.args.node.now) there

pub returns : goal.returns
returns c =
    let es = c.args.chosen.now.entries in
    let absent = ap (λ d. is_some (lookup (λ k. bytes_eq d.name.text k.text) es)) (sym c.content.ensures) ∙ sym c.contains_key.ensures ∙ c.if-contains_key.false in
    IfOk-weaker _ _ _ (λ _ h. chooses_new (entries_view c.args.own.now) es (directive_view c.args.node.now) (entries_view c.insert_directive.new.kept) absent
    (h ∙ (λ i. map entry_view es ++ ((c.content.ensures i).name.text, c.own_or.ensures i) ∷ []))) c.insert_directive.ensures
