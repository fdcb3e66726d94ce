use Rattle.std.proofs.Common.{◌<◌, length, refl, ap, ◌∙◌, arith}
use Rattle.graphql_names.specs.Node.{content}
use Rattle.tree_literals.specs.ValueTree.{value_tree}
use Rattle.tree_literals.specs.ValueQueries.{is_null_value}
use Rattle.schema_inputs.proofs.Noted.{noted_next}
use Rattle.rule_values.proofs.objects.nulls_by_key.Goals as goal

pub loop-entry-preserved : goal.loop-entry-preserved
loop-entry-preserved c =
    let xs = c.args.entries.now in
    let i = c.loop-entry.entry-index in
    let x = c.entry-item.result in
    let h : i < length xs = omega arith in
    noted_next (λ e. e.0) (λ e. (e.0.text, is_null_value (value_tree (content e.1)))) (λ j e. e.1) c.loop-entry.nulls c.note_first.new.firsts x.0 c.is_null.result xs i x h c.entry-item.is refl
    (c.is_null.ensures ∙ ap (λ v. is_null_value (value_tree v)) c.content.ensures) c.in_ok-note_first.ensures.noted c.loop-entry.invariant
