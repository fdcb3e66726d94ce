use Rattle.std.proofs.Common.{ap, ◌∙◌}
use Rattle.std.proofs.lemmas.Result.{on_ok_weaker}
use Rattle.graphql_names.specs.Placed.{node_tree}
use Rattle.tree_literals.specs.ValueTree.{value_tree}
use Rattle.tree_literals.specs.ValueQueries.{string_text}
use Rattle.tree_literals.specs.declared.value.Value.{Value}
use Rattle.rule_fragments.proofs.Labelled.{some_noted}
use Rattle.rule_fragments.proofs.labels.check_string_label.Goals as goal

pub returns-clause-noted : goal.returns-clause-noted
returns-clause-noted c =
    let text = c.in-Some.ensures ∙ ap (λ (x : Value). string_text (value_tree x)) c.content.ensures in
    on_ok_weaker c.duplicate_defer_label.result
    (λ told. some_noted c.args.places.now c.note_first.new.places (node_tree value_tree c.args.label.now) c.in-Some.text.now c.location-place.result text c.location-place.ensures c.in_ok-first.ensures.noted)
    c.duplicate_defer_label.ensures
