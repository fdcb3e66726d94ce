use Rattle.std.proofs.Common.{sym, subst, ◌≡◌}
use Rattle.std.proofs.lemmas.Result.{on_ok_weaker}
use Rattle.schema_components.specs.Lists.{each_place}
use Rattle.rule_selection_queries.specs.in_reach.in_typed_operations.DocumentView.{document_meant}
use Rattle.rule_document_definitions.specs.DeferUses.{labels}
use Rattle.rule_fragments.specs.Labels.{values_meant, label_breaks}
use Rattle.rule_fragments.proofs.Labelled.{labels_told}
use Rattle.rule_fragments.proofs.labels.check_labels.Goals as goal

pub returns : goal.returns
returns c =
    let d = document_meant c.args.document.now in
    let vs = values_meant c.deref.result.now in
    let all = subst (λ l. values_meant l ≡ labels d) (sym c.deref.ensures.value) c.in_ok-labels.ensures in
    on_ok_weaker c.check_each_label.result (λ told. (each_place label_breaks vs, (told, labels_told d vs all))) c.check_each_label.ensures
