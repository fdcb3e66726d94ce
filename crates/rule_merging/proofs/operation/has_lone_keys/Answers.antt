use Rattle.std.proofs.Common.{refl, sym, subst}
use Rattle.std.specs.Prelude.{IsTrue}
use Rattle.std.specs.Result.{IfOk}
use Rattle.rule_field_groups.specs.in_typed_selections.TypedTree.{typed_set_tree}
use Rattle.rule_field_groups.specs.in_spec_document.MeantTree.{meant_of_set}
use Rattle.rule_field_groups.specs.in_sets.in_reach.in_typed_operations.DocumentView.{document_meant}
use Rattle.rule_field_groups.specs.in_document_definitions.ReadFields.{fragments_read, set_read}
use Rattle.rule_reach.specs.LoneKeys.{AreKeysLone}
use Rattle.rule_merging.proofs.Operating.{starts}
use Rattle.rule_merging.proofs.operation.has_lone_keys.Goals as goal

pub returns : goal.returns
returns c =
    let here = c.content.result.now in
    subst (λ v. IfOk c.keys_differ.result (λ is_lone. IsTrue is_lone → AreKeysLone (fragments_read (document_meant c.args.document.now)) (set_read v)))
    (sym (starts c.args.operation.now here (meant_of_set (typed_set_tree here.selection_set)) c.content.ensures refl))
    c.keys_differ.ensures
