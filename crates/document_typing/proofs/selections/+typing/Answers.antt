use Rattle.std.proofs.Common.{◌≡◌, ◌++◌, arith, ap, sym, subst, ◌∙◌, IfSome}
use Rattle.std.proofs.lemmas.List.{append-nil, drop_all}
use Rattle.tree_operations.specs.SelectionTree.{selection_tree, selection_trees}
use Rattle.tree_operations.specs.declared.selection.Field.{Field}
use Rattle.document_typing.specs.KeptSelections.{kept_all}
use Rattle.document_typing.specs.MeaningView.{schema_under, meanings_under, meant_selections}
use Rattle.document_typing.specs.MeantTree.{set_on}
use Rattle.document_typing.specs.Telling.{IsDefinitionNamed}
use Rattle.document_typing.proofs.MeantSets.{meant-set}
use Rattle.document_typing.proofs.DefinedPlaces.{set-defined}
use Rattle.document_typing.proofs.Outcomes.{on-ok}
use Rattle.document_typing.proofs.selections.+typing.Goals as goal

pub type_set_on-returns-clause-kept : goal.type_set_on-returns-clause-kept
type_set_on-returns-clause-kept size c =
    let t = c.args.type_name.now.text in
    let m = meanings_under c.args.typing.now.schema in
    let rest = drop_all c.loop-selection.selection-index c.args.selections.now (omega arith) in
    let kept : meant_selections c.loop-selection.kept ≡ kept_all m (selection_trees selection_tree c.args.selections.now) t =
    sym (append-nil (meant_selections c.loop-selection.kept))
    ∙ ap (λ l. meant_selections c.loop-selection.kept ++ kept_all m (selection_trees selection_tree l) t) (sym rest)
    ∙ c.loop-selection.invariant.0 in
    meant-set _
    ∙ ap (λ n. set_on n.text (meant_selections c.loop-selection.kept)) c.in_ok-clone.ensures.same
    ∙ ap (set_on t) kept

pub type_set_on-returns-clause-defined : goal.type_set_on-returns-clause-defined
type_set_on-returns-clause-defined size c = set-defined (schema_under c.args.typing.now.schema) _ c.args.type_name.now.text (ap (λ n. n.text) c.in_ok-clone.ensures.same) c.loop-selection.invariant.2

pub type_field-returns-in-Some-clause-defined : goal.type_field-returns-in-Some-clause-defined
type_field-returns-in-Some-clause-defined size c =
    let s = schema_under c.args.typing.now.schema in
    let t = c.args.parent.now.text in
    let found = subst (λ r. IfSome r (λ d. IsDefinitionNamed s t c.content-tree.result.now.name d)) c.in-Some.is c.in_ok-definition_of.ensures.defined in
    let there = subst (λ (f : Field). IsDefinitionNamed s t f.name c.in-Some.definition) c.content-tree.ensures found in
    on-ok c.type_defined_field.result (λ h. h t there) c.type_defined_field.ensures.defined
