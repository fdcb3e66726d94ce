use Rattle.std.proofs.Common.{◌∙◌, ap, subst}
use Rattle.std.proofs.lemmas.Result.{on_ok_weaker}
use Rattle.graphql_names.specs.Placed.{Place}
use Rattle.tree_directives.specs.DirectiveTree.{Arguments, Directives}
use Rattle.document_typed_selections.specs.TypedTree.{typed_selection_tree}
use Rattle.document_typed_selections.specs.declared.selection.Field.{Field}
use Rattle.fault_data.specs.FaultView.{faults_of}
use Rattle.fault_data.specs.Adds.{Adds}
use Rattle.rule_arguments.specs.Alone.{ArgumentsBreak, DirectivesAloneBreak}
use Rattle.rule_arguments.specs.Trees.{arguments_of, directives_of}
use Rattle.rule_definitions.proofs.Adding.{gains_both, gains_same, gains_nothing}
use Rattle.rule_selections.proofs.Members.{directives_meant, no_field, one_field}
use Rattle.rule_selections.proofs.alone.check_selection_alone.Goals as goal

pub returns-in-None : goal.returns-in-None
returns-in-None c parent =
    let t = typed_selection_tree c.args.selection.now in
    let a = faults_of c.args.faults.now in
    let b = faults_of c.check_directives_alone.new.faults in
    let used = ap directives_of c.deref.ensures.value ∙ c.directives.ensures ∙ directives_meant t in
    gains_both a b b
    (subst (λ (l : Directives Place). Adds c.args.faults.now c.check_directives_alone.new.faults (DirectivesAloneBreak l)) used c.in_ok-check_directives_alone.ensures)
    (gains_nothing b _ (λ f. no_field parent.text t c.in-None.ensures (λ x. ArgumentsBreak x.head.arguments f)))

pub returns-in-Some : goal.returns-in-Some
returns-in-Some c =
    let field = c.in-Some.field.now in
    let t = typed_selection_tree c.args.selection.now in
    let a = faults_of c.args.faults.now in
    let b = faults_of c.check_directives_alone.new.faults in
    let d = faults_of c.check_arguments_alone.new.faults in
    let used = ap directives_of c.deref.ensures.value ∙ c.directives.ensures ∙ directives_meant t in
    let given = ap arguments_of c.deref-in-Some.ensures.value ∙ ap (λ (f : Field). arguments_of f.arguments.items) c.content.ensures in
    on_ok_weaker c.check_arguments_alone.result
    (λ h parent. gains_both a b d
    (subst (λ (l : Directives Place). Adds c.args.faults.now c.check_directives_alone.new.faults (DirectivesAloneBreak l)) used c.in_ok-check_directives_alone.ensures)
    (gains_same b d (λ f. one_field parent field t c.in-Some.ensures (λ x. ArgumentsBreak x.head.arguments f))
    (subst (λ (l : Arguments Place). Adds c.check_directives_alone.new.faults c.check_arguments_alone.new.faults (ArgumentsBreak l)) given h)))
    c.check_arguments_alone.ensures
