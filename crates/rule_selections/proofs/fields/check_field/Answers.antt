use Rattle.std.proofs.Common.{◌∙◌, ap, subst}
use Rattle.std.proofs.lemmas.Result.{on_ok_weaker}
use Rattle.graphql_names.specs.Placed.{Place}
use Rattle.tree_directives.specs.DirectiveTree.{Arguments}
use Rattle.graphql_schema.specs.SchemaOf.{schema_tree}
use Rattle.document_typed_selections.specs.declared.selection.Field.{Field}
use Rattle.fault_data.specs.FaultView.{faults_of}
use Rattle.fault_data.specs.Adds.{Adds}
use Rattle.rule_definitions.specs.Room.{◌⊕◌}
use Rattle.rule_definitions.specs.Judged.{judged}
use Rattle.rule_definitions.specs.Uses.{GivenBreaks}
use Rattle.rule_arguments.specs.in_rule_values.Wanting.{variables_of}
use Rattle.rule_document_definitions.specs.PlacedDocumentFaults.{place_or_built_in}
use Rattle.rule_arguments.specs.Trees.{arguments_of}
use Rattle.rule_definitions.proofs.Adding.{gains_both, gains_list}
use Rattle.rule_selections.specs.SelectionFaults.{standing_field, missing_subselection}
use Rattle.rule_selections.proofs.FieldKinds.{lists_missing}
use Rattle.rule_selections.proofs.fields.check_field.Goals as goal

pub returns : goal.returns
returns c =
    let s = schema_tree c.args.schema.now in
    let vs = variables_of c.args.variables.now in
    let x = standing_field c.args.parent.now c.args.field.now in
    let a = faults_of c.args.faults.now in
    let b = faults_of c.missing_subselection.new.faults in
    let d = faults_of c.check_given.new.faults in
    let e = faults_of c.check_defined.new.faults in
    let given = ap arguments_of c.deref.ensures.value ∙ ap (λ (f : Field). arguments_of f.arguments.items) c.content.ensures in
    on_ok_weaker c.check_defined.result
    (λ h defined. gains_both a b e
    (gains_list a b (missing_subselection (judged s) x) (c.in_ok-missing_subselection.ensures ∙ ap (λ y. a ⊕ missing_subselection (judged (schema_tree y)) x) c.schema.ensures) (lists_missing s x))
    (gains_both b d e
    (subst (λ (l : Arguments Place). Adds c.missing_subselection.new.faults c.check_given.new.faults (GivenBreaks (place_or_built_in s) (judged s) vs l)) given (c.in_ok-check_given.ensures (place_or_built_in s) (judged s)))
    (h defined)))
    c.check_defined.ensures
