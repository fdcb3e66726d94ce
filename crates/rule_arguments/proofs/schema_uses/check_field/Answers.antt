use Rattle.std.proofs.Common.{ap, subst}
use Rattle.std.proofs.lemmas.Result.{on_ok_weaker}
use Rattle.graphql_names.specs.Placed.{Place}
use Rattle.tree_directives.specs.DirectiveTree.{Directives, InputValues, input_value_trees}
use Rattle.tree_directives.specs.declared.directive_location.DirectiveLocation.TheVariants as location
use Rattle.rule_values.specs.in_schema.SchemaOf.{schema_tree}
use Rattle.rule_values.specs.in_fault_data.FaultView.{faults_of}
use Rattle.rule_values.specs.in_fault_data.Adds.{Adds}
use Rattle.rule_arguments.specs.Trees.{directives_of}
use Rattle.rule_arguments.specs.SchemaUses.{UsesAt, ArgumentUses}
use Rattle.rule_values.proofs.in_fault_data.Adding.{gains_both}
use Rattle.rule_arguments.proofs.schema_uses.check_field.Goals as goal

pub returns : goal.returns
returns c =
    let s = schema_tree c.args.schema.now in
    on_ok_weaker c.check_arguments.result
    (λ h. gains_both (faults_of c.args.faults.now) (faults_of c.check_at.new.faults) (faults_of c.check_arguments.new.faults)
    (subst (λ (l : Directives Place). Adds c.args.faults.now c.check_at.new.faults (UsesAt s location.FieldDefinition l)) (ap directives_of c.deref.ensures.value) c.in_ok-check_at.ensures)
    (subst (λ (l : InputValues Place). Adds c.check_at.new.faults c.check_arguments.new.faults (ArgumentUses s l)) (ap input_value_trees c.deref-2.ensures.value) h))
    c.check_arguments.ensures
