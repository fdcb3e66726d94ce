use Rattle.std.proofs.Common.{subst}
use Rattle.std.proofs.lemmas.Result.{on_ok_weaker}
use Rattle.tree_directives.specs.declared.directive_location.DirectiveLocation.TheVariants as location
use Rattle.schema_components.specs.Applied.{applied_tree}
use Rattle.rule_values.specs.in_schema.in_schema_types.Addresses.{applied}
use Rattle.rule_values.specs.in_schema.in_schema_types.declared.schema_definition.SchemaDefinition.{SchemaDefinition}
use Rattle.rule_values.specs.in_schema.SchemaOf.{schema_tree}
use Rattle.rule_values.specs.in_fault_data.FaultView.{faults_of}
use Rattle.rule_values.specs.in_fault_data.Adds.{Adds}
use Rattle.rule_values.specs.in_schema.declared.schema.Schema.{Schema}
use Rattle.rule_arguments.specs.SchemaUses.{UsesAt, TypesUses, DefinitionsUses}
use Rattle.rule_values.proofs.in_fault_data.Adding.{gains_both, gains_same}
use Rattle.rule_arguments.proofs.SchemaTold.{schema_uses_told}
use Rattle.rule_arguments.proofs.schema_uses.check_schema_directives.Goals as goal

pub returns : goal.returns
returns c =
    let s = schema_tree c.args.schema.now in
    let a = faults_of c.args.faults.now in
    let b = faults_of c.check_applied.new.faults in
    let d = faults_of c.check_types.new.faults in
    let e = faults_of c.check_definitions.new.faults in
    on_ok_weaker c.check_definitions.result
    (λ h. gains_same a e (schema_uses_told s c.requires)
    (gains_both a b e
    (subst (λ (x : Schema). Adds c.args.faults.now c.check_applied.new.faults (UsesAt s location.Schema (applied s (schema_tree x).definition.directives))) c.schema-whole.ensures
    (subst (λ (x : SchemaDefinition). Adds c.args.faults.now c.check_applied.new.faults (UsesAt s location.Schema (applied s (applied_tree x.directives)))) c.content.ensures c.in_ok-check_applied.ensures))
    (gains_both b d e (subst (λ (x : Schema). Adds c.check_applied.new.faults c.check_types.new.faults (TypesUses s (schema_tree x).types)) c.schema-whole.ensures c.in_ok-check_types.ensures)
    (subst (λ (x : Schema). Adds c.check_types.new.faults c.check_definitions.new.faults (DefinitionsUses s (schema_tree x).directives)) c.schema-whole.ensures h))))
    c.check_definitions.ensures
