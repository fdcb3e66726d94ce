use Rattle.std.proofs.Common.{ℕ, List, map, subst}
use Rattle.std.specs.Borrow.{Bor}
use Rattle.std.proofs.lemmas.Iterator.Consumers.{YieldsList-end, YieldsList-from_rest}
use Rattle.graphql_names.specs.NameValue.{NameValue}
use Rattle.graphql_names.specs.Placed.{Placed, Place}
use Rattle.schema_components.specs.declared.component.Component.{Component}
use Rattle.tree_type_members.specs.declared.field_definition.FieldDefinition.{FieldDefinition}
use Rattle.tree_type_members.specs.TypeSystemTree.{FieldDefinitionTree, field_definition_tree}
use Rattle.schema_components.specs.Given.{Given, component_tree}
use Rattle.rule_values.specs.in_schema.in_schema_types.TypeView.{name_text}
use Rattle.rule_values.specs.in_schema.SchemaOf.{schema_tree}
use Rattle.rule_values.specs.in_fault_data.FaultView.{faults_of}
use Rattle.rule_values.specs.in_fault_data.Adds.{Adds}
use Rattle.rule_arguments.specs.SchemaUses.{FieldUses, FieldsUses}
use Rattle.rule_values.proofs.in_fault_data.Adding.{gains_none, gains_more}
use Rattle.rule_arguments.proofs.SchemaSteps.{pairs_more}
use Rattle.rule_arguments.proofs.schema_uses.check_fields.Goals as goal

pub loop-field-init : goal.loop-field-init
loop-field-init c =
    let s = schema_tree c.args.schema.now in
    gains_none {X = List ℕ × Given Place (Placed Place (FieldDefinitionTree Place))} (faults_of c.args.faults.now) (λ k e f. FieldUses s e.1.it.it f)

pub loop-field-preserved : goal.loop-field-preserved
loop-field-preserved c =
    let s = schema_tree c.args.schema.now in
    let g : NameValue × Component FieldDefinition → List ℕ × Given Place (Placed Place (FieldDefinitionTree Place)) = λ e. (name_text e.0, component_tree field_definition_tree e.1) in
    let d : (Bor NameValue × Bor (Component FieldDefinition)) → NameValue × Component FieldDefinition = λ e. (e.0.now, e.1.now) in
    gains_more (faults_of c.args.faults.now) (faults_of c.loop-field.faults) (faults_of c.check_field.new.faults) (map g (map d c.loop-field.yielded)) _ _
    (λ k e f. FieldUses s e.1.it.it f) (pairs_more g d c.loop-field.yielded _) c.loop-field.invariant
    (subst (λ (x : FieldDefinition). Adds c.loop-field.faults c.check_field.new.faults (FieldUses s (field_definition_tree x))) c.content.ensures c.in_ok-check_field.ensures)

pub returns : goal.returns
returns c =
    let all = YieldsList-end (YieldsList-from_rest c.args.fields.now.entries c.into_iter-field-iterator.ensures.into_iter_gives.0) c.loop-field.yielded c.loop-field.field-iterator c.loop-field.yielded_by c.next.result c.next.new.self c.in-None.is c.next.ensures.steps in
    subst (λ (l : List (NameValue × Component FieldDefinition)). Adds c.args.faults.now c.loop-field.faults (FieldsUses (schema_tree c.args.schema.now) (map (λ e. (name_text e.0, component_tree field_definition_tree e.1)) l))) all.0 c.loop-field.invariant
