use Rattle.std.proofs.Common.{ℕ, List, map, subst, ap, ◌∙◌}
use Rattle.std.specs.Borrow.{Bor}
use Rattle.std.proofs.lemmas.Iterator.Consumers.{YieldsList-end, YieldsList-from_rest}
use Rattle.graphql_names.specs.NameValue.{NameValue}
use Rattle.graphql_names.specs.Placed.{Placed, Place}
use Rattle.graphql_names.specs.declared.node.Node.{Node}
use Rattle.tree_directives.specs.declared.input_value.InputValueDefinition.{InputValueDefinition}
use Rattle.tree_type_members.specs.TypeSystemTree.{FieldDefinitionTree}
use Rattle.tree_type_members.specs.declared.field_definition.FieldDefinition.{FieldDefinition}
use Rattle.schema_components.specs.Given.{Given}
use Rattle.schema_components.specs.declared.component.Component.{Component}
use Rattle.tree_directives.specs.DirectiveTree.{input_value_trees}
use Rattle.graphql_schema.specs.SchemaOf.{schema_tree}
use Rattle.rule_definitions.proofs.Adding.{gains_none, gains_more}
use Rattle.fault_data.specs.Adds.{Adds}
use Rattle.fault_data.specs.FaultView.{faults_of}
use Rattle.strict_schemas.specs.FaultsIn.{ArgumentDefaults, DefaultsIn}
use Rattle.strict_schemas.specs.Told.{field_entry}
use Rattle.strict_schemas.proofs.Pairs.{pairs_more}
use Rattle.strict_schemas.proofs.defaults.check_fields.Goals as goal

pub loop-field-init : goal.loop-field-init
loop-field-init c = gains_none {X = List ℕ × Given Place (Placed Place (FieldDefinitionTree Place))} (faults_of c.args.faults.now) (λ k e f. DefaultsIn (schema_tree c.args.schema.now) e.1.it.it.arguments f)

pub loop-field-preserved : goal.loop-field-preserved
loop-field-preserved c =
    let d : (Bor NameValue × Bor (Component FieldDefinition)) → NameValue × Component FieldDefinition = λ e. (e.0.now, e.1.now) in
    gains_more (faults_of c.args.faults.now) (faults_of c.loop-field.faults) (faults_of c.check_arguments.new.faults) (map field_entry (map d c.loop-field.yielded)) _ _
    (λ k e f. DefaultsIn (schema_tree c.args.schema.now) e.1.it.it.arguments f) (pairs_more field_entry d c.loop-field.yielded _) c.loop-field.invariant
    (subst (λ (l : List (Node InputValueDefinition)). Adds c.loop-field.faults c.check_arguments.new.faults (DefaultsIn (schema_tree c.args.schema.now) (input_value_trees l))) (c.as_slice-arguments.ensures.value ∙ ap (λ (x : FieldDefinition). x.arguments.items) c.content.ensures) c.in_ok-check_arguments.ensures)

pub returns : goal.returns
returns c =
    let all = YieldsList-end (YieldsList-from_rest c.args.fields.now.entries c.into_iter-field-iterator.ensures.into_iter_gives.0) c.loop-field.yielded c.loop-field.field-iterator c.loop-field.yielded_by c.next.result c.next.new.self c.in-None.is c.next.ensures.steps in
    subst (λ (l : List (NameValue × Component FieldDefinition)). Adds c.args.faults.now c.loop-field.faults (ArgumentDefaults (schema_tree c.args.schema.now) (map field_entry l))) all.0 c.loop-field.invariant
