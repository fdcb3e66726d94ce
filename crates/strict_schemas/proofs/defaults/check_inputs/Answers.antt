use Rattle.std.proofs.Common.{ℕ, List, map, subst}
use Rattle.std.specs.Borrow.{Bor}
use Rattle.std.proofs.lemmas.Iterator.Consumers.{YieldsList-end, YieldsList-from_rest}
use Rattle.graphql_names.specs.NameValue.{NameValue}
use Rattle.graphql_names.specs.Placed.{Placed, Place}
use Rattle.tree_directives.specs.DirectiveTree.{InputValueTree}
use Rattle.tree_directives.specs.declared.input_value.InputValueDefinition.{InputValueDefinition}
use Rattle.schema_components.specs.Given.{Given}
use Rattle.schema_components.specs.declared.component.Component.{Component}
use Rattle.graphql_schema.specs.SchemaOf.{schema_tree}
use Rattle.rule_definitions.proofs.Adding.{gains_none, gains_more}
use Rattle.fault_data.specs.Adds.{Adds}
use Rattle.fault_data.specs.FaultView.{faults_of}
use Rattle.strict_schemas.specs.Faults.{DefaultBreaks}
use Rattle.strict_schemas.specs.FaultsIn.{InputDefaults}
use Rattle.strict_schemas.specs.Told.{input_entry}
use Rattle.strict_schemas.proofs.Pairs.{pairs_more}
use Rattle.strict_schemas.proofs.defaults.check_inputs.Goals as goal

pub loop-field-init : goal.loop-field-init
loop-field-init c = gains_none {X = List ℕ × Given Place (Placed Place (InputValueTree Place))} (faults_of c.args.faults.now) (λ k e f. DefaultBreaks (schema_tree c.args.schema.now) e.1.it f)

pub loop-field-preserved : goal.loop-field-preserved
loop-field-preserved c =
    let d : (Bor NameValue × Bor (Component InputValueDefinition)) → NameValue × Component InputValueDefinition = λ e. (e.0.now, e.1.now) in
    gains_more (faults_of c.args.faults.now) (faults_of c.loop-field.faults) (faults_of c.check_default.new.faults) (map input_entry (map d c.loop-field.yielded)) _ _
    (λ k e f. DefaultBreaks (schema_tree c.args.schema.now) e.1.it f) (pairs_more input_entry d c.loop-field.yielded _) c.loop-field.invariant
    c.in_ok-check_default.ensures

pub returns : goal.returns
returns c =
    let all = YieldsList-end (YieldsList-from_rest c.args.fields.now.entries c.into_iter-field-iterator.ensures.into_iter_gives.0) c.loop-field.yielded c.loop-field.field-iterator c.loop-field.yielded_by c.next.result c.next.new.self c.in-None.is c.next.ensures.steps in
    subst (λ (l : List (NameValue × Component InputValueDefinition)). Adds c.args.faults.now c.loop-field.faults (InputDefaults (schema_tree c.args.schema.now) (map input_entry l))) all.0 c.loop-field.invariant
