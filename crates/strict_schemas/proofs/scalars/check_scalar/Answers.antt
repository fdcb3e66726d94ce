use Rattle.std.proofs.Common.{[], true≢false, List, ap, sym, subst, ◌∙◌, OnOk}
use Rattle.std.proofs.lemmas.Result.{on_ok_weaker}
use Rattle.graphql_names.specs.Placed.{Place}
use Rattle.graphql_names.specs.declared.node.Node.{Node}
use Rattle.tree_directives.specs.DirectiveTree.{Directives}
use Rattle.tree_directives.specs.declared.directive_location.DirectiveLocation.TheVariants as location
use Rattle.tree_operations.specs.declared.operation.VariableDefinition.{VariableDefinition}
use Rattle.schema_components.specs.Applied.{Applied}
use Rattle.schema_types.specs.TypeView.{extended_type}
use Rattle.schema_types.specs.Addresses.{place_at, applied}
use Rattle.graphql_schema.specs.SchemaOf.{schema_tree}
use Rattle.rule_definitions.specs.Judged.{judged}
use Rattle.rule_definitions.specs.Uses.{UsesBreak}
use Rattle.rule_definitions.proofs.Adding.{gains_same, gains_nothing}
use Rattle.fault_data.specs.Adds.{Adds}
use Rattle.fault_data.specs.FaultView.{faults_of}
use Rattle.rule_values.specs.Wanting.{variables_of}
use Rattle.rule_arguments.specs.Trees.{directives_of}
use Rattle.rule_arguments.specs.SchemaUses.{UsesAt}
use Rattle.strict_schemas.specs.Faults.{ScalarBreaks}
use Rattle.strict_schemas.proofs.scalars.check_scalar.Goals as goal

pub returns-then-not-is_built_in_scalar : goal.returns-then-not-is_built_in_scalar
returns-then-not-is_built_in_scalar c =
    gains_nothing (faults_of c.args.faults.now) (ScalarBreaks (schema_tree c.args.schema.now) (extended_type c.args.ty.now))
    (λ f h. true≢false (sym h.0 ∙ sym c.is_built_in_scalar.ensures ∙ c.if-not-is_built_in_scalar.true))

pub returns : goal.returns
returns c =
    let s = schema_tree c.args.schema.now in
    let t = extended_type c.args.ty.now in
    let is = sym c.is_built_in_scalar.ensures ∙ c.if-not-is_built_in_scalar.false in
    on_ok_weaker c.check_uses.result
    (λ told. gains_same (faults_of c.args.faults.now) (faults_of c.check_uses.new.faults) (λ f. (λ h. (is, h), λ h. h.1))
    (subst (λ (ds : Applied Place). Adds c.args.faults.now c.check_uses.new.faults (UsesAt s location.Scalar (applied s ds))) c.directives.ensures
    (subst (λ (ds : Directives Place). Adds c.args.faults.now c.check_uses.new.faults (UsesAt s location.Scalar ds)) (ap directives_of c.deref.ensures.value ∙ c.in_ok-nodes.ensures)
    (subst (λ (vs : List (Node VariableDefinition)). Adds c.args.faults.now c.check_uses.new.faults (UsesBreak (place_at s) (judged s) (variables_of vs) location.Scalar (directives_of c.deref.result.now))) c.listed-variables.ensures told))))
    c.check_uses.ensures
