use Rattle.std.proofs.Common.{◌≡◌, false, sym, ap, subst, ◌∙◌}
use Rattle.std.proofs.lemmas.Result.{on_ok_weaker}
use Rattle.graphql_names.specs.Placed.{Place}
use Rattle.graphql_names.specs.Places.{is_built_in}
use Rattle.tree_directives.specs.declared.directive_location.DirectiveLocation.{DirectiveLocation}
use Rattle.schema_components.specs.Applied.{Applied, applied_tree}
use Rattle.rule_values.specs.in_schema.in_schema_types.SchemaTree.{same_kind}
use Rattle.rule_values.specs.in_schema.in_schema_types.TypeView.{extended_type}
use Rattle.rule_values.specs.in_schema.in_schema_types.Addresses.{applied}
use Rattle.rule_values.specs.in_schema.in_schema_types.declared.type_kind.TypeKind.TheVariants as kind
use Rattle.rule_values.specs.in_schema.SchemaOf.{schema_tree}
use Rattle.rule_values.specs.in_fault_data.FaultView.{faults_of}
use Rattle.rule_values.specs.in_fault_data.Adds.{Adds}
use Rattle.rule_values.specs.in_rule_definitions.Judged.{is_built_in_scalar, type_location}
use Rattle.rule_arguments.specs.SchemaUses.{UsesAt}
use Rattle.rule_values.proofs.in_fault_data.Adding.{gains_same}
use Rattle.rule_arguments.proofs.SchemaSteps.{own_judged, first_fails, second_fails}
use Rattle.rule_arguments.proofs.schema_uses.check_own.Goals as goal
use Rattle.rule_arguments.proofs.schema_uses.check_own.Goals.{else-is_scalar-via-then-is_scalar+else-is_built_in, else-is_scalar-via-else-is_scalar}

pub returns : goal.returns
returns c =
    let s = schema_tree c.args.schema.now in
    let t = extended_type c.args.ty.now in
    let a = same_kind t.kind kind.Scalar in
    let b = is_built_in t.place in
    let judged : is_built_in_scalar t ≡ false = elim c.else-is_scalar.branch [
      | else-is_scalar-via-then-is_scalar+else-is_built_in w ↦ second_fails a b (sym w.is_built_in.ensures ∙ w.if-is_built_in.false)
      | else-is_scalar-via-else-is_scalar w ↦ first_fails a b (sym c.is_scalar.ensures ∙ w.if-is_scalar.false)
    ] in
    on_ok_weaker c.check_applied.result
    (λ h. gains_same (faults_of c.args.faults.now) (faults_of c.check_applied.new.faults) (own_judged s t judged)
    (subst (λ (ds : Applied Place). Adds c.args.faults.now c.check_applied.new.faults (UsesAt s (type_location t.kind) (applied s ds))) c.directives.ensures
    (subst (λ (l : DirectiveLocation). Adds c.args.faults.now c.check_applied.new.faults (UsesAt s l (applied s (applied_tree c.directives.result.now)))) (c.type_location.ensures ∙ ap type_location c.kind.ensures) h)))
    c.check_applied.ensures
