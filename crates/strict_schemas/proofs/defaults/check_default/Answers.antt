use Rattle.std.proofs.Common.{OnOk, Some, None, ◌≡◌, ap, subst, sym, ◌∙◌}
use Rattle.std.specs.Option.{option_map}
use Rattle.std.proofs.lemmas.Result.{on_ok_weaker}
use Rattle.graphql_names.specs.Node.{content, place}
use Rattle.graphql_names.specs.Placed.{Placed, Place, node_tree}
use Rattle.tree_literals.specs.ValueTree.{ValueTree, value_tree}
use Rattle.tree_directives.specs.declared.input_value.InputValueDefinition.{InputValueDefinition}
use Rattle.graphql_schema.specs.SchemaOf.{schema_tree}
use Rattle.rule_definitions.specs.Words.{Present}
use Rattle.rule_definitions.specs.PlacedFaults.{PlacedFault}
use Rattle.rule_definitions.proofs.Adding.{gains_same, gains_nothing}
use Rattle.rule_definitions.proofs.Listing.{present_known}
use Rattle.fault_data.specs.Adds.{Adds}
use Rattle.fault_data.specs.FaultView.{faults_of}
use Rattle.rule_values.specs.Wanting.{wanted_type}
use Rattle.strict_schemas.specs.Faults.{LiteralBreaks}
use Rattle.strict_schemas.proofs.SomeIndex.{absent}
use Rattle.strict_schemas.proofs.defaults.check_default.Goals as goal

pub returns-in-None : goal.returns-in-None
returns-in-None c =
    let s = schema_tree c.args.schema.now in
    let v = content c.args.input.now in
    let o = option_map (node_tree value_tree) v.default_value in
    let none : o ≡ None = ap (option_map (node_tree value_tree)) (ap (λ (x : InputValueDefinition). x.default_value) (sym c.content-own.ensures) ∙ c.in-None.is) in
    gains_nothing (faults_of c.args.faults.now) (λ (f : PlacedFault). Present o (λ x. LiteralBreaks s (wanted_type v.ty) x.place x.it f))
    (λ f. absent o (λ x. LiteralBreaks s (wanted_type v.ty) x.place x.it f) none)

pub returns-in-Some : goal.returns-in-Some
returns-in-Some c =
    let s = schema_tree c.args.schema.now in
    let own = c.content-own.result.now in
    let x = node_tree value_tree c.in-Some.value in
    let o = option_map (node_tree value_tree) own.default_value in
    let there : o ≡ Some x = ap (option_map (node_tree value_tree)) c.in-Some.is in
    subst (λ (d : InputValueDefinition). OnOk c.check_literal.result (Adds c.args.faults.now c.check_literal.new.faults (λ f. Present (option_map (node_tree value_tree) d.default_value) (λ y. LiteralBreaks s (wanted_type d.ty) y.place y.it f)))) c.content-own.ensures
    (on_ok_weaker c.check_literal.result
    (gains_same (faults_of c.args.faults.now) (faults_of c.check_literal.new.faults) (λ f. present_known o x (λ y. LiteralBreaks s (wanted_type own.ty) y.place y.it f) there))
    c.check_literal.ensures)
