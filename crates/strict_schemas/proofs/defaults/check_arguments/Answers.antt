use Rattle.std.proofs.Common.{◌<◌, ◌+◌, take, length, subst, arith}
use Rattle.std.proofs.lemmas.List.{take_all}
use Rattle.graphql_names.specs.Placed.{Placed, Place, node_tree}
use Rattle.tree_directives.specs.DirectiveTree.{InputValueTree, input_value_tree, input_value_trees}
use Rattle.graphql_schema.specs.SchemaOf.{schema_tree}
use Rattle.rule_definitions.proofs.Adding.{gains_none, gains_more}
use Rattle.rule_definitions.proofs.Listing.{mapped_more}
use Rattle.fault_data.specs.Adds.{Adds}
use Rattle.fault_data.specs.FaultView.{faults_of}
use Rattle.strict_schemas.specs.Faults.{DefaultBreaks}
use Rattle.strict_schemas.specs.FaultsIn.{DefaultsIn}
use Rattle.strict_schemas.proofs.defaults.check_arguments.Goals as goal

pub loop-argument-init : goal.loop-argument-init
loop-argument-init c = gains_none {X = Placed Place (InputValueTree Place)} (faults_of c.args.faults.now) (λ k v f. DefaultBreaks (schema_tree c.args.schema.now) v f)

pub loop-argument-preserved : goal.loop-argument-preserved
loop-argument-preserved c =
    let xs = c.args.arguments.now in
    let i = c.loop-argument.argument-index in
    let x = c.argument-item.result in
    let h : i < length xs = omega arith in
    gains_more (faults_of c.args.faults.now) (faults_of c.loop-argument.faults) (faults_of c.check_default.new.faults) (input_value_trees (take i xs)) (input_value_trees (take (i + 1) xs)) (node_tree input_value_tree x)
    (λ k v f. DefaultBreaks (schema_tree c.args.schema.now) v f) (mapped_more (node_tree input_value_tree) xs i x h c.argument-item.is) c.loop-argument.invariant c.in_ok-check_default.ensures

pub returns : goal.returns
returns c = subst (λ l. Adds c.args.faults.now c.loop-argument.faults (DefaultsIn (schema_tree c.args.schema.now) (input_value_trees l)))
    (take_all c.loop-argument.argument-index c.args.arguments.now c.loop-argument-test.false) c.loop-argument.invariant
