use Rattle.std.proofs.Common.{◌<◌, ◌≤◌, ◌+◌, map, take, length, subst, arith}
use Rattle.std.proofs.lemmas.List.{take_all}
use Rattle.graphql_names.specs.Placed.{Place}
use Rattle.tree_directives.specs.declared.directive_location.DirectiveLocation.TheVariants as location
use Rattle.schema_types.specs.Addresses.{place_at}
use Rattle.graphql_schema.specs.SchemaOf.{schema_tree}
use Rattle.fault_data.specs.FaultView.{faults_of}
use Rattle.fault_data.specs.Adds.{Adds}
use Rattle.spec_document.specs.MeantTree.{MeantFragment}
use Rattle.rule_definitions.specs.Words.{AtSomeIndex}
use Rattle.rule_definitions.specs.Judged.{judged}
use Rattle.rule_definitions.specs.Uses.{UsesBreak}
use Rattle.rule_arguments.specs.in_rule_values.Wanting.{variables_of}
use Rattle.rule_definitions.proofs.Listing.{mapped_more}
use Rattle.rule_definitions.proofs.Adding.{gains_none, gains_more}
use Rattle.rule_reach.specs.Reach.{fragment_of}
use Rattle.rule_selections.proofs.selections.check_fragments.Goals as goal

pub loop-index-init : goal.loop-index-init
loop-index-init c =
    let s = schema_tree c.args.schema.now in
    gains_none {X = MeantFragment Place} (faults_of c.args.faults.now) (λ k x f. UsesBreak (place_at s) (judged s) (variables_of c.args.variables.now) location.FragmentDefinition x.directives f)

pub loop-index-preserved : goal.loop-index-preserved
loop-index-preserved c =
    let s = schema_tree c.args.schema.now in
    let xs = c.args.reach.now.fragments.items in
    let i = c.loop-index.index in
    let x = c.index.result.now in
    let h : i < length xs = omega arith in
    gains_more (faults_of c.args.faults.now) (faults_of c.loop-index.faults) (faults_of c.check_fragment.new.faults) (map fragment_of (take i xs)) (map fragment_of (take (i + 1) xs)) (fragment_of x)
    (λ k x f. UsesBreak (place_at s) (judged s) (variables_of c.args.variables.now) location.FragmentDefinition x.directives f) (mapped_more fragment_of xs i x h c.index.ensures) c.loop-index.invariant
    c.in_ok-check_fragment.ensures

pub returns : goal.returns
returns c =
    let past : length c.args.reach.now.fragments.items ≤ c.loop-index.index = omega arith in
    let s = schema_tree c.args.schema.now in
    subst (λ l. Adds c.args.faults.now c.loop-index.faults (λ f. AtSomeIndex (map fragment_of l) (λ i x. UsesBreak (place_at s) (judged s) (variables_of c.args.variables.now) location.FragmentDefinition x.directives f)))
    (take_all c.loop-index.index c.args.reach.now.fragments.items past) c.loop-index.invariant
