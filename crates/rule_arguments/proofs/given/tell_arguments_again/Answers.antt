use Rattle.std.proofs.Common.{◌<◌, take, length, ap, ◌∙◌, arith}
use Rattle.graphql_names.specs.Placed.{node_tree}
use Rattle.tree_directives.specs.DirectiveTree.{argument_tree}
use Rattle.tree_directives.specs.declared.directive.Argument.{Argument}
use Rattle.rule_values.specs.in_fault_data.FaultView.{faults_of}
use Rattle.rule_values.specs.in_rule_definitions.Names.{argument_name}
use Rattle.rule_values.specs.Firsts.{first_told}
use Rattle.rule_values.proofs.in_inputs.Noted.{noted_next}
use Rattle.rule_arguments.specs.Trees.{arguments_of}
use Rattle.rule_arguments.specs.UseFaults.{repeated_argument}
use Rattle.rule_arguments.proofs.Again.{argument_again_is}
use Rattle.rule_values.proofs.in_fault_data.Adding.{places_more}
use Rattle.rule_arguments.proofs.given.tell_arguments_again.Goals as goal

pub loop-argument-preserved : goal.loop-argument-preserved
loop-argument-preserved c =
    let xs = c.args.given.now in
    let i = c.loop-argument.argument-index in
    let x = c.argument-item.result in
    let h : i < length xs = omega arith in
    let before = arguments_of (take i xs) in
    let noted = c.loop-argument.invariant.noted in
    let named = ap (λ (a : Argument). a.name.text) c.content.ensures in
    let first = c.in_ok-first.ensures.there ∙ noted c.content.result.now.name ∙ ap (first_told argument_name (λ j a. a.place) before) named in
    record {
      told = places_more (node_tree argument_tree) repeated_argument (faults_of c.args.faults.now) (faults_of c.loop-argument.faults) (faults_of c.unique_argument.new.faults) _ xs i x h c.argument-item.is c.loop-argument.invariant.told c.in_ok-unique_argument.ensures
          (argument_again_is before (node_tree argument_tree x) c.in_ok-first.first first);
      noted = noted_next argument_name (node_tree argument_tree) (λ j a. a.place) c.loop-argument.places c.note_first.new.firsts c.content.result.now.name c.location.result xs i x h c.argument-item.is named c.location.ensures
          c.in_ok-first.ensures.noted noted;
    }
