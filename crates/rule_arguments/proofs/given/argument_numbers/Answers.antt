use Rattle.std.proofs.Common.{◌<◌, length, refl, ap, arith}
use Rattle.graphql_names.specs.Placed.{node_tree}
use Rattle.tree_directives.specs.DirectiveTree.{argument_tree}
use Rattle.tree_directives.specs.declared.directive.Argument.{Argument}
use Rattle.rule_values.specs.in_rule_definitions.Names.{argument_name}
use Rattle.rule_values.proofs.in_inputs.Noted.{noted_next}
use Rattle.rule_arguments.proofs.given.argument_numbers.Goals as goal

pub loop-index-preserved : goal.loop-index-preserved
loop-index-preserved c =
    let xs = c.args.given.now in
    let i = c.loop-index.index in
    let x = c.index-given-index.result in
    let h : i < length xs = omega arith in
    noted_next argument_name (node_tree argument_tree) (λ j a. j) c.loop-index.numbers c.note_first.new.firsts c.content.result.now.name i xs i x h c.index-given-index.is
    (ap (λ (a : Argument). a.name.text) c.content.ensures) refl c.in_ok-note_first.ensures.noted c.loop-index.invariant
