use Rattle.std.proofs.Common.{◌<◌, length, refl, ap, arith}
use Rattle.graphql_names.specs.Placed.{node_tree}
use Rattle.tree_directives.specs.DirectiveTree.{input_value_tree}
use Rattle.tree_directives.specs.declared.input_value.InputValueDefinition.{InputValueDefinition}
use Rattle.schema_inputs.specs.Inputs.{input_name}
use Rattle.schema_inputs.proofs.Noted.{noted_next}
use Rattle.schema_inputs.proofs.known.definition_numbers.Goals as goal

pub loop-index-preserved : goal.loop-index-preserved
loop-index-preserved c =
    let xs = c.args.definitions.now in
    let i = c.loop-index.index in
    let x = c.index-definitions-index.result in
    let h : i < length xs = omega arith in
    noted_next input_name (node_tree input_value_tree) (λ j a. j) c.loop-index.numbers c.note_first.new.firsts c.content.result.now.name i xs i x h c.index-definitions-index.is
    (ap (λ (a : InputValueDefinition). a.name.text) c.content.ensures) refl c.in_ok-note_first.ensures.noted c.loop-index.invariant
