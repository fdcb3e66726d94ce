use Rattle.std.proofs.Common.{IfSome, ap, subst, ◌∙◌}
use Rattle.tree_directives.specs.DirectiveTree.{input_value_trees}
use Rattle.schema_inputs.specs.Inputs.{required_inputs, AreKnown}
use Rattle.schema_inputs.proofs.KnownInputs.{required_again}
use Rattle.schema_inputs.proofs.arguments.DefinedArguments.with_required.Goals as goal

pub returns-in-Some : goal.returns-in-Some
returns-in-Some c =
    let nodes = c.self.inside.nodes.now in
    let are = subst (λ o. IfSome o (λ known. AreKnown (input_value_trees nodes) known.now)) c.in-Some.is c.self.invariant in
    ap (λ l. required_inputs (input_value_trees l)) c.as_slice.ensures.value ∙ ap required_inputs are.1 ∙ required_again (input_value_trees nodes)
    ∙ ap (λ l. required_inputs (input_value_trees l)) c.self.view_is
