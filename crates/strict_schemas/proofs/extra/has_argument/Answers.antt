use Rattle.std.proofs.Common.{ap, subst, is_some, ◌∙◌}
use Rattle.std.specs.Option.{IfSome}
use Rattle.tree_directives.specs.DirectiveTree.{input_value_trees}
use Rattle.schema_inputs.specs.Firsts.{AreNumbers}
use Rattle.schema_inputs.specs.Inputs.{input_name}
use Rattle.strict_schemas.proofs.Numbered.{lent_some, first_some}
use Rattle.strict_schemas.proofs.extra.has_argument.Goals as goal

pub returns-in-Some : goal.returns-in-Some
returns-in-Some c =
    let vs = input_value_trees c.args.arguments.now in
    let are = subst (λ o. IfSome o (λ numbers. AreNumbers input_name numbers.now vs)) c.in-Some.is c.requires in
    c.is_some.ensures ∙ lent_some c.get.result ∙ ap is_some (c.get.ensures.value ∙ are c.args.name.now) ∙ first_some input_name (λ i x. i) vs c.args.name.now.text
