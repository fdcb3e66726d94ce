use Rattle.std.proofs.Common.{find, take, sym, ap, ◌∙◌}
use Rattle.std.proofs.lemmas.List.{take-map}
use Rattle.std.specs.Borrow.{Bor}
use Rattle.graphql_names.specs.Placed.{node_tree}
use Rattle.graphql_names.specs.declared.node.Node.{Node}
use Rattle.tree_directives.specs.DirectiveTree.{argument_tree}
use Rattle.tree_directives.specs.DirectiveQueries.{argument_has_name}
use Rattle.tree_directives.specs.declared.directive.Argument.{Argument}
use Rattle.rule_values.specs.in_rule_definitions.Names.{argument_name}
use Rattle.rule_values.specs.Firsts.{AreNumbers}
use Rattle.rule_arguments.specs.Trees.{arguments_of}
use Rattle.rule_arguments.proofs.Numbered.{found_none, first_number, if_there}
use Rattle.rule_arguments.proofs.taken.is_first.Goals as goal

pub returns-in-None : goal.returns-in-None
returns-in-None c =
    let xs = c.args.given.now in
    let n = c.args.name.now.text in
    found_none (λ (a : Bor (Node Argument)). node_tree argument_tree a.now) c.find_listed.result (find (argument_has_name n) (take c.args.index (arguments_of xs))) c.is_none.result c.is_none.ensures
    (c.find_listed.ensures ∙ ap (find (argument_has_name n)) (sym (take-map (node_tree argument_tree) c.args.index xs)))

pub returns-in-Some : goal.returns-in-Some
returns-in-Some c =
    let own = c.has_number.ensures in
    let same = first_number c.in-Some.numbers.now c.args.given.now c.args.index c.args.name.now (if_there c.args.numbers c.in-Some.numbers (λ m. AreNumbers argument_name m.now (arguments_of c.args.given.now)) c.in-Some.is c.requires.noted) c.requires.named in
    (λ t. same.0 (own.0 t), λ none. own.1 (same.1 none))
