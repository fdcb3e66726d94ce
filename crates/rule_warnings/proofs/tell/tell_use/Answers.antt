use Rattle.std.proofs.Common.{◌∙◌, sym, ap}
use Rattle.std.specs.Prelude.{Some}
use Rattle.std.specs.Option.{option_map, option_copied}
use Rattle.std.proofs.lemmas.Result.{on_ok_weaker}
use Rattle.graphql_names.specs.Placed.{name_tree, node_tree}
use Rattle.tree_directives.specs.DirectiveTree.{directive_tree, directives_tree}
use Rattle.tree_directives.specs.declared.directive.Directive.{Directive}
use Rattle.rule_definitions.specs.Room.{◌⊕◌}
use Rattle.rule_warnings.specs.Deprecated.{reason_given}
use Rattle.rule_warnings.specs.Views.{uses_of}
use Rattle.rule_warnings.specs.Telling.{use_by}
use Rattle.rule_warnings.proofs.Deprecations.{deprecation_found}
use Rattle.rule_warnings.proofs.tell.tell_use.Goals as goal

pub returns-in-None : goal.returns-in-None
returns-in-None c =
    ap (λ r. uses_of c.args.uses.now ⊕ use_by c.args.owner r (name_tree c.args.name.now))
    (ap (λ o. option_map (λ d. reason_given d.it.arguments) (option_map (node_tree directive_tree) (option_copied o))) (sym c.in-None.is)
    ∙ deprecation_found (directives_tree c.args.directives.now) (option_map (node_tree directive_tree) (option_copied c.get.result)) c.get.ensures)

pub returns-in-Some : goal.returns-in-Some
returns-in-Some c =
    on_ok_weaker c.tell_deprecated.result
    (λ told. told ∙ ap (λ r. uses_of c.args.uses.now ⊕ use_by c.args.owner r (name_tree c.args.name.now))
    (ap (λ (d : Directive). Some (reason_given (directive_tree d).arguments)) c.content.ensures
    ∙ ap (λ o. option_map (λ d. reason_given d.it.arguments) (option_map (node_tree directive_tree) (option_copied o))) (sym c.in-Some.is)
    ∙ deprecation_found (directives_tree c.args.directives.now) (option_map (node_tree directive_tree) (option_copied c.get.result)) c.get.ensures))
    c.tell_deprecated.ensures
