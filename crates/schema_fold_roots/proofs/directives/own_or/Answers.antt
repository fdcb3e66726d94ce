use Rattle.std.proofs.Common.{Some, None, ap, ◌∙◌}
use Rattle.std.specs.Map.{lookup}
use Rattle.std.specs.Str.{bytes_eq}
use Rattle.schema_fold_roots.specs.DirectivesView.{directive_view}
use Rattle.schema_fold_roots.proofs.Choosing.{own_found}
use Rattle.schema_fold_roots.proofs.directives.own_or.Goals as goal

pub returns-in-Some : goal.returns-in-Some
returns-in-Some c =
    let es = c.args.own.now.entries in
    own_found es (directive_view c.args.node.now) (Some c.in-Some.own.now) (c.in-Some.ensures.value ∙ ap (λ d. lookup (λ k. bytes_eq d.name.text k.text) es) c.content.ensures)

pub returns-in-None : goal.returns-in-None
returns-in-None c =
    let es = c.args.own.now.entries in
    own_found es (directive_view c.args.node.now) None (c.in-None.ensures.value ∙ ap (λ d. lookup (λ k. bytes_eq d.name.text k.text) es) c.content.ensures)
