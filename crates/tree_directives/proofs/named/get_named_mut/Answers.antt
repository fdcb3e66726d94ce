use Rattle.std.proofs.Common.{◌∙◌, refl}
use Rattle.tree_directives.specs.NamedNodes.{is_named}
use Rattle.tree_directives.proofs.NamedNodes.{nth_place-get, lent_item}
use Rattle.tree_directives.proofs.named.get_named_mut.Goals as goal

pub returns : goal.returns
returns g c = (
  rw (c.nth_place-place.ensures, c.deref.ensures.value) refl,
  lent_item _ _ _ c.get_mut.ensures.item
      ∙ rw (c.nth_place-place.ensures, c.deref.ensures.value) (nth_place-get (is_named g.T.Named.name_of c.args.name.now) c.args.position c.args.nodes.now.items),
)
