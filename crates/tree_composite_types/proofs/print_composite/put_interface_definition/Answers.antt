use Rattle.std.proofs.Common.{rules, codes, map, subst}
use Rattle.tree_literals.specs.in_names.Placed.{name_tree}
use Rattle.tree_type_members.specs.in_directives.DirectiveTree.{directives_tree}
use Rattle.tree_type_members.specs.TypeSystemLayout.{head_text}
use Rattle.tree_composite_types.proofs.print_composite.put_interface_definition.Goals as goal

pub returns : goal.returns
returns g c =
    let part = g.met.S.Sink.part in
    let head = subst (λ names. g.S.Sink.puts c.put_description.new.sink (head_text (codes "interface ") (name_tree c.args.definition.now.name) (map name_tree names) (directives_tree c.args.definition.now.directives)) c.put_head.new.sink) c.deref.ensures.value c.put_head.ensures in
    part _ c.put_description.new.sink _ _ _ (search rules) (part _ c.put_head.new.sink _ _ _ head (part _ c.put_field_set.new.sink _ _ _ (search rules) (g.met.S.Sink.none _)))
