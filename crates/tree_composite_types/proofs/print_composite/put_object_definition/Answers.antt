use Rattle.std.proofs.Common.{rules}
use Rattle.tree_composite_types.proofs.print_composite.put_object_definition.Goals as goal

pub returns : goal.returns
returns g c =
    let part = g.met.S.Sink.part in
    part _ c.put_description.new.sink _ _ _ (search rules) (part _ c.put_head.new.sink _ _ _ (search rules) (part _ c.put_field_set.new.sink _ _ _ (search rules) (g.met.S.Sink.none _)))
