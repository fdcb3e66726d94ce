use Rattle.std.proofs.Common.{rules}
use Rattle.tree_directives.proofs.print_input.put_undescribed_directive.Goals as goal

pub returns : goal.returns
returns g c =
    let part = g.met.S.Sink.part in
    part _ c.put.new.self _ _ _ c.put.ensures (part _ c.put-2.new.self _ _ _ (search rules) (part _ c.put_argument_definitions.new.sink _ _ _ (search rules) (part _ c.put_directives.new.sink _ _ _ (search rules) (part _ c.put_repeatable.new.sink _ _ _ (search rules) (part _ c.put_locations.new.sink _ _ _ (search rules) (g.met.S.Sink.none _))))))
