use Rattle.std.specs.Rc.{rc_str_bytes}
use Rattle.graphql_names.proofs.Narrowed.{range_of_range}
use Rattle.graphql_names.proofs.text_part.TextPart.narrowed.Goals as goal

pub returns : goal.returns
returns c =
    let part = c.args.self in
    range_of_range (rc_str_bytes part.whole) part.start part.end part.ordered part.ends.0 c.args.start c.args.end c.requires.ordered c.requires.ends.0
