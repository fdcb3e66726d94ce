use Rattle.std.proofs.Common.{map, ap, ◌∙◌}
use Rattle.schema_types.specs.TypeView.{name_text, extended_type}
use Rattle.graphql_rules.proofs.Putting.{put-insert}
use Rattle.graphql_rules.proofs.kept.put_type.Goals as goal

pub returns : goal.returns
returns c =
    ap (map (λ e. (name_text e.0, extended_type e.1))) c.in_ok-insert.ensures.entries
    ∙ put-insert extended_type c.args.name c.args.ty c.args.kept.now.entries
