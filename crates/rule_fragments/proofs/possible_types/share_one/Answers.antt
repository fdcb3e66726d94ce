use Rattle.std.proofs.Common.{map, ◌∙◌}
use Rattle.schema_types.specs.TypeView.{name_text}
use Rattle.rule_fragments.proofs.Sharing.{shares_either}
use Rattle.rule_fragments.proofs.possible_types.share_one.Goals as goal

pub returns-else-len : goal.returns-else-len
returns-else-len c = c.some_is_in-else-len.ensures ∙ shares_either (map name_text c.args.b.now.keys) (map name_text c.args.a.now.keys)
