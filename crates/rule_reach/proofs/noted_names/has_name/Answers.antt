use Rattle.std.proofs.Common.{◌∙◌}
use Rattle.rule_reach.proofs.NotedNames.{any_text}
use Rattle.rule_reach.proofs.noted_names.has_name.Goals as goal

pub returns : goal.returns
returns c = c.contains.ensures ∙ any_text c.args.name.now.text c.args.names.now.keys
