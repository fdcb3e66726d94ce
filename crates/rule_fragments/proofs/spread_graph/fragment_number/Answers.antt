use Rattle.std.proofs.Common.{◌∙◌}
use Rattle.rule_cycles.proofs.Numbering.{numbered}
use Rattle.rule_fragments.specs.SpreadViews.{fragment_meant}
use Rattle.rule_fragments.proofs.spread_graph.fragment_number.Goals as goal

pub returns : goal.returns
returns c = c.get_index_of.ensures.index ∙ numbered fragment_meant c.args.name.now c.args.fragments.now
