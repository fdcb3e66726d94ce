use Rattle.read_tokens.proofs.Ends.{cut_after}
use Rattle.read_tokens.proofs.next.token_text.Goals as goal

pub range-requires-clause-end_boundary : goal.range-requires-clause-end_boundary
range-requires-clause-end_boundary c = cut_after c.args.text.now c.args.at (c.requires.0, c.args.length) c.requires.1 c.utf8.text
