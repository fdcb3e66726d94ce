use Rattle.std.proofs.lemmas.Str.{IsUtf8-had}
use Rattle.std.specs.Rc.{rc_str_bytes}
use Rattle.read_tokens.proofs.Ends.{cut_after}
use Rattle.read_tokens.proofs.next.token_part.Goals as goal

pub new-requires-clause-ends : goal.new-requires-clause-ends
new-requires-clause-ends c =
    let text = rc_str_bytes c.args.shared.now in
    cut_after text c.args.at (c.requires.0, c.args.length) c.requires.1 (IsUtf8-had text c.args.shared.now.text.value.ok)
