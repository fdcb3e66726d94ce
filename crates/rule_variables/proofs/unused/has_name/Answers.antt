use Rattle.std.proofs.Common.{sym, ◌∙◌}
use Rattle.rule_variables.proofs.Names.{any_among}
use Rattle.rule_variables.proofs.unused.has_name.Goals as goal

pub returns : goal.returns
returns c =
    let among = any_among c.args.name.now.text c.args.names.now.keys in
    (λ h. among.0 (sym c.contains.ensures ∙ h), λ m. c.contains.ensures ∙ among.1 m)
