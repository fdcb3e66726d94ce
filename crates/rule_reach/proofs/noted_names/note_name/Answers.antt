use Rattle.std.proofs.Common.{map, ap, ◌∙◌}
use Rattle.std.specs.Str.{bytes_eq}
use Rattle.indexmap.specs.IndexSet.{insert_key}
use Rattle.graphql_names.specs.NameValue.{NameValue}
use Rattle.rule_reach.specs.NotedNames.{noted_names}
use Rattle.rule_reach.proofs.NotedNames.{inserted}
use Rattle.rule_reach.proofs.noted_names.note_name.Goals as goal

pub returns : goal.returns
returns c =
    ap (map (λ k. k.text)) c.in_ok-insert.ensures.keys
    ∙ inserted c.args.names.now.keys c.in_ok-name.name
    ∙ ap (λ (n : NameValue). insert_key bytes_eq (noted_names c.args.names.now) n.text) c.in_ok-name.ensures.same
