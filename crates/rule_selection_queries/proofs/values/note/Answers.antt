use Rattle.std.proofs.Common.{map, not, ap, ◌∙◌, bytes_eq}
use Rattle.std.specs.List.{list_any}
use Rattle.indexmap.specs.IndexSet.{insert_key}
use Rattle.graphql_names.specs.NameValue.{NameValue}
use Rattle.rule_selection_queries.specs.Tests.{noted_names}
use Rattle.rule_selection_queries.proofs.Noting.{any_text, inserted}
use Rattle.rule_selection_queries.proofs.values.note.Goals as goal

pub returns-clause-new : goal.returns-clause-new
returns-clause-new c =
    c.in_ok-insert.ensures.added
    ∙ ap not (any_text c.in_ok-name.name.text c.args.names.now.keys)
    ∙ ap (λ (n : NameValue). not (list_any (bytes_eq n.text) (noted_names c.args.names.now))) c.in_ok-name.ensures.same

pub returns-clause-noted : goal.returns-clause-noted
returns-clause-noted c =
    ap (map (λ k. k.text)) c.in_ok-insert.ensures.keys
    ∙ inserted c.args.names.now.keys c.in_ok-name.name
    ∙ ap (λ (n : NameValue). insert_key bytes_eq (noted_names c.args.names.now) n.text) c.in_ok-name.ensures.same
