use Rattle.std.proofs.lemmas.Str.{IsCharBoundary-start}
use Rattle.graphql_report.proofs.text_names.first_token.Goals as goal

pub next_token-requires : goal.next_token-requires
next_token-requires c = IsCharBoundary-start c.args.text.now c.utf8.text
