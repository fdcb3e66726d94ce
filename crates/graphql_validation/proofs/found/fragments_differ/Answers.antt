use Rattle.graphql_validation.proofs.Fragments.{names_distinct}
use Rattle.graphql_validation.proofs.found.fragments_differ.Goals as goal

pub returns : goal.returns
returns c = names_distinct c.args.document.now c.len.ensures.unique
