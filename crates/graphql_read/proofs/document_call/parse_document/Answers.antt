use Rattle.std.proofs.lemmas.Result.{err_from_is_err_and}
use Rattle.read_grammar.specs.Grammar.{Derives}
use Rattle.read_types.specs.in_read_operations.Meanings.{in_file}
use Rattle.graphql_read.proofs.Texts.{memory_due}
use Rattle.graphql_read.proofs.document_call.parse_document.Goals as goal

pub returns-in_err-shared-clause-fault : goal.returns-in_err-shared-clause-fault
returns-in_err-shared-clause-fault c =
    let p = err_from_is_err_and c.from_residual.result c.from_residual.ensures.1 in
    rw (p.1, p.2) (memory_due (Derives (in_file c.args.file)) c.args.nesting c.args.text.now)
