use Rattle.std.specs.Rc.{rc_str_bytes}
use Rattle.std.proofs.lemmas.Result.{err_from_is_err_and}
use Rattle.read_grammar.specs.Grammar.{Derives}
use Rattle.read_types.specs.in_read_operations.Meanings.{in_file}
use Rattle.graphql_read.specs.ReadFaults.{definitions_tree}
use Rattle.graphql_read.proofs.Texts.{memory_due}
use Rattle.graphql_read.proofs.Soundness.{document_sound}
use Rattle.graphql_read.proofs.document_call.parse_shared_document.Goals as goal

pub returns-in_err-definitions-clause-only : goal.returns-in_err-definitions-clause-only
returns-in_err-definitions-clause-only c = λ tree d.
    let p = err_from_is_err_and c.from_residual.result c.from_residual.ensures.1 in
    rw (p.1, p.2) (c.in_err-definitions.ensures.only tree d)

pub returns-in_err-shared-clause-fault : goal.returns-in_err-shared-clause-fault
returns-in_err-shared-clause-fault c =
    let p = err_from_is_err_and c.from_residual-in_err-shared.result c.from_residual-in_err-shared.ensures.1 in
    rw (p.1, p.2) (memory_due (Derives (in_file c.args.file)) c.args.nesting (rc_str_bytes c.args.text.now))

pub returns-in_err-sources-clause-fault : goal.returns-in_err-sources-clause-fault
returns-in_err-sources-clause-fault c =
    let p = err_from_is_err_and c.from_residual-in_err-sources.result c.from_residual-in_err-sources.ensures.1 in
    rw (p.1, p.2) (memory_due (Derives (in_file c.args.file)) c.args.nesting (rc_str_bytes c.args.text.now))

pub returns-clause-only : goal.returns-clause-only
returns-clause-only c = λ tree d. c.in_ok-definitions.ensures.only tree d

pub returns-clause-sound : goal.returns-clause-sound
returns-clause-sound c =
    let tree = definitions_tree c.in_ok-definitions.definitions in
    document_sound c.args.file (rc_str_bytes c.args.text.now) tree c.in_ok-definitions.ensures.found.reads
