use Rattle.std.proofs.Common.{refl, sym, subst, ◌∙◌}
use Rattle.std.specs.Rc.{rc_str_bytes}
use Rattle.read_grammar.specs.Grammar.{Derives}
use Rattle.read_grammar.proofs.Documents.{document_parses}
use Rattle.read_grammar.proofs.ViableDocuments.{document_viable}
use Rattle.read_types.specs.in_read_operations.Meanings.{in_file}
use Rattle.graphql_read.specs.ReadFaults.{fault_view, definitions_tree}
use Rattle.graphql_read.specs.Reads.{IsDue}
use Rattle.graphql_read.proofs.Texts.{begins, found, only, memory, due}
use Rattle.graphql_read.proofs.Bounds.{not_passed, lies_in, passes_bound}
use Rattle.graphql_read.proofs.document_call.parse_definitions.Goals as goal

pub returns-in-Ok-clause-found : goal.returns-in-Ok-clause-found
returns-in-Ok-clause-found c = found (document_parses (in_file c.args.file)) refl c.args.nesting (rc_str_bytes c.args.text.now) c.new-tokens.result (begins _ c.new-tokens.result c.new-tokens.ensures.shows) c.new-tokens.ensures.lexed (definitions_tree c.in-Ok.found) c.whole_document.new.tokens c.in-Ok.ensures

pub returns-in-Ok-clause-only : goal.returns-in-Ok-clause-only
returns-in-Ok-clause-only c = λ tree d. only (document_parses (in_file c.args.file)) refl c.args.nesting (rc_str_bytes c.args.text.now) c.new-tokens.result (begins _ c.new-tokens.result c.new-tokens.ensures.shows) c.new-tokens.ensures.lexed (definitions_tree c.in-Ok.found) tree c.whole_document.new.tokens c.in-Ok.ensures d

pub returns-in-Err-clause-only : goal.returns-in-Err-clause-only
returns-in-Err-clause-only c = λ tree d. c.fault.ensures ∙ memory (document_parses (in_file c.args.file)) refl c.args.nesting (rc_str_bytes c.args.text.now) c.new-tokens.result (begins _ c.new-tokens.result c.new-tokens.ensures.shows) c.new-tokens.ensures.lexed c.in-Err.stop c.whole_document.new.tokens tree c.in-Err.ensures d

pub returns-in-Err-clause-fault : goal.returns-in-Err-clause-fault
returns-in-Err-clause-fault c =
    subst (IsDue (Derives (in_file c.args.file)) c.args.nesting (rc_str_bytes c.args.text.now)) (sym c.fault.ensures)
    (due (document_parses (in_file c.args.file)) refl c.args.nesting (rc_str_bytes c.args.text.now) c.new-tokens.result (begins _ c.new-tokens.result c.new-tokens.ensures.shows) c.new-tokens.ensures.lexed (document_viable (in_file c.args.file)) refl c.in-Err.stop c.whole_document.new.tokens c.in-Err.ensures)

pub returns-in-Err-clause-within : goal.returns-in-Err-clause-within
returns-in-Err-clause-within c = lies_in (Derives (in_file c.args.file)) c.args.nesting (rc_str_bytes c.args.text.now) (fault_view c.fault.result) (returns-in-Err-clause-fault c)

pub returns-in-Ok-clause-bound : goal.returns-in-Ok-clause-bound
returns-in-Ok-clause-bound c = not_passed (Derives (in_file c.args.file)) c.args.nesting (rc_str_bytes c.args.text.now) (definitions_tree c.in-Ok.found) (returns-in-Ok-clause-found c)

pub returns-in-Err-clause-bound : goal.returns-in-Err-clause-bound
returns-in-Err-clause-bound c = passes_bound (Derives (in_file c.args.file)) c.args.nesting (rc_str_bytes c.args.text.now) c.fault.result (returns-in-Err-clause-fault c)
