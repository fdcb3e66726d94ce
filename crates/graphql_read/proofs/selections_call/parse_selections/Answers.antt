use Rattle.std.proofs.lemmas.Result.{err_from_is_err_and}
use Rattle.std.proofs.Common.{refl, sym, subst, ◌∙◌}
use Rattle.read_grammar.specs.Grammar.{DerivesSelections}
use Rattle.read_grammar.proofs.Operations.{selections_parses}
use Rattle.read_grammar.proofs.ViableOperations.{selections_viable}
use Rattle.read_types.specs.in_read_operations.Meanings.{in_file}
use Rattle.graphql_read.specs.ReadFaults.{fault_view, selections_tree}
use Rattle.graphql_read.specs.Reads.{IsDue}
use Rattle.graphql_read.proofs.Texts.{begins, lexed_as, found, only, memory, due, memory_due}
use Rattle.graphql_read.proofs.Bounds.{not_passed, lies_in, passes_bound}
use Rattle.graphql_read.proofs.Soundness.{selections_sound}
use Rattle.graphql_read.proofs.selections_call.parse_selections.Goals as goal

pub returns-in-Ok-clause-found : goal.returns-in-Ok-clause-found
returns-in-Ok-clause-found c = found (selections_parses (in_file c.args.file)) refl c.args.nesting c.args.text.now c.new-tokens.result (begins _ c.new-tokens.result c.new-tokens.ensures.shows) (lexed_as c.args.text.now _ c.new-tokens.result c.in_ok-shared.ensures.ok c.new-tokens.ensures.lexed) (selections_tree c.in-Ok.found) c.whole_selections.new.tokens c.in-Ok.ensures

pub returns-in-Ok-clause-only : goal.returns-in-Ok-clause-only
returns-in-Ok-clause-only c = λ tree d. only (selections_parses (in_file c.args.file)) refl c.args.nesting c.args.text.now c.new-tokens.result (begins _ c.new-tokens.result c.new-tokens.ensures.shows) (lexed_as c.args.text.now _ c.new-tokens.result c.in_ok-shared.ensures.ok c.new-tokens.ensures.lexed) (selections_tree c.in-Ok.found) tree c.whole_selections.new.tokens c.in-Ok.ensures d

pub returns-clause-only : goal.returns-clause-only
returns-clause-only c = λ tree d. c.fault.ensures ∙ memory (selections_parses (in_file c.args.file)) refl c.args.nesting c.args.text.now c.new-tokens.result (begins _ c.new-tokens.result c.new-tokens.ensures.shows) (lexed_as c.args.text.now _ c.new-tokens.result c.in_ok-shared.ensures.ok c.new-tokens.ensures.lexed) c.in-Err.stop c.whole_selections.new.tokens tree c.in-Err.ensures d

pub returns-clause-fault : goal.returns-clause-fault
returns-clause-fault c =
    subst (IsDue (DerivesSelections (in_file c.args.file)) c.args.nesting c.args.text.now) (sym c.fault.ensures)
    (due (selections_parses (in_file c.args.file)) refl c.args.nesting c.args.text.now c.new-tokens.result (begins _ c.new-tokens.result c.new-tokens.ensures.shows) (lexed_as c.args.text.now _ c.new-tokens.result c.in_ok-shared.ensures.ok c.new-tokens.ensures.lexed) (selections_viable (in_file c.args.file)) refl c.in-Err.stop c.whole_selections.new.tokens c.in-Err.ensures)

pub returns-in-Ok-clause-sound : goal.returns-in-Ok-clause-sound
returns-in-Ok-clause-sound c = selections_sound c.args.file c.args.text.now (selections_tree c.in-Ok.found) (returns-in-Ok-clause-found c).reads

pub returns-clause-within : goal.returns-clause-within
returns-clause-within c = lies_in (DerivesSelections (in_file c.args.file)) c.args.nesting c.args.text.now (fault_view c.fault.result) (returns-clause-fault c)

pub returns-in-Ok-clause-bound : goal.returns-in-Ok-clause-bound
returns-in-Ok-clause-bound c = not_passed (DerivesSelections (in_file c.args.file)) c.args.nesting c.args.text.now (selections_tree c.in-Ok.found) (returns-in-Ok-clause-found c)

pub returns-clause-bound : goal.returns-clause-bound
returns-clause-bound c = passes_bound (DerivesSelections (in_file c.args.file)) c.args.nesting c.args.text.now c.fault.result (returns-clause-fault c)

pub returns-in_err-shared-clause-fault : goal.returns-in_err-shared-clause-fault
returns-in_err-shared-clause-fault c =
    let p = err_from_is_err_and c.from_residual.result c.from_residual.ensures.1 in
    rw (p.1, p.2) (memory_due (DerivesSelections (in_file c.args.file)) c.args.nesting c.args.text.now)
