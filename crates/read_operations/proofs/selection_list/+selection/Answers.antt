use Rattle.std.proofs.Common.{◌≡◌, ℕ, true, false, subst, rules, arith}
use Rattle.std.proofs.lemmas.Result.{err_from_is_err_and}
use Rattle.std.specs.Prelude.{map}
use Rattle.graphql_names.specs.declared.span.FileId.{FileId}
use Rattle.tree_operations.specs.SelectionTree.{selection_tree}
use Rattle.read_tokens.specs.Input.{next}
use Rattle.read_grammar.specs.Begins as begins
use Rattle.read_grammar.specs.Kinds.{next_is, is_name, is_fragment_name}
use Rattle.read_grammar.specs.OperationReading as reading
use Rattle.read_grammar.proofs.Operations.{selection_parses, selection_set_parses}
use Rattle.read_grammar.proofs.Steady.{Steady}
use Rattle.read_grammar.proofs.Steps.{viewed_turn, turn_stops_with, turns_end, turn_takes, some_starts, some_not}
use Rattle.read_grammar.proofs.Opened.{selection_set_is}
use Rattle.read_grammar.proofs.Views.{selections_viewed}
use Rattle.read_grammar.specs.Places.{place_in}
use Rattle.read_operations.specs.SelectionSteps as steps
use Rattle.read_operations.specs.PartViews.{Ends, selections_view, set_view, field_head_view, inline_head_view}
use Rattle.read_operations.proofs.SelectionRules.{ends_reads, field_is, inline_is, spread_or_inline_spread, spread_or_inline_inline, selection_field, selection_spread_or_inline}
use Rattle.read_operations.specs.Meanings.{in_file}
use Rattle.read_operations.proofs.selection_list.+selection.Goals as goal

item : (file : FileId) (depth : ℕ) → Steady 1 (reading.selection (in_file file) depth (reading.selection_set (in_file file) depth)) (reading.selection (in_file file) depth (reading.selection_set (in_file file) depth))
item file depth = (selection_parses (in_file file) depth depth (omega arith) (selection_set_parses (in_file file) depth depth (omega arith))).steady

pub some_selections-returns-then-not-begins_selection : goal.some_selections-returns-then-not-begins_selection
some_selections-returns-then-not-begins_selection t c =
    let other : next_is begins.begins_selection (next c.args.tokens.now) ≡ false = cc in
    λ e. some_not begins.begins_selection (item c.args.file c.args.depth) c.args.tokens.now other

pub some_selections-turns-init : goal.some_selections-turns-init
some_selections-turns-init t c =
    let goes : next_is begins.begins_selection (next c.args.tokens.now) ≡ true = cc in
    rw c.new-found.ensures.items (some_starts begins.begins_selection (item c.args.file c.args.depth) c.args.tokens.now goes)

pub some_selections-turns-smaller : goal.some_selections-turns-smaller
some_selections-turns-smaller t c = turn_takes begins.begins_selection (item c.args.file c.args.depth) c.turns.tokens c.selection.new.tokens (selection_tree c.in_ok-selection.field-0) c.in_ok-selection.ensures

pub some_selections-turns-preserved : goal.some_selections-turns-preserved
some_selections-turns-preserved t c =
    let goes : next_is begins.begins_selection (next c.turns.tokens) ≡ true = cc in
    rw c.in_ok-push.ensures.items (viewed_turn selection_tree begins.begins_selection (item c.args.file c.args.depth) c.turns.found.items c.turns.tokens c.selection.new.tokens c.in_ok-selection.field-0 _ c.turns.invariant goes c.in_ok-selection.ensures)

pub some_selections-returns : goal.some_selections-returns
some_selections-returns t c =
    let ends : next_is begins.begins_selection (next c.turns.tokens) ≡ false = cc in
    turns_end begins.begins_selection (item c.args.file c.args.depth) (map selection_tree c.turns.found.items) c.turns.tokens _ c.turns.invariant ends

pub some_selections-returns-in_err-selection : goal.some_selections-returns-in_err-selection
some_selections-returns-in_err-selection t c =
    let goes : next_is begins.begins_selection (next c.turns.tokens) ≡ true = cc in
    let p = err_from_is_err_and c.from_residual.result c.from_residual.ensures.1 in
    rw (p.1, p.2) (turn_stops_with begins.begins_selection (item c.args.file c.args.depth) (map selection_tree c.turns.found.items) c.turns.tokens _ c.selection.new.tokens _ c.turns.invariant goes c.in_err-selection.ensures)

pub spread_or_inline-returns-then-next_is_fragment_name : goal.spread_or_inline-returns-then-next_is_fragment_name
spread_or_inline-returns-then-next_is_fragment_name t c =
    let goes : next_is is_fragment_name (next c.expect.new.tokens) ≡ true = cc in
    rw (spread_or_inline_spread (in_file c.args.file) c.args.depth (reading.selection_set (in_file c.args.file) c.args.depth) c.args.tokens.now c.expect.new.tokens c.in_ok-expect.ensures goes) (search rules)

pub spread_or_inline-returns : goal.spread_or_inline-returns
spread_or_inline-returns t c =
    let other : next_is is_fragment_name (next c.expect.new.tokens) ≡ false = cc in
    rw (spread_or_inline_inline (in_file c.args.file) c.args.depth (reading.selection_set (in_file c.args.file) c.args.depth) c.args.tokens.now c.expect.new.tokens c.in_ok-expect.ensures other) (search rules)

pub placed_inline-returns-in_err-head : goal.placed_inline-returns-in_err-head
placed_inline-returns-in_err-head t c = rw (inline_is (in_file c.args.file) c.args.begin c.args.depth (reading.selection_set (in_file c.args.file) c.args.depth) c.args.tokens.now) (search rules)

pub placed_inline-returns : goal.placed_inline-returns
placed_inline-returns t c = rw (inline_is (in_file c.args.file) c.args.begin c.args.depth (reading.selection_set (in_file c.args.file) c.args.depth) c.args.tokens.now, c.in_ok-head.ensures)
    (ends_reads selections_view (λ z. steps.inline_with (place_in c.args.file.0 c.args.begin z.last) (inline_head_view c.in_ok-head.head)) _ c.selection_set-selections.result _ c.inline_with.result c.selection_set-selections.ensures
    (subst (λ p. Ends selections_view (steps.inline_with p (inline_head_view c.in_ok-head.head)) c.selection_set-selections.result c.inline_with.result) c.since-place.ensures.place c.inline_with.ensures))

pub placed_field-returns-in_err-head : goal.placed_field-returns-in_err-head
placed_field-returns-in_err-head t c = rw (field_is (in_file c.args.file) c.args.depth (reading.selection_set (in_file c.args.file) c.args.depth) c.args.tokens.now) (search rules)

pub placed_field-returns : goal.placed_field-returns
placed_field-returns t c = rw (field_is (in_file c.args.file) c.args.depth (reading.selection_set (in_file c.args.file) c.args.depth) c.args.tokens.now, c.in_ok-head.ensures, ← c.begin-begin.ensures)
    (ends_reads set_view (λ z. steps.field_with (place_in c.args.file.0 c.begin-begin.result z.last) (field_head_view c.in_ok-head.head)) _ c.optional_selection_set-selections.result _ c.field_with.result c.optional_selection_set-selections.ensures
    (subst (λ p. Ends set_view (steps.field_with p (field_head_view c.in_ok-head.head)) c.optional_selection_set-selections.result c.field_with.result) c.since-place.ensures.place c.field_with.ensures))

pub selection-returns-then-next_is_name : goal.selection-returns-then-next_is_name
selection-returns-then-next_is_name t c =
    let goes : next_is is_name (next c.args.tokens.now) ≡ true = cc in
    rw (selection_field (in_file c.args.file) c.args.depth (reading.selection_set (in_file c.args.file) c.args.depth) c.args.tokens.now goes) c.placed_field.ensures

pub selection-returns : goal.selection-returns
selection-returns t c =
    let other : next_is is_name (next c.args.tokens.now) ≡ false = cc in
    rw (selection_spread_or_inline (in_file c.args.file) c.args.depth (reading.selection_set (in_file c.args.file) c.args.depth) c.args.tokens.now other) c.spread_or_inline.ensures

pub selection_set-returns-in_err-open : goal.selection_set-returns-in_err-open
unfolding reading.selection_list
selection_set-returns-in_err-open t c = rw (selection_set_is (in_file c.args.file) c.args.depth c.args.tokens.now) (search rules)

pub selection_set-returns-in_err-found : goal.selection_set-returns-in_err-found
unfolding reading.selection_list
selection_set-returns-in_err-found t c = rw (selection_set_is (in_file c.args.file) c.args.depth c.args.tokens.now) (search rules)

pub selection_set-returns-in_err-expect : goal.selection_set-returns-in_err-expect
unfolding reading.selection_list
selection_set-returns-in_err-expect t c = rw (selection_set_is (in_file c.args.file) c.args.depth c.args.tokens.now) (search rules)

pub selection_set-returns : goal.selection_set-returns
unfolding reading.selection_list
selection_set-returns t c = rw (selection_set_is (in_file c.args.file) c.args.depth c.args.tokens.now, ← selections_viewed c.in_ok-found.found.items) (search rules)
