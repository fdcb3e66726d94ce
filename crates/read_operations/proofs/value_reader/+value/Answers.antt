use Rattle.std.proofs.Common.{◌≡◌, ℕ, ◌<◌, true, false, Bool, rules, arith}
use Rattle.std.proofs.lemmas.Result.{err_from_is_err_and}
use Rattle.std.specs.Prelude.{map}
use Rattle.graphql_names.specs.declared.span.FileId.{FileId}
use Rattle.graphql_names.specs.Placed.{node_tree}
use Rattle.tree_literals.specs.ValueTree.{value_tree}
use Rattle.tree_literals.proofs.Trees.{value_tree_list, value_tree_object}
use Rattle.read_tokens.specs.Input.{next}
use Rattle.read_grammar.specs.Begins as begins
use Rattle.read_grammar.specs.Kinds as kinds
use Rattle.read_grammar.specs.Kinds.{next_is}
use Rattle.read_grammar.specs.Reading as read
use Rattle.read_grammar.specs.ValueReading as reading
use Rattle.read_grammar.proofs.Steady.{Steady}
use Rattle.read_grammar.proofs.Parses.{located}
use Rattle.read_grammar.proofs.Values.{value_parses, object_field_parses}
use Rattle.read_grammar.proofs.Views.{items_viewed, entries_viewed}
use Rattle.read_grammar.proofs.Steps.{viewed_turn, viewed_start, turn_stops_with, turns_end, turn_takes}
use Rattle.read_operations.specs.Meanings.{in_file, entry_view, begins_nested}
use Rattle.read_operations.proofs.Arms.{value_plain, value_deep, value_list, value_object}
use Rattle.read_operations.proofs.value_reader.+value.Goals as goal

item : (file : FileId) (constant : Bool) (depth : ℕ) → Steady 1 (read.placed (in_file file) (reading.value (in_file file) constant depth)) (read.placed (in_file file) (reading.value (in_file file) constant depth))
item file constant depth = (located (in_file file) (value_parses (in_file file) constant depth depth (omega arith))).steady

field : (file : FileId) (constant : Bool) (depth : ℕ) → Steady 1 (reading.object_field (in_file file) (reading.value (in_file file) constant depth)) (reading.object_field (in_file file) (reading.value (in_file file) constant depth))
field file constant depth = (object_field_parses (in_file file) (value_parses (in_file file) constant depth depth (omega arith))).steady

pub values-turns-init : goal.values-turns-init
values-turns-init t c = rw c.new-found.ensures.items (viewed_start (node_tree value_tree) begins.begins_value (item c.args.file c.args.constant c.args.depth) c.args.tokens.now)

pub values-turns-smaller : goal.values-turns-smaller
values-turns-smaller t c = turn_takes begins.begins_value (item c.args.file c.args.constant c.args.depth) c.turns.tokens c.placed_value.new.tokens ((node_tree value_tree) c.in_ok-placed_value.field-0) c.in_ok-placed_value.ensures

pub values-turns-preserved : goal.values-turns-preserved
values-turns-preserved t c =
    let goes : next_is begins.begins_value (next c.turns.tokens) ≡ true = cc in
    rw c.in_ok-push.ensures.items (viewed_turn (node_tree value_tree) begins.begins_value (item c.args.file c.args.constant c.args.depth) c.turns.found.items c.turns.tokens c.placed_value.new.tokens c.in_ok-placed_value.field-0 _ c.turns.invariant goes c.in_ok-placed_value.ensures)

pub values-returns : goal.values-returns
values-returns t c =
    let ends : next_is begins.begins_value (next c.turns.tokens) ≡ false = cc in
    turns_end begins.begins_value (item c.args.file c.args.constant c.args.depth) (map (node_tree value_tree) c.turns.found.items) c.turns.tokens _ c.turns.invariant ends

pub values-returns-in_err-placed_value : goal.values-returns-in_err-placed_value
values-returns-in_err-placed_value t c =
    let goes : next_is begins.begins_value (next c.turns.tokens) ≡ true = cc in
    let p = err_from_is_err_and c.from_residual.result c.from_residual.ensures.1 in
    rw (p.1, p.2) (turn_stops_with begins.begins_value (item c.args.file c.args.constant c.args.depth) (map (node_tree value_tree) c.turns.found.items) c.turns.tokens _ c.placed_value.new.tokens _ c.turns.invariant goes c.in_err-placed_value.ensures)

pub object_fields-turns-init : goal.object_fields-turns-init
object_fields-turns-init t c = rw c.new-found.ensures.items (viewed_start entry_view kinds.is_name (field c.args.file c.args.constant c.args.depth) c.args.tokens.now)

pub object_fields-turns-smaller : goal.object_fields-turns-smaller
object_fields-turns-smaller t c = turn_takes kinds.is_name (field c.args.file c.args.constant c.args.depth) c.turns.tokens c.object_field.new.tokens (entry_view c.in_ok-object_field.field-0) c.in_ok-object_field.ensures

pub object_fields-turns-preserved : goal.object_fields-turns-preserved
object_fields-turns-preserved t c =
    let goes : next_is kinds.is_name (next c.turns.tokens) ≡ true = cc in
    rw c.in_ok-push.ensures.items (viewed_turn entry_view kinds.is_name (field c.args.file c.args.constant c.args.depth) c.turns.found.items c.turns.tokens c.object_field.new.tokens c.in_ok-object_field.field-0 _ c.turns.invariant goes c.in_ok-object_field.ensures)

pub object_fields-returns : goal.object_fields-returns
object_fields-returns t c =
    let ends : next_is kinds.is_name (next c.turns.tokens) ≡ false = cc in
    turns_end kinds.is_name (field c.args.file c.args.constant c.args.depth) (map entry_view c.turns.found.items) c.turns.tokens _ c.turns.invariant ends

pub object_fields-returns-in_err-object_field : goal.object_fields-returns-in_err-object_field
object_fields-returns-in_err-object_field t c =
    let goes : next_is kinds.is_name (next c.turns.tokens) ≡ true = cc in
    let p = err_from_is_err_and c.from_residual.result c.from_residual.ensures.1 in
    rw (p.1, p.2) (turn_stops_with kinds.is_name (field c.args.file c.args.constant c.args.depth) (map entry_view c.turns.found.items) c.turns.tokens _ c.object_field.new.tokens _ c.turns.invariant goes c.in_err-object_field.ensures)

pub list_value-returns : goal.list_value-returns
unfolding reading.list_value
list_value-returns t c = rw (value_tree_list c.in_ok-found.found, ← items_viewed c.in_ok-found.found.items) (search rules)

pub object_value-returns : goal.object_value-returns
unfolding reading.object_value
object_value-returns t c = rw (value_tree_object c.in_ok-found.found, ← entries_viewed c.in_ok-found.found.items) (search rules)

pub value-returns-then-not-opens_value : goal.value-returns-then-not-opens_value
value-returns-then-not-opens_value t c =
    let plain : next_is begins_nested (next c.args.tokens.now) ≡ false = cc in
    rw (value_plain (in_file c.args.file) c.args.constant c.args.depth c.args.tokens.now plain) c.plain_value.ensures

pub value-returns-then-depth-eq0 : goal.value-returns-then-depth-eq0
value-returns-then-depth-eq0 t c =
    let opens : next_is begins_nested (next c.args.tokens.now) ≡ true = cc in
    let none : c.args.depth ≡ 0 = omega arith in
    λ other. value_deep (in_file c.args.file) c.args.constant c.args.depth c.args.tokens.now none opens

pub value-returns-then-next_is : goal.value-returns-then-next_is
value-returns-then-next_is t c =
    let above : 0 < c.args.depth = omega arith in
    let goes : next_is kinds.is_open_bracket (next c.args.tokens.now) ≡ true = cc in
    rw (value_list (in_file c.args.file) c.args.constant c.args.depth c.args.tokens.now above goes) c.list_value.ensures

pub value-returns : goal.value-returns
value-returns t c =
    let above : 0 < c.args.depth = omega arith in
    let opens : next_is begins_nested (next c.args.tokens.now) ≡ true = cc in
    let other : next_is kinds.is_open_bracket (next c.args.tokens.now) ≡ false = cc in
    rw (value_object (in_file c.args.file) c.args.constant c.args.depth c.args.tokens.now above opens other) c.object_value.ensures
