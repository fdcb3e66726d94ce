use Rattle.std.proofs.Common.{◌≡◌, ℕ, true, false, arith}
use Rattle.std.proofs.lemmas.Result.{err_from_is_err_and}
use Rattle.std.specs.Prelude.{map, [], ◌∷◌}
use Rattle.std.proofs.lemmas.List.{map-append}
use Rattle.graphql_names.specs.declared.span.FileId.{FileId}
use Rattle.graphql_names.specs.Placed.{node_tree}
use Rattle.tree_operations.specs.OperationTree.{variable_definition_tree}
use Rattle.read_tokens.specs.Input.{next}
use Rattle.read_grammar.specs.Kinds as kinds
use Rattle.read_grammar.specs.Kinds.{next_is}
use Rattle.read_grammar.specs.Reading as read
use Rattle.read_grammar.specs.OperationReading as reading
use Rattle.read_grammar.proofs.Steady.{Steady}
use Rattle.read_grammar.proofs.Parses.{located}
use Rattle.read_grammar.proofs.Operations.{variable_definition_parses}
use Rattle.read_grammar.proofs.Steps.{turn, turn_stops_with, turns_end, turn_takes, some_starts, some_not}
use Rattle.read_operations.specs.Meanings.{in_file}
use Rattle.read_operations.proofs.variable_list.some_variable_definitions.Goals as goal

item : (file : FileId) (depth : ℕ) → Steady 1 (read.placed (in_file file) (reading.variable_definition (in_file file) depth)) (read.placed (in_file file) (reading.variable_definition (in_file file) depth))
item file depth = (located (in_file file) (variable_definition_parses (in_file file) depth depth (omega arith))).steady

pub returns-then-not-next_is : goal.returns-then-not-next_is
returns-then-not-next_is c =
    let not : next_is kinds.is_dollar (next c.args.tokens.now) ≡ false = cc in
    λ other. some_not kinds.is_dollar (item c.args.file c.args.depth) c.args.tokens.now not

pub turns-init : goal.turns-init
turns-init c =
    let yes : next_is kinds.is_dollar (next c.args.tokens.now) ≡ true = cc in
    rw c.new-found.ensures.items (some_starts kinds.is_dollar (item c.args.file c.args.depth) c.args.tokens.now yes)

pub turns-smaller : goal.turns-smaller
turns-smaller c =
    turn_takes kinds.is_dollar (item c.args.file c.args.depth) c.turns.tokens c.placed_variable_definition.new.tokens (node_tree variable_definition_tree c.in_ok-placed_variable_definition.field-0) c.in_ok-placed_variable_definition.ensures

pub turns-preserved : goal.turns-preserved
turns-preserved c =
    let yes : next_is kinds.is_dollar (next c.turns.tokens) ≡ true = cc in
    rw (c.in_ok-push.ensures.items, map-append (node_tree variable_definition_tree) c.turns.found.items (c.in_ok-placed_variable_definition.field-0 ∷ []))
    (turn kinds.is_dollar (item c.args.file c.args.depth) (map (node_tree variable_definition_tree) c.turns.found.items) c.turns.tokens c.placed_variable_definition.new.tokens (node_tree variable_definition_tree c.in_ok-placed_variable_definition.field-0) _ c.turns.invariant yes c.in_ok-placed_variable_definition.ensures)

pub returns : goal.returns
returns c =
    let not : next_is kinds.is_dollar (next c.turns.tokens) ≡ false = cc in
    turns_end kinds.is_dollar (item c.args.file c.args.depth) (map (node_tree variable_definition_tree) c.turns.found.items) c.turns.tokens _ c.turns.invariant not

pub returns-in_err-placed_variable_definition : goal.returns-in_err-placed_variable_definition
returns-in_err-placed_variable_definition c =
    let yes : next_is kinds.is_dollar (next c.turns.tokens) ≡ true = cc in
    let p = err_from_is_err_and c.from_residual.result c.from_residual.ensures.1 in
    rw (p.1, p.2)
    (turn_stops_with kinds.is_dollar (item c.args.file c.args.depth) (map (node_tree variable_definition_tree) c.turns.found.items) c.turns.tokens _ c.placed_variable_definition.new.tokens _ c.turns.invariant yes c.in_err-placed_variable_definition.ensures)
