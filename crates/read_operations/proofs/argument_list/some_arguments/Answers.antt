use Rattle.std.proofs.Common.{◌≡◌, ℕ, ◌<◌, true, false, Bool, rules, arith, Ok, Err, length, refl}
use Rattle.std.proofs.lemmas.Result.{err_from_is_err_and}
use Rattle.std.specs.Prelude.{map, [], ◌∷◌}
use Rattle.std.proofs.lemmas.List.{map-append}
use Rattle.graphql_names.specs.declared.span.FileId.{FileId}
use Rattle.graphql_names.specs.Placed.{node_tree}
use Rattle.tree_directives.specs.DirectiveTree.{argument_tree}
use Rattle.read_tokens.specs.Input.{next}
use Rattle.read_grammar.specs.Kinds as kinds
use Rattle.read_grammar.specs.Kinds.{next_is}
use Rattle.read_grammar.specs.Reading as read
use Rattle.read_grammar.specs.ValueReading as reading
use Rattle.read_grammar.proofs.Steady.{Steady}
use Rattle.read_grammar.proofs.Parses.{located}
use Rattle.read_grammar.proofs.Values.{argument_parses}
use Rattle.read_grammar.proofs.Steps.{turn, turn_stops_with, turns_end, turn_takes, some_starts, some_not}
use Rattle.read_operations.specs.Meanings.{in_file}
use Rattle.read_operations.proofs.argument_list.some_arguments.Goals as goal

item : (file : FileId) (constant : Bool) (depth : ℕ) → Steady 1 (read.placed (in_file file) (reading.argument (in_file file) constant depth)) (read.placed (in_file file) (reading.argument (in_file file) constant depth))
item file constant depth = (located (in_file file) (argument_parses (in_file file) constant depth depth (omega arith))).steady

pub returns-then-not-next_is_name : goal.returns-then-not-next_is_name
returns-then-not-next_is_name c =
    let not : next_is kinds.is_name (next c.args.tokens.now) ≡ false = cc in
    λ other. some_not kinds.is_name (item c.args.file c.args.constant c.args.depth) c.args.tokens.now not

pub turns-init : goal.turns-init
turns-init c =
    let yes : next_is kinds.is_name (next c.args.tokens.now) ≡ true = cc in
    rw c.new-found.ensures.items (some_starts kinds.is_name (item c.args.file c.args.constant c.args.depth) c.args.tokens.now yes)

pub turns-smaller : goal.turns-smaller
turns-smaller c =
    turn_takes kinds.is_name (item c.args.file c.args.constant c.args.depth) c.turns.tokens c.placed_argument.new.tokens (node_tree argument_tree c.in_ok-placed_argument.field-0) c.in_ok-placed_argument.ensures

pub turns-preserved : goal.turns-preserved
turns-preserved c =
    let yes : next_is kinds.is_name (next c.turns.tokens) ≡ true = cc in
    rw (c.in_ok-push.ensures.items, map-append (node_tree argument_tree) c.turns.found.items (c.in_ok-placed_argument.field-0 ∷ []))
    (turn kinds.is_name (item c.args.file c.args.constant c.args.depth) (map (node_tree argument_tree) c.turns.found.items) c.turns.tokens c.placed_argument.new.tokens (node_tree argument_tree c.in_ok-placed_argument.field-0) _ c.turns.invariant yes c.in_ok-placed_argument.ensures)

pub returns : goal.returns
returns c =
    let not : next_is kinds.is_name (next c.turns.tokens) ≡ false = cc in
    turns_end kinds.is_name (item c.args.file c.args.constant c.args.depth) (map (node_tree argument_tree) c.turns.found.items) c.turns.tokens _ c.turns.invariant not

pub returns-in_err-placed_argument : goal.returns-in_err-placed_argument
returns-in_err-placed_argument c =
    let yes : next_is kinds.is_name (next c.turns.tokens) ≡ true = cc in
    let p = err_from_is_err_and c.from_residual.result c.from_residual.ensures.1 in
    rw (p.1, p.2)
    (turn_stops_with kinds.is_name (item c.args.file c.args.constant c.args.depth) (map (node_tree argument_tree) c.turns.found.items) c.turns.tokens _ c.placed_argument.new.tokens _ c.turns.invariant yes c.in_err-placed_argument.ensures)
