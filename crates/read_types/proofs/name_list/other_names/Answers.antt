use Rattle.std.proofs.Common.{◌≡◌, true, false}
use Rattle.std.proofs.lemmas.Result.{err_from_is_err_and}
use Rattle.std.specs.Prelude.{map}
use Rattle.graphql_names.specs.declared.span.FileId.{FileId}
use Rattle.graphql_names.specs.Placed.{name_tree}
use Rattle.read_tokens.specs.Input.{next}
use Rattle.read_tokens.specs.declared.terminal.Terminal.{Terminal}
use Rattle.read_grammar.specs.Kinds as kinds
use Rattle.read_grammar.specs.Kinds.{next_is}
use Rattle.read_grammar.specs.Reading as read
use Rattle.read_grammar.specs.ValueReading as values
use Rattle.read_grammar.proofs.Steady.{Steady}
use Rattle.read_grammar.proofs.Steps.{viewed_turn, turn_stops_with, turns_end, turn_takes}
use Rattle.read_grammar.proofs.Values.{name_parses}
use Rattle.read_operations.specs.Meanings.{in_file}
use Rattle.read_types.proofs.Separated.{after_steady}
use Rattle.read_types.proofs.name_list.other_names.Goals as goal

item : (file : FileId) (mark : Terminal) → Steady 1 (read.following (kinds.is mark) (values.name (in_file file))) (read.following (kinds.is mark) (values.name (in_file file)))
item file mark = after_steady (kinds.is mark) (name_parses (in_file file) {n = 0}).steady

pub turns-smaller : goal.turns-smaller
turns-smaller c = turn_takes (kinds.is c.args.mark) (item c.args.file c.args.mark) c.turns.tokens c.next_name.new.tokens (name_tree c.in_ok-next_name.field-0) c.in_ok-next_name.ensures

pub turns-preserved : goal.turns-preserved
turns-preserved c =
    let goes : next_is (kinds.is c.args.mark) (next c.turns.tokens) ≡ true = cc in
    rw c.in_ok-push.ensures.items
    (viewed_turn name_tree (kinds.is c.args.mark) (item c.args.file c.args.mark) c.turns.found.items c.turns.tokens c.next_name.new.tokens c.in_ok-next_name.field-0 _ c.turns.invariant goes c.in_ok-next_name.ensures)

pub returns : goal.returns
returns c =
    let ends : next_is (kinds.is c.args.mark) (next c.turns.tokens) ≡ false = cc in
    turns_end (kinds.is c.args.mark) (item c.args.file c.args.mark) (map name_tree c.turns.found.items) c.turns.tokens _ c.turns.invariant ends

pub returns-in_err-next_name : goal.returns-in_err-next_name
returns-in_err-next_name c =
    let goes : next_is (kinds.is c.args.mark) (next c.turns.tokens) ≡ true = cc in
    let p = err_from_is_err_and c.from_residual.result c.from_residual.ensures.1 in
    rw (p.1, p.2)
    (turn_stops_with (kinds.is c.args.mark) (item c.args.file c.args.mark) (map name_tree c.turns.found.items) c.turns.tokens _ c.next_name.new.tokens _ c.turns.invariant goes c.in_err-next_name.ensures)
