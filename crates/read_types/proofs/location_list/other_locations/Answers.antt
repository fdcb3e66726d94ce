use Rattle.std.proofs.Common.{◌≡◌, true, false}
use Rattle.std.proofs.lemmas.Result.{err_from_is_err_and}
use Rattle.read_tokens.specs.Input.{next}
use Rattle.read_grammar.specs.Kinds as kinds
use Rattle.read_grammar.specs.Kinds.{next_is}
use Rattle.read_grammar.specs.Locations.{location_of}
use Rattle.read_grammar.specs.Reading as read
use Rattle.read_grammar.specs.TypeSystemReading as reading
use Rattle.read_grammar.proofs.Steady as st
use Rattle.read_grammar.proofs.Steady.{Steady}
use Rattle.read_grammar.proofs.Steps.{turn, turn_stops_with, turns_end, turn_takes}
use Rattle.read_types.proofs.Separated.{after_steady}
use Rattle.read_types.proofs.location_list.other_locations.Goals as goal

location : Steady 1 reading.directive_location reading.directive_location
unfolding reading.directive_location
location = st.mapped (λ t. location_of t.text) (st.token kinds.is_location)

item : Steady 1 (read.following kinds.is_pipe reading.directive_location) (read.following kinds.is_pipe reading.directive_location)
item = after_steady kinds.is_pipe location

pub turns-smaller : goal.turns-smaller
turns-smaller c = turn_takes kinds.is_pipe item c.turns.tokens c.next_location.new.tokens c.in_ok-next_location.field-0 c.in_ok-next_location.ensures

pub turns-preserved : goal.turns-preserved
turns-preserved c =
    let goes : next_is kinds.is_pipe (next c.turns.tokens) ≡ true = cc in
    rw c.in_ok-push.ensures.items
    (turn kinds.is_pipe item c.turns.found.items c.turns.tokens c.next_location.new.tokens c.in_ok-next_location.field-0 _ c.turns.invariant goes c.in_ok-next_location.ensures)

pub returns : goal.returns
returns c =
    let ends : next_is kinds.is_pipe (next c.turns.tokens) ≡ false = cc in
    turns_end kinds.is_pipe item c.turns.found.items c.turns.tokens _ c.turns.invariant ends

pub returns-in_err-next_location : goal.returns-in_err-next_location
returns-in_err-next_location c =
    let goes : next_is kinds.is_pipe (next c.turns.tokens) ≡ true = cc in
    let p = err_from_is_err_and c.from_residual.result c.from_residual.ensures.1 in
    rw (p.1, p.2) (turn_stops_with kinds.is_pipe item c.turns.found.items c.turns.tokens _ c.next_location.new.tokens _ c.turns.invariant goes c.in_err-next_location.ensures)
