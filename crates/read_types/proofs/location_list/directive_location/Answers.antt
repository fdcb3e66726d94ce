use Rattle.std.proofs.Common.{◌≡◌, true, false, ap, ◌∙◌, sym, Ok}
use Rattle.tree_directives.specs.declared.directive_location.DirectiveLocation.{DirectiveLocation}
use Rattle.read_tokens.specs.Cursor.{text_of}
use Rattle.read_tokens.specs.Input.{Input, next}
use Rattle.read_grammar.specs.Kinds.{next_is, is_location}
use Rattle.read_grammar.specs.Locations.{location_of}
use Rattle.read_grammar.specs.Reading.{Outcome}
use Rattle.read_grammar.specs.TypeSystemReading as reading
use Rattle.read_grammar.proofs.Moves.{taken_yes, taken_no}
use Rattle.read_types.proofs.location_list.directive_location.Goals as goal

abbrev done : DirectiveLocation → Input → Outcome DirectiveLocation
done x z = Ok (x, z)

pub returns-then-not-next_is : goal.returns-then-not-next_is
unfolding reading.directive_location
returns-then-not-next_is c =
    let other : next_is is_location (next c.args.tokens.now) ≡ false = cc in
    λ e. taken_no (λ t. location_of t.text) is_location c.args.tokens.now other

pub returns : goal.returns
unfolding reading.directive_location
returns c =
    let goes : next_is is_location (next c.args.tokens.now) ≡ true = cc in
    taken_yes (λ t. location_of t.text) is_location c.args.tokens.now c.location_named.result goes
    (λ t ts at. c.location_named.ensures ∙ ap location_of (c.skip-text.ensures.text ∙ ap text_of at))
    ∙ ap (λ (z : Input). done c.location_named.result z) (sym c.skip-text.ensures.following)
