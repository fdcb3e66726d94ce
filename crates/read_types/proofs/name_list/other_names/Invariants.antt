use Rattle.std.proofs.Common.{◌≡◌, length}
use Rattle.std.specs.Prelude.{map}
use Rattle.graphql_names.specs.Placed.{name_tree}
use Rattle.read_grammar.specs.Kinds as kinds
use Rattle.read_grammar.specs.Reading as read
use Rattle.read_grammar.specs.ValueReading as values
use Rattle.read_grammar.proofs.Steps.{with_front}
use Rattle.read_operations.specs.Meanings.{in_file}
use Rattle.read_types.specs.MemberSteps as steps
use Rattle.read_types.proofs.name_list.other_names.Given as goal

abbrev pub invariant-turns : goal.invariant-turns
invariant-turns l =
    with_front (map name_tree l.found.items) (read.many (kinds.is l.mark) (read.following (kinds.is l.mark) (values.name (in_file l.file))) l.tokens)
    ≡ steps.others (kinds.is l.mark) (values.name (in_file l.file)) (map name_tree l.initial.found.items) l.initial.tokens

abbrev pub decreases-turns : goal.decreases-turns
decreases-turns l = length l.tokens.ahead
