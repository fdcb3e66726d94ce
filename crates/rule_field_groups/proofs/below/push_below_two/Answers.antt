use Rattle.std.proofs.Common.{◌∷◌, []}
use Rattle.std.proofs.lemmas.Result.{on_ok_weaker}
use Rattle.std.specs.Prelude.{option_to_list}
use Rattle.list_interner.specs.NumberRows.{rows_of}
use Rattle.rule_field_groups.specs.Members.{fields_of}
use Rattle.rule_field_groups.proofs.Sets.{second_alone, first_alone, one_for_both, both_noted}
use Rattle.rule_field_groups.proofs.Under.{below_pushed}
use Rattle.rule_field_groups.proofs.below.push_below_two.Goals as goal

pub returns-in_default : goal.returns-in_default
returns-in_default c =
    let w = c.args.sets.now in
    let one = c.args.one.now in
    let other = c.args.other.now in
    on_ok_weaker c.push_node.result
    (below_pushed w (fields_of (one ∷ other ∷ [])) (option_to_list other.below) (rows_of c.args.lists.now) (rows_of c.push_node.new.lists)
    (second_alone w c.requires.sets one other c.requires.one c.requires.other c.in_default.is)) c.push_node.ensures

pub returns-in_default-below : goal.returns-in_default-below
returns-in_default-below c =
    let w = c.args.sets.now in
    let one = c.args.one.now in
    let other = c.args.other.now in
    on_ok_weaker c.push_node-in_default-below.result
    (below_pushed w (fields_of (one ∷ other ∷ [])) (option_to_list one.below) (rows_of c.args.lists.now) (rows_of c.push_node-in_default-below.new.lists)
    (first_alone w c.requires.sets one other c.requires.one c.requires.other c.in_default-below.is)) c.push_node-in_default-below.ensures

pub returns-then-branch-noted : goal.returns-then-branch-noted
returns-then-branch-noted c =
    let w = c.args.sets.now in
    let one = c.args.one.now in
    let other = c.args.other.now in
    on_ok_weaker c.push_node-then-branch-noted.result
    (below_pushed w (fields_of (one ∷ other ∷ [])) (option_to_list one.below) (rows_of c.args.lists.now) (rows_of c.push_node-then-branch-noted.new.lists)
    (one_for_both w c.requires.sets one other c.requires.one c.requires.other c.in-Some.first c.in-Some-below.second c.in-Some.is c.in-Some-below.is c.in_ok-noted.noted _ c.in_ok-noted.ensures c.in_ok-number_of.ensures c.if-branch-noted.true))
    c.push_node-then-branch-noted.ensures

pub returns : goal.returns
returns c =
    let w = c.args.sets.now in
    let one = c.args.one.now in
    let other = c.args.other.now in
    let first = c.in-Some.first in
    let second = c.in-Some-below.second in
    on_ok_weaker c.push_two.result
    (below_pushed w (fields_of (one ∷ other ∷ [])) (first ∷ second ∷ []) (rows_of c.args.lists.now) (rows_of c.push_two.new.self)
    (both_noted w c.requires.sets one other c.requires.one c.requires.other first second c.in-Some.is c.in-Some-below.is)) c.push_two.ensures.pushed
