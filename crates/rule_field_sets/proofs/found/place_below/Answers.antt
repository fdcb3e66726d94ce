use Rattle.std.proofs.Common.{◌∙◌, sym, length, arith}
use Rattle.std.specs.Borrow.{Bor}
use Rattle.std.proofs.lemmas.List.{length-map}
use Rattle.document_typed_selections.specs.TypedTree.{typed_set_tree}
use Rattle.document_typed_selections.specs.declared.selection.SelectionSet.{SelectionSet}
use Rattle.rule_field_sets.specs.Opened.{typed_sets}
use Rattle.rule_field_sets.proofs.Opening.{none_below, nothing_below, some_below, set_below}
use Rattle.rule_field_sets.proofs.found.place_below.Goals as goal

pub returns-then-is_empty : goal.returns-then-is_empty
returns-then-is_empty c =
    let none = sym c.is_empty.ensures ∙ c.if-is_empty.true in
    record {
      place = none_below (length (typed_sets c.args.sets.now.items)) (typed_set_tree c.args.set.now) none;
      sets = nothing_below (typed_sets c.args.sets.now.items) (typed_set_tree c.args.set.now) none;
    }

pub returns : goal.returns
returns c =
    let some = sym c.is_empty.ensures ∙ c.if-is_empty.false in
    record {
      place = some_below (length (typed_sets c.args.sets.now.items)) c.len-place.result (typed_set_tree c.args.set.now) some (omega (arith, c.len-place.ensures, length-map c.args.sets.now.items (λ (s : Bor SelectionSet). typed_set_tree s.now)));
      sets = set_below c.args.sets.now.items c.push.new.self.items _ some c.in_ok-push.ensures.items;
    }
