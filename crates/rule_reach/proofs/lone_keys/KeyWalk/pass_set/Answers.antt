use Rattle.std.proofs.Common.{◌≡◌, ◌∙◌, ◌++◌, ◌∷◌, [], ap, arith}
use Rattle.std.specs.Prelude.{option_to_list}
use Rattle.std.specs.Borrow.{Bor}
use Rattle.std.proofs.lemmas.List.{nil_from_length}
use Rattle.graphql_names.specs.NameValue.{NameValue}
use Rattle.document_typed_selections.specs.declared.selection.Selection.{Selection}
use Rattle.rule_reach.specs.Passed.{read_of_set, sets_read, passed_fields, map_read, members_left, state_of}
use Rattle.rule_reach.proofs.Walking.{set_begun, set_popped, walk_ended}
use Rattle.rule_reach.proofs.lone_keys.KeyWalk.pass_set.Goals as goal

pub loop-ty-init : goal.loop-ty-init
loop-ty-init c =
    set_begun (map_read c.args.fragments.now) c.args.set.now c.clear.new.self.items c.clear-2.new.self.items c.push_selections.new.left.items (sets_read c.args.next.now.items)
    c.clear.ensures.items c.clear-2.ensures.items c.in_ok-push_selections.ensures

pub loop-ty-preserved : goal.loop-ty-preserved
loop-ty-preserved c =
    let e : Bor NameValue × Bor Selection = (c.in-Some.ty, c.in-Some.selection) in
    let was : c.loop-ty.self.left.items ≡ c.pop.new.self.items ++ e ∷ [] = c.pop.ensures.items ∙ ap (λ o. c.pop.new.self.items ++ option_to_list o) c.in-Some.is in
    c.in_ok-passed.ensures.went c.if-not-passed.false (read_of_set c.args.set.now) (sets_read c.args.next.now.items)
    (set_popped (map_read c.args.fragments.now) (read_of_set c.args.set.now) (sets_read c.args.next.now.items) (passed_fields c.loop-ty.self.fields.items) (sets_read c.loop-ty.next.items) c.loop-ty.self.left.items c.pop.new.self.items e was c.loop-ty.invariant)

pub returns : goal.returns
returns c = λ is.
    let none : c.loop-ty.self.left.items ≡ [] = nil_from_length c.loop-ty.self.left.items (omega (arith, c.in_default.ensures.cases.0)) in
    walk_ended (map_read c.args.fragments.now) (read_of_set c.args.set.now) (sets_read c.args.next.now.items) (state_of c.loop-ty.self c.loop-ty.next.items) (ap members_left none) c.loop-ty.invariant
