use Rattle.std.proofs.Common.{◌≡◌, ◌∙◌, ◌++◌, ◌∷◌, [], List, ap, sym, length, arith}
use Rattle.std.specs.Prelude.{option_to_list}
use Rattle.std.specs.Borrow.{Bor}
use Rattle.std.specs.List.{flat_map}
use Rattle.std.proofs.lemmas.List.{nil_from_length}
use Rattle.graphql_names.specs.NameValue.{NameValue}
use Rattle.document_typed_selections.specs.declared.selection.Selection.{Selection}
use Rattle.graphql_schema.specs.SchemaOf.{schema_tree}
use Rattle.rule_definitions.specs.Room.{◌⊕◌}
use Rattle.rule_definitions.proofs.Room.{room_both}
use Rattle.rule_warnings.specs.Views.{uses_of}
use Rattle.rule_warnings.specs.Told.{with_below, selection_uses}
use Rattle.rule_warnings.specs.Telling.{member_of, waiting_members}
use Rattle.rule_warnings.proofs.Waiting.{step_on}
use Rattle.rule_warnings.proofs.selections.tell_waiting.Goals as goal

pub loop-parent-preserved : goal.loop-parent-preserved
loop-parent-preserved c =
    let s = schema_tree c.args.schema.now in
    let e : Bor NameValue × Bor Selection = (c.in-Some.parent, c.in-Some.selection) in
    let was : c.loop-parent.waiting.items ≡ c.pop.new.self.items ++ e ∷ [] = c.pop.ensures.items ∙ ap (λ o. c.pop.new.self.items ++ option_to_list o) c.in-Some.is in
    let rest = flat_map with_below (waiting_members c.push_own_members.new.waiting.items) in
    let old = uses_of c.loop-parent.uses in
    ap (λ l. l ⊕ flat_map (selection_uses s) rest) c.in_ok-tell_selection.ensures
    ∙ room_both old (selection_uses s (member_of e)) (flat_map (selection_uses s) rest)
    ∙ ap (λ l. old ⊕ flat_map (selection_uses s) l) (sym (step_on c.loop-parent.waiting.items c.pop.new.self.items c.push_own_members.new.waiting.items e was c.in_ok-push_own_members.ensures))
    ∙ c.loop-parent.invariant

pub loop-parent-smaller : goal.loop-parent-smaller
loop-parent-smaller c =
    let e : Bor NameValue × Bor Selection = (c.in-Some.parent, c.in-Some.selection) in
    let was : c.loop-parent.waiting.items ≡ c.pop.new.self.items ++ e ∷ [] = c.pop.ensures.items ∙ ap (λ o. c.pop.new.self.items ++ option_to_list o) c.in-Some.is in
    omega (arith, ap length (step_on c.loop-parent.waiting.items c.pop.new.self.items c.push_own_members.new.waiting.items e was c.in_ok-push_own_members.ensures))

pub returns : goal.returns
returns c =
    let s = schema_tree c.args.schema.now in
    let none : c.loop-parent.waiting.items ≡ [] = nil_from_length c.loop-parent.waiting.items (omega (arith, c.in_default.ensures.cases.0)) in
    ap (λ (l : List (Bor NameValue × Bor Selection)). uses_of c.loop-parent.uses ⊕ flat_map (selection_uses s) (flat_map with_below (waiting_members l))) (sym none) ∙ c.loop-parent.invariant
